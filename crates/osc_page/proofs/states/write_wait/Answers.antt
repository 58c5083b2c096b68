use Rattle.osc_page.specs.States.{wait_json}
use Rattle.osc_page.proofs.AddedTokens.{also}
use Rattle.osc_page.proofs.states.write_wait.Goals as goal

pub returns : goal.returns
unfolding wait_json
returns c = also c.in_ok-write_opening.ensures (also c.in_ok-write_number.ensures (also c.in_ok-write_moment.ensures (also c.in_ok-write_number-2.ensures (also c.in_ok-write_text.ensures (c.in_ok-write_closing.ensures)))))
