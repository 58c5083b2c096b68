use Rattle.osc_page.specs.States.{row_json}
use Rattle.osc_page.proofs.AddedTokens.{also}
use Rattle.osc_page.proofs.states.write_row.Goals as goal

pub returns : goal.returns
unfolding row_json
returns c = also c.in_ok-write_opening.ensures (also c.in_ok-write_word.ensures (also c.in_ok-write_text.ensures (also c.in_ok-write_number.ensures (also c.in_ok-write_moment.ensures (also c.in_ok-write_text-2.ensures (c.in_ok-write_closing.ensures))))))
