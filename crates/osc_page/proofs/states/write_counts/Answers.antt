use Rattle.osc_page.specs.States.{counts_json}
use Rattle.osc_page.proofs.AddedTokens.{also}
use Rattle.osc_page.proofs.states.write_counts.Goals as goal

pub returns : goal.returns
unfolding counts_json
returns c = also c.in_ok-write_opening.ensures (also c.in_ok-write_number.ensures (also c.in_ok-write_number-2.ensures (also c.in_ok-write_number-3.ensures (also c.in_ok-write_number-4.ensures (also c.in_ok-write_number-5.ensures (also c.in_ok-write_number-6.ensures (also c.in_ok-write_number-7.ensures (c.in_ok-write_closing.ensures))))))))
