use Rattle.osc_page.specs.States.{board_json}
use Rattle.osc_page.proofs.AddedTokens.{also}
use Rattle.osc_page.proofs.states.write_parts.Goals as goal

pub returns : goal.returns
unfolding board_json
returns c = also c.in_ok-write_opening.ensures (also c.in_ok-write_moment.ensures (also c.in_ok-write_name.ensures (also c.in_ok-write_counts.ensures (also c.in_ok-write_name-2.ensures (also c.in_ok-write_rows.ensures (also c.in_ok-write_name-3.ensures (also c.in_ok-write_waits.ensures (c.in_ok-write_closing.ensures))))))))
