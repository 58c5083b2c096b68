use Rattle.osc_page.specs.States.{row_json}
use Rattle.osc_page.proofs.AddedTokens.{array_added}
use Rattle.osc_page.proofs.states.write_rows.Goals as goal

pub returns : goal.returns
returns c = array_added row_json c.args.rows.now c.in_ok-write_start.ensures c.in_ok-write_each_row.ensures c.in_ok-write_end.ensures
