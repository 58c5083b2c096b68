use Rattle.osc_page.specs.States.{wait_json}
use Rattle.osc_page.proofs.AddedTokens.{array_added}
use Rattle.osc_page.proofs.states.write_waits.Goals as goal

pub returns : goal.returns
returns c = array_added wait_json c.args.waits.now c.in_ok-write_start.ensures c.in_ok-write_each_wait.ensures c.in_ok-write_end.ensures
