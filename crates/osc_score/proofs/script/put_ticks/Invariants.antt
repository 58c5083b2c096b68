use Rattle.std.proofs.Common.{◌≡◌, ◌++◌, drop}
use Rattle.osc_script.specs.Written.{written}
use Rattle.osc_score.specs.Plans.{run_ticks}
use Rattle.osc_score.proofs.script.put_ticks.Given as goal

abbrev pub invariant-loop-run : goal.invariant-loop-run
invariant-loop-run l = l.script.items ++ written (run_ticks (drop l.run-index l.runs)) ≡ l.fn.script.items ++ written (run_ticks l.runs)
