use Rattle.std.proofs.Common.{◌≡◌, ◌++◌, drop}
use Rattle.osc_script.specs.Written.{written}
use Rattle.osc_score.specs.Plans.{run_sends}
use Rattle.osc_score.proofs.script.put_sends.Given as goal

abbrev pub invariant-loop-run : goal.invariant-loop-run
invariant-loop-run l = l.script.items ++ written (run_sends (drop l.run-index l.runs)) ≡ l.fn.script.items ++ written (run_sends l.runs)
