use Rattle.std.proofs.Common.{◌≡◌, ◌++◌, length}
use Rattle.osc_script.specs.Written.{written}
use Rattle.osc_score.specs.Plans.{run_batches}
use Rattle.osc_score.proofs.script.put_batches.Given as goal

abbrev pub invariant-loop-rest : goal.invariant-loop-rest
invariant-loop-rest l = l.script.items ++ written (run_batches (length l.rest) l.rest) ≡ l.fn.script.items ++ written (run_batches (length l.runs) l.runs)

abbrev pub decreases-loop-rest : goal.decreases-loop-rest
decreases-loop-rest l = length l.rest
