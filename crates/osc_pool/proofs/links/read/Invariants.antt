use Rattle.std.proofs.Common.{◌-◌, length}
use Rattle.osc_pool.proofs.Writing.{IsReading}
use Rattle.osc_pool.proofs.links.read.Given as goal

abbrev pub invariant-loop-done : goal.invariant-loop-done
invariant-loop-done l = IsReading l.blocks l.next l.first l.block (length l.fn.out) l.done l.out

abbrev pub decreases-loop-done : goal.decreases-loop-done
decreases-loop-done l = length l.out - l.done
