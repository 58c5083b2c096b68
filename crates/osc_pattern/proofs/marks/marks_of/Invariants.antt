use Rattle.std.proofs.Common.{◌≡◌, length}
use Rattle.osc_pattern.proofs.Moves.{MarkedTo}
use Rattle.osc_pattern.proofs.marks.marks_of.Given as goal

abbrev pub invariant-loop-place : goal.invariant-loop-place
invariant-loop-place l = (length l.marks ≡ 256) × MarkedTo l.marks l.name l.place
