use Rattle.std.proofs.Common.{◌≡◌, length}
use Rattle.osc_pattern.specs.Patterns.{part_at}
use Rattle.osc_pattern.specs.ReadyParts.{StandsFor}
use Rattle.osc_tree.proofs.Tables.{Filled}
use Rattle.osc_tree.proofs.parts.find_parts.Given as goal

abbrev pub invariant-loop-place : goal.invariant-loop-place
invariant-loop-place l = (length l.found ≡ 16) × Filled (λ place part. StandsFor part (part_at l.pattern place)) l.found l.place
