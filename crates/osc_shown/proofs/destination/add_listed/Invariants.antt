use Rattle.std.proofs.Common.{◌≡◌, ◌++◌}
use Rattle.osc_shown.specs.Places.{hits, listed}
use Rattle.osc_shown.proofs.destination.add_listed.Given as goal

-- what is listed, and what the rest lists, is all
abbrev pub invariant-loop-left : goal.invariant-loop-left
invariant-loop-left l = l.out.items ++ listed l.left (hits l.pattern l.rest) ≡ l.initial.out.items ++ listed l.most (hits l.pattern l.routes)

abbrev pub decreases-loop-left : goal.decreases-loop-left
decreases-loop-left l = l.left
