use Rattle.std.proofs.Common.{◌≡◌, ◌++◌, length}
use Rattle.osc_shown.specs.Numbers.{grouped}
use Rattle.osc_shown.proofs.number.add_grouped.Given as goal

-- what is added, and what the rest adds, is all
abbrev pub invariant-loop-first : goal.invariant-loop-first
invariant-loop-first l = l.out.items ++ grouped l.rest ≡ l.initial.out.items ++ grouped l.digits

abbrev pub decreases-loop-first : goal.decreases-loop-first
decreases-loop-first l = length l.rest
