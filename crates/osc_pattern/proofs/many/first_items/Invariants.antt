use Rattle.std.proofs.Common.{◌≤◌, length}
use Rattle.osc_pattern.proofs.many.first_items.Given as goal

abbrev pub invariant-loop : goal.invariant-loop
invariant-loop l = length l.rest ≤ length l.part
