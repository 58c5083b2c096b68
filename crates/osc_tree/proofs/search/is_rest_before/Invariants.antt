use Rattle.std.proofs.Common.{◌≡◌, ◌++◌, [], drop}
use Rattle.osc_tree.proofs.Ranges.{lower}
use Rattle.osc_tree.proofs.search.is_rest_before.Given as goal

abbrev pub invariant-loop-at : goal.invariant-loop-at
invariant-loop-at l = lower l.rest l.text ≡ lower (drop l.at l.rest) (drop l.at l.text ++ [])
