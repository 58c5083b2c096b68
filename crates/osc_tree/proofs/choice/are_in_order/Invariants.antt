use Rattle.std.proofs.Common.{length}
use Rattle.std.specs.List.{slice_split}
use Rattle.osc_pattern.specs.Items.{is_comma}
use Rattle.osc_tree.specs.Choosing.{AreInOrder, IsChain}
use Rattle.osc_tree.proofs.choice.are_in_order.Given as goal

abbrev pub invariant-loop-text : goal.invariant-loop-text
invariant-loop-text l = IsChain l.back l.last (slice_split is_comma l.left) → AreInOrder l.back (slice_split is_comma l.texts)

abbrev pub decreases-loop-text : goal.decreases-loop-text
decreases-loop-text l = length l.left
