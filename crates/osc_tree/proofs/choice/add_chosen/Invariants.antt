use Rattle.std.proofs.Common.{◌≡◌, ◌≤◌, ◌++◌, length, vec_capacity}
use Rattle.std.specs.List.{slice_split}
use Rattle.osc_pattern.specs.Items.{is_comma}
use Rattle.osc_tree.specs.Choosing.{AreInOrder}
use Rattle.osc_tree.proofs.Gathered.{chosen_ids}
use Rattle.osc_tree.proofs.choice.add_chosen.Given as goal

abbrev pub invariant-loop-more : goal.invariant-loop-more
invariant-loop-more l = record {
  ids : l.ids.items ++ chosen_ids l.methods l.places l.choice.front.now l.choice.back.now (slice_split is_comma l.left)
      ≡ chosen_ids l.methods l.places l.choice.front.now l.choice.back.now (slice_split is_comma l.choice.texts.now);
  order : AreInOrder l.choice.back.now (slice_split is_comma l.left);
  capacity : vec_capacity l.initial.ids ≤ vec_capacity l.ids;
}

abbrev pub decreases-loop-more : goal.decreases-loop-more
decreases-loop-more l = length l.left
