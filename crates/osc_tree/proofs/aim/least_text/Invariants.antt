use Rattle.std.proofs.Common.{◌≡◌, length, true, false}
use Rattle.std.specs.List.{list_any}
use Rattle.osc_pattern.specs.Items.{is_slash}
use Rattle.std.proofs.Common.{All}
use Rattle.std.specs.List.{slice_split}
use Rattle.osc_pattern.specs.Items.{is_comma}
use Rattle.osc_tree.specs.Walking.{is_ahead}
use Rattle.osc_tree.proofs.Choices.{Tried}
use Rattle.osc_tree.proofs.aim.least_text.Given as goal

abbrev pub invariant-loop-aim : goal.invariant-loop-aim
invariant-loop-aim l = record {
  ahead : is_ahead l.rest l.aim ≡ true;
  one : list_any is_slash l.aim ≡ false;
  pieces : All (λ text. list_any is_slash text ≡ false) (slice_split is_comma l.left);
  tried : Tried l.rest l.end l.texts l.left l.aim;
}

abbrev pub decreases-loop-aim : goal.decreases-loop-aim
decreases-loop-aim l = length l.left
