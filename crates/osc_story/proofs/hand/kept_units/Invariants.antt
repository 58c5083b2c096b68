use Rattle.std.proofs.Common.{◌≡◌, ◌+◌, ◌++◌, length}
use Rattle.std.specs.Prelude.{filter}
use Rattle.osc_model.specs.Step.{is_kept}
use Rattle.osc_story.specs.Standings.{all_handed}
use Rattle.osc_story.proofs.hand.kept_units.Given as goal

-- those so far and those of the units that are left are all that are kept
abbrev pub invariant-loop-unit : goal.invariant-loop-unit
invariant-loop-unit l = record {
  can : (goal.iterator-loop-unit).can_next l.unit-iterator;
  finite : (goal.iterator-loop-unit).is_finite l.unit-iterator;
  said : l.kept.items ++ filter (λ item. is_kept l.hand.late l.hand.clock item.2.unit) (all_handed l.hand.caller l.hand.clock l.number l.unit-iterator)
      ≡ filter (λ item. is_kept l.hand.late l.hand.clock item.2.unit) (all_handed l.hand.caller l.hand.clock l.hand.first l.fn.units);
  numbers : l.number + length l.unit-iterator ≡ l.hand.first + length l.fn.units;
}
