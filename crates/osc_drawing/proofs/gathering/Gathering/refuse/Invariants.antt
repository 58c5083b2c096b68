use Rattle.std.proofs.Common.{◌≡◌}
use Rattle.osc_drawing.specs.Gatherings.{all_refused}
use Rattle.osc_drawing.proofs.gathering.Gathering.refuse.Given as goal

abbrev pub invariant-loop-unit : goal.invariant-loop-unit
invariant-loop-unit l = record {
  can : (goal.iterator-loop-unit).can_next l.unit-iterator;
  finite : (goal.iterator-loop-unit).is_finite l.unit-iterator;
  said : all_refused l.story l.moment l.unit-iterator l.self ≡ all_refused l.fn.story l.fn.moment l.fn.units l.initial.self;
}
