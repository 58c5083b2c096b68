use Rattle.std.proofs.Common.{◌≡◌}
use Rattle.osc_drawing.specs.Gatherings.{all_queued}
use Rattle.osc_drawing.proofs.gathering.Gathering.queue.Given as goal

abbrev pub invariant-loop-unit : goal.invariant-loop-unit
invariant-loop-unit l = record {
  can : (goal.iterator-loop-unit).can_next l.unit-iterator;
  finite : (goal.iterator-loop-unit).is_finite l.unit-iterator;
  said : all_queued l.story l.moment l.number l.unit-iterator l.self ≡ all_queued l.fn.story l.fn.moment l.fn.first l.fn.units l.initial.self;
}
