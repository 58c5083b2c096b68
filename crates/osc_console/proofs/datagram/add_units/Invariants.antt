use Rattle.std.proofs.Common.{List, ℕ}
use Rattle.osc_console.specs.Datagrams.{AddsUnits}
use Rattle.osc_console.proofs.datagram.add_units.Given as goal

abbrev pub invariant-loop-unit : goal.invariant-loop-unit
invariant-loop-unit l = record {
  can : (goal.iterator-loop-unit).can_next l.unit-iterator;
  finite : (goal.iterator-loop-unit).is_finite l.unit-iterator;
  goes : (after : List ℕ)
      → AddsUnits l.view.look l.view.late l.view.routes.now l.arrival l.submission l.unit-iterator l.text.items after
      → AddsUnits l.view.look l.view.late l.view.routes.now l.arrival l.submission l.initial.unit-iterator l.initial.text.items after;
}
