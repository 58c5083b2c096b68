use Rattle.std.proofs.Common.{List, ℕ}
use Rattle.osc_record.specs.Shown.{answer_of}
use Rattle.osc_report.specs.Entries.{AddsSubmit}
use Rattle.osc_report.proofs.submit.add_units.Given as goal

-- whatever the units that are left add, all add
abbrev pub invariant-loop-unit : goal.invariant-loop-unit
invariant-loop-unit l = record {
  can : (goal.iterator-loop-unit).can_next l.unit-iterator;
  finite : (goal.iterator-loop-unit).is_finite l.unit-iterator;
  goes : (after : List ℕ) → AddsSubmit l.options l.front l.story (answer_of l.answer) l.unit-iterator l.out.items after
      → AddsSubmit l.options l.front l.story (answer_of l.answer) l.initial.unit-iterator l.initial.out.items after;
}
