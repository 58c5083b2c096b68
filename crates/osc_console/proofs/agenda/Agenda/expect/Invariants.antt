use Rattle.std.proofs.Common.{◌≡◌}
use Rattle.osc_console.specs.Agenda.{expect_all}
use Rattle.osc_console.proofs.agenda.Agenda.expect.Given as goal

-- what waits so far, after the units that are left, is what waits after all
abbrev pub invariant-loop-unit : goal.invariant-loop-unit
invariant-loop-unit l = record {
  can : (goal.iterator-loop-unit).can_next l.unit-iterator;
  finite : (goal.iterator-loop-unit).is_finite l.unit-iterator;
  said : expect_all l.unit-iterator l.self.waiters.items ≡ expect_all l.initial.unit-iterator l.initial.self.waiters.items;
}
