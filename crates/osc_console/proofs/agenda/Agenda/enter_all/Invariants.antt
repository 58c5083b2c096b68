use Rattle.std.proofs.Common.{◌≡◌}
use Rattle.osc_console.specs.Agenda.{enter_all}
use Rattle.osc_console.proofs.agenda.Agenda.enter_all.Given as goal

-- what waits so far, after the units that are left, is what waits after all
abbrev pub invariant-loop-unit : goal.invariant-loop-unit
invariant-loop-unit l = record {
  can : (goal.iterator-loop-unit).can_next l.unit-iterator;
  finite : (goal.iterator-loop-unit).is_finite l.unit-iterator;
  said : enter_all l.late l.submission l.sender l.unit-iterator l.self.waiters.items
      ≡ enter_all l.late l.submission l.sender l.initial.unit-iterator l.initial.self.waiters.items;
}
