use Rattle.std.proofs.Common.{List, ℕ, length}
use Rattle.osc_console.specs.Agenda.{Waiter, AddsCalled}
use Rattle.osc_console.proofs.agenda.Agenda.called_lines.Given as goal

-- whatever is called of the units that are left, was called of all
abbrev pub invariant-loop-one : goal.invariant-loop-one
invariant-loop-one l = (left : List Waiter) (after : List ℕ)
    → AddsCalled l.view.look l.view.routes.now l.moment l.self.waiters.items left l.text.items after
    → AddsCalled l.view.look l.view.routes.now l.moment l.initial.self.waiters.items left l.initial.text.items after

abbrev pub decreases-loop-one : goal.decreases-loop-one
decreases-loop-one l = length l.self.waiters.items
