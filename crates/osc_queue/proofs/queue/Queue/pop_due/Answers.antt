use Rattle.std.proofs.Common.{◌≡◌, ◌<◌, ◌≤◌, List, length, get_or, false, Some, refl, sym, ap, subst, ◌∙◌, arith, drop}
use Rattle.std.specs.Prelude.{slice_get}
use Rattle.osc_queue.specs.declared.entry.Entry.{Entry}
use Rattle.osc_queue.specs.Timed.{due_of}
use Rattle.osc_queue.specs.Views.{item_of, items_of, in_order}
use Rattle.osc_queue.proofs.Sorting.{sorted_ordered}
use Rattle.osc_queue.proofs.Heads.{heap_order, order_head, order_long, read_first, none_due, not_due, same_first, taken_out, still_apart, head_is_least}
use Rattle.osc_queue.proofs.Heads.{pop_bound}
use Rattle.osc_queue.proofs.queue.Queue.pop_due.Goals as goal
use Rattle.osc_queue.proofs.queue.Queue.pop_due.Goals.{In_ok-first}

-- the first entry, as it is read
read : (g : _) (c : In_ok-first g)
    → (0 < length c.self.inside.entries.items) × (c.in_ok-first.field-0.now ≡ get_or c.self.inside.entries.items 0 c.in_ok-first.field-0.now)
read g c =
    read_first c.self.inside.entries.items c.in_ok-first.field-0.now
    (subst (λ (l : List (Entry g.row.T.Denot)). Some c.in_ok-first.field-0.now ≡ slice_get l 0) c.deref.ensures.value c.in_ok-first.ensures.value)

pub returns-then-branch-now-clause-ordered : goal.returns-then-branch-now-clause-ordered
returns-then-branch-now-clause-ordered g c =
    order_head c.args.self.now.items c.self.inside.entries.items (ap (λ queue. queue.items) c.self.view_is) c.self.invariant.apart

pub returns-then-branch-now-clause-none : goal.returns-then-branch-now-clause-none
returns-then-branch-now-clause-none g c =
    let at = read g (goal.at.returns-then-branch-now-clause-none g c).In_ok-first in
    let front = c.in_ok-first.field-0.now in (
      λ _. none_due c.args.now (item_of front) c.args.self.now.items (in_order (drop 1 (items_of c.self.inside.entries.items)))
          (sym (ap (λ queue. queue.items) c.self.view_is)
          ∙ heap_order c.self.inside.entries.items front c.self.invariant.heap c.self.invariant.apart at.0 at.1)
          (returns-then-branch-now-clause-ordered g c) c.if-branch-now.true,
      λ _. refl {a = false},
    )

pub returns-clause-taken : goal.returns-clause-taken
returns-clause-taken g c =
    let at = read g (goal.at.returns-clause-taken g c).In_ok-first in
    taken_out c.args.self.now.items c.self.inside.entries.items c.leave_first-due.new.entries.items c.leave_first-due.result
    (ap (λ queue. queue.items) c.self.view_is) c.self.invariant.heap c.self.invariant.apart at.0 c.leave_first-due.ensures.first c.leave_first-due.ensures.left

pub invariant_of-self : goal.invariant_of-self
invariant_of-self g c = record {
  heap = c.leave_first-due.ensures.heap;
  apart = still_apart c.self.inside.entries.items c.leave_first-due.new.entries.items c.leave_first-due.result c.self.invariant.apart
      c.leave_first-due.ensures.left;
  within = omega (arith, c.self.invariant.within, c.leave_first-due.ensures.len, c.self.inside.entries.ok.0, c.leave_first-due.new.entries.ok.0);
  reserved = omega (arith, c.self.invariant.reserved, c.leave_first-due.ensures.capacity);
}

pub returns-clause-ordered : goal.returns-clause-ordered
returns-clause-ordered g c = sorted_ordered (items_of c.leave_first-due.new.entries.items) (invariant_of-self g c).apart

pub returns-clause-least : goal.returns-clause-least
returns-clause-least g c =
    head_is_least c.args.self.now.items _ _ (returns-clause-taken g c)
    (order_head c.args.self.now.items c.self.inside.entries.items (ap (λ queue. queue.items) c.self.view_is) c.self.invariant.apart)

pub returns-clause-none : goal.returns-clause-none
returns-clause-none g c =
    let at = read g (goal.at.returns-clause-none g c).In_ok-first in
    let same = same_first c.self.inside.entries.items c.in_ok-first.field-0.now c.leave_first-due.result at.0 at.1 c.leave_first-due.ensures.first in
    let due : due_of (item_of c.leave_first-due.result) ≤ c.args.now =
    subst (λ (e : Entry g.row.T.Denot). e.due ≤ c.args.now) same (omega (arith, c.if-branch-now.false)) in
    (λ e. absurd (cc), λ none. absurd (not_due c.args.now _ c.args.self.now.items _ (returns-clause-taken g c) due none))

pub returns-clause-bounded : goal.returns-clause-bounded
returns-clause-bounded g c =
    let long = order_long c.args.self.now.items c.self.inside.entries.items (ap (λ queue. queue.items) c.self.view_is) in
    pop_bound _ c.self.inside.entries.len _ (omega (arith, long, c.self.inside.entries.ok.0)) c.leave_first-due.ensures.bounded
