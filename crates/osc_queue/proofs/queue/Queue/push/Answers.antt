use Rattle.std.proofs.Common.{◌∷◌, true, refl, sym, ap, subst, arith}
use Rattle.std.specs.List.Sorted.{IsPermutation}
use Rattle.osc_queue.specs.Timed.{Item}
use Rattle.osc_queue.specs.Views.{items_of}
use Rattle.osc_queue.proofs.Orders.{enter_joined}
use Rattle.osc_queue.proofs.Sorting.{sorted_ordered, apart_moved}
use Rattle.osc_queue.proofs.Heads.{order_head, order_long, push_bound, more_apart, joined_in}
use Rattle.osc_queue.proofs.queue.Queue.push.Goals as goal

pub returns-then-len-self-clause-full : goal.returns-then-len-self-clause-full
returns-then-len-self-clause-full g c =
    let long = order_long c.args.self.now.items c.self.inside.entries.items (ap (λ queue. queue.items) c.self.view_is) in (
      λ _. omega (arith, long, ap (λ queue. queue.limit) c.self.view_is, c.len.ensures, c.if-len-self.true, c.self.inside.entries.ok.0),
      λ _. refl {a = true},
    )

pub returns-then-len-self-clause-ordered : goal.returns-then-len-self-clause-ordered
returns-then-len-self-clause-ordered g c =
    order_head c.args.self.now.items c.self.inside.entries.items (ap (λ queue. queue.items) c.self.view_is) c.self.invariant.apart

pub invariant_of-self : goal.invariant_of-self
invariant_of-self g c =
    let item : Item g.row.T.Denot = (c.args.due, c.args.unit, c.args.item) in
    let xs = c.self.inside.entries.items in record {
      heap = c.enter_entry.ensures.heap;
      apart = apart_moved (item ∷ items_of xs) (items_of c.enter_entry.new.entries.items) c.enter_entry.ensures.joined
          (more_apart c.args.self.now.items xs item (ap (λ queue. queue.items) c.self.view_is) c.self.invariant.apart c.requires);
      within = omega (
        arith,
        c.enter_entry.ensures.len,
        c.self.invariant.within,
        c.len.ensures,
        c.if-len-self.false,
        c.self.inside.entries.ok.0,
        c.enter_entry.new.entries.ok.0,
      );
      reserved = omega (arith, c.self.invariant.reserved, c.enter_entry.ensures.capacity);
    }

pub returns-clause-full : goal.returns-clause-full
returns-clause-full g c =
    let long = order_long c.args.self.now.items c.self.inside.entries.items (ap (λ queue. queue.items) c.self.view_is) in (
      λ e. absurd (cc),
      λ same. absurd (omega (arith, same, long, ap (λ queue. queue.limit) c.self.view_is, c.len.ensures, c.if-len-self.false, c.self.inside.entries.ok.0)),
    )

pub returns-clause-ok : goal.returns-clause-ok
returns-clause-ok g c =
    let item : Item g.row.T.Denot = (c.args.due, c.args.unit, c.args.item) in
    let same = ap (λ queue. queue.items) c.self.view_is in
    joined_in c.args.self.now.items c.self.inside.entries.items c.enter_entry.new.entries.items item same
    (more_apart c.args.self.now.items c.self.inside.entries.items item same c.self.invariant.apart c.requires) c.enter_entry.ensures.joined

pub returns-clause-joined : goal.returns-clause-joined
returns-clause-joined g c =
    let item : Item g.row.T.Denot = (c.args.due, c.args.unit, c.args.item) in
    subst (IsPermutation (item ∷ c.args.self.now.items)) (sym (returns-clause-ok g c)) (enter_joined item c.args.self.now.items)

pub returns-clause-ordered : goal.returns-clause-ordered
returns-clause-ordered g c = sorted_ordered (items_of c.enter_entry.new.entries.items) (invariant_of-self g c).apart

pub returns-clause-bounded : goal.returns-clause-bounded
returns-clause-bounded g c =
    let long = order_long c.args.self.now.items c.self.inside.entries.items (ap (λ queue. queue.items) c.self.view_is) in
    push_bound _ c.self.inside.entries.len _ (omega (arith, long, c.self.inside.entries.ok.0)) c.enter_entry.ensures.bounded
