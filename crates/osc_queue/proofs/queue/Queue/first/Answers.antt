use Rattle.std.proofs.Common.{◌≡◌, ◌∷◌, List, Some, sym, ap, subst, ◌∙◌, drop}
use Rattle.std.specs.Prelude.{slice_get}
use Rattle.osc_queue.specs.declared.entry.Entry.{Entry}
use Rattle.osc_queue.specs.Views.{item_of, items_of, in_order}
use Rattle.osc_queue.proofs.Heads.{heap_order, order_head, read_first, head_empty, head_read, head_held, head_is_least}
use Rattle.osc_queue.proofs.queue.Queue.first.Goals as goal
use Rattle.osc_queue.proofs.queue.Queue.first.Goals.{In_ok-entry}

-- the first entry stands first
is_first : (g : _) (c : In_ok-entry g)
    → c.args.self.now.items ≡ item_of c.in_ok-entry.entry.now ∷ in_order (drop 1 (items_of c.self.inside.entries.items))
is_first g c =
    let read = read_first c.self.inside.entries.items c.in_ok-entry.entry.now
    (subst (λ (l : List (Entry g.row.T.Denot)). Some c.in_ok-entry.entry.now ≡ slice_get l 0) c.deref.ensures.value c.in_ok-entry.ensures.value) in
    sym (ap (λ queue. queue.items) c.self.view_is)
    ∙ heap_order c.self.inside.entries.items c.in_ok-entry.entry.now c.self.invariant.heap c.self.invariant.apart read.0 read.1

pub returns-clause-ordered : goal.returns-clause-ordered
returns-clause-ordered g c =
    order_head c.args.self.now.items c.self.inside.entries.items (ap (λ queue. queue.items) c.self.view_is) c.self.invariant.apart

pub returns-clause-empty : goal.returns-clause-empty
returns-clause-empty g c = head_empty c.args.self.now.items _ _ (is_first g (goal.at.returns-clause-empty g c).In_ok-entry)

pub returns-clause-head : goal.returns-clause-head
returns-clause-head g c = head_read c.args.self.now.items _ _ (is_first g (goal.at.returns-clause-head g c).In_ok-entry)

pub returns-clause-held : goal.returns-clause-held
returns-clause-held g c = head_held c.args.self.now.items _ _ (is_first g (goal.at.returns-clause-held g c).In_ok-entry)

pub returns-clause-least : goal.returns-clause-least
returns-clause-least g c =
    head_is_least c.args.self.now.items _ _ (is_first g (goal.at.returns-clause-least g c).In_ok-entry)
    (order_head c.args.self.now.items c.self.inside.entries.items (ap (λ queue. queue.items) c.self.view_is) c.self.invariant.apart)
