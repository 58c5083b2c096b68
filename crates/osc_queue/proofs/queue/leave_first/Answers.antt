use Rattle.std.proofs.Common.{◌∷◌, List, sym, subst, ◌∙◌, arith}
use Rattle.std.specs.List.Sorted.{IsPermutation}
use Rattle.std.proofs.lemmas.List.Sorted.{IsPermutation-trans, IsPermutation-map, IsPermutation-cons, IsPermutation-swap_remove, length_permutation}
use Rattle.osc_queue.specs.declared.entry.Entry.{Entry}
use Rattle.osc_queue.specs.Views.{item_of, items_of}
use Rattle.osc_queue.proofs.Heads.{back_whole}
use Rattle.osc_queue.proofs.queue.leave_first.Goals as goal

pub returns-clause-left : goal.returns-clause-left
returns-clause-left g c =
    let same = subst (λ (l : List (Entry g.row.T.Denot)). IsPermutation l c.sink.new.entries) c.deref_mut.ensures.value c.sink.ensures.same in
    let whole = back_whole c.swap_remove-first.new.self.len c.sink.new.entries _
    (length_permutation c.swap_remove-first.new.self.items c.sink.new.entries same ∙ sym c.swap_remove-first.new.self.ok.0) in
    let first = c.swap_remove-first.result in
    let out = subst (λ (l : List (Entry g.row.T.Denot)). IsPermutation c.args.entries.now.items (first ∷ l)) (sym c.swap_remove-first.ensures.items)
    (IsPermutation-swap_remove c.args.entries.now.items 0 first (omega (arith, c.requires.some, c.args.entries.now.ok.0)) c.swap_remove-first.ensures.value) in
    subst (λ (l : List (Entry g.row.T.Denot)). IsPermutation (items_of c.args.entries.now.items) (item_of first ∷ items_of l)) (sym whole)
    (IsPermutation-map item_of c.args.entries.now.items (first ∷ c.sink.new.entries)
    (IsPermutation-trans _ _ _ out (IsPermutation-cons first c.swap_remove-first.new.self.items c.sink.new.entries same)))
