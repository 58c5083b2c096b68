use Rattle.std.proofs.Common.{◌∷◌, List, sym, subst, ◌∙◌}
use Rattle.std.specs.List.Sorted.{IsPermutation}
use Rattle.std.proofs.lemmas.List.Sorted.{length_permutation}
use Rattle.osc_queue.specs.declared.entry.Entry.{Entry}
use Rattle.osc_queue.specs.Views.{item_of, items_of}
use Rattle.osc_queue.proofs.Heads.{back_whole, entered}
use Rattle.osc_queue.proofs.queue.enter_entry.Goals as goal

pub returns-clause-joined : goal.returns-clause-joined
returns-clause-joined g c =
    let same = subst (λ (l : List (Entry g.row.T.Denot)). IsPermutation l c.rise.new.entries) c.deref_mut.ensures.value c.rise.ensures.same in
    let whole = back_whole c.push.new.self.len c.rise.new.entries _
    (length_permutation c.push.new.self.items c.rise.new.entries same ∙ sym c.push.new.self.ok.0) in
    subst (λ (l : List (Entry g.row.T.Denot)). IsPermutation (item_of c.args.entry ∷ items_of c.args.entries.now.items) (items_of l)) (sym whole)
    (entered c.args.entry c.args.entries.now.items c.push.new.self.items c.rise.new.entries c.in-Ok.ensures.items same)
