use Rattle.std.proofs.Common.{◌≡◌, ◌++◌, map}
use Rattle.std.specs.Vec.Iter.{into_iter_items}
use Rattle.osc_links.proofs.link_ends.append_faults.Given as goal

abbrev pub invariant-loop-one : goal.invariant-loop-one
invariant-loop-one l =
    l.all.items ++ map (λ one. (l.fn.link, one.0, one.1)) (into_iter_items l.one-iterator)
    ≡ l.initial.all.items ++ map (λ one. (l.fn.link, one.0, one.1)) l.fn.faults.items
