use Rattle.std.proofs.Common.{◌≡◌, ◌+◌, ◌++◌, length, map}
use Rattle.std.specs.Vec.Iter.{into_iter_items}
use Rattle.osc_links.specs.Serves.{link_at, bound_to}
use Rattle.osc_links.proofs.link_work.number_links.Given as goal

abbrev pub invariant-loop-from : goal.invariant-loop-from
invariant-loop-from g l = record {
  works : map link_at l.works.items ++ map (bound_to l.bounds) (into_iter_items l.from-iterator) ≡ map (bound_to l.bounds) l.fn.links.from.items;
  count : l.link + length (into_iter_items l.from-iterator) ≡ length l.fn.links.from.items;
}
