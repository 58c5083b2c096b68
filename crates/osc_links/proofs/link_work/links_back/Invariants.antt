use Rattle.std.proofs.Common.{◌≡◌, ◌++◌, map}
use Rattle.std.specs.Vec.Iter.{into_iter_items}
use Rattle.osc_links.specs.Serves.{link_of}
use Rattle.osc_links.proofs.link_work.links_back.Given as goal

abbrev pub invariant-loop-work : goal.invariant-loop-work
invariant-loop-work g l = l.links.items ++ map link_of (into_iter_items l.work-iterator) ≡ map link_of l.fn.works.items
