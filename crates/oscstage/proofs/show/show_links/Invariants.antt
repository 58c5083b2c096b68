use Rattle.std.proofs.Common.{◌≤◌, ◌+◌, length}
use Rattle.std.specs.Vec.Iter.{into_iter_items}
use Rattle.oscstage.proofs.show.show_links.Given as goal

abbrev pub invariant-loop-link : goal.invariant-loop-link
invariant-loop-link g l = length l.shown.items + length (into_iter_items l.link-iterator) ≤ length l.fn.links.items
