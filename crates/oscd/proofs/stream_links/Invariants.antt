use Rattle.std.proofs.Common.{◌≡◌, ◌+◌, ◌≤◌, length, map, string_bytes}
use Rattle.std.specs.Vec.Iter.{into_iter_items}
use Rattle.osc_top.specs.Commands.{ports_of}
use Rattle.oscd.proofs.stream_links.Given as goal

abbrev pub invariant-loop-port : goal.invariant-loop-port
invariant-loop-port l =
    (length l.links.items + length (into_iter_items l.port-iterator) ≡ length (ports_of (map string_bytes l.fn.words)))
    × (length l.links.items + length (into_iter_items l.port-iterator) ≤ 16)
