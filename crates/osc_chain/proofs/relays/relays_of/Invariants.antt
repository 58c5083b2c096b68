use Rattle.std.proofs.Common.{◌≡◌, ◌++◌, map}
use Rattle.std.specs.Vec.Iter.{into_iter_items}
use Rattle.osc_chain.proofs.relays.relays_of.Given as goal

abbrev pub invariant-loop-relay : goal.invariant-loop-relay
invariant-loop-relay g l =
    l.relays.items ++ map (λ one. one.1) (into_iter_items l.relay-iterator) ≡ map (λ one. one.1) l.fn.kept.items
