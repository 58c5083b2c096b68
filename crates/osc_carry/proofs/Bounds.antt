-- How many bytes it takes at most.
use Rattle.std.proofs.Common.{◌≡◌, ℕ, suc, ◌+◌, ◌*◌, ◌≤◌, ◌==◌, nat_lt, min, Bool, true, false, cond, List, [], ◌∷◌, length, map, refl, arith, length-append}
use Rattle.std.proofs.Common.{◌/◌, All}
use Rattle.std.specs.List.{flat_map}
use Rattle.osc_atoms.specs.Atoms.{word}
use Rattle.osc_pattern.specs.Addresses.{IsAddress}
use Rattle.osc_pattern.specs.Methods.{Method, IsMethodList}
use Rattle.osc_packet.specs.Units.{TimedUnit, blocks, stored_size}
use Rattle.osc_packet.specs.Bundling.{bundled, sized}
use Rattle.osc_queue.specs.Timed.{due_of}
use Rattle.osc_model.specs.State.{State, Queued}
use Rattle.osc_model.specs.Counts.{queued_blocks}
use Rattle.osc_score.proofs.Lengths.{string_few, padding_few}
use Rattle.osc_alike.specs.Alike.{address_of}
use Rattle.osc_carry.specs.Carried.{packet_with, packet_of, ticks_size, send_size, queue_size, adds_size, carried_size}

tick_few : (now moment : ℕ) → ticks_size now moment ≤ 48
tick_few now moment = go (nat_lt now moment) where
  go : (t : Bool) → cond t 48 0 ≤ 48
  go true = omega arith
  go false = omega arith

elements_few : (messages : List (List ℕ)) → length (flat_map sized messages) ≡ stored_size messages
elements_few [] = refl
elements_few (bytes ∷ messages) =
    omega (arith, elements_few messages, length-append (sized bytes) (flat_map sized messages), length-append (word (length bytes)) bytes)

bundle_few : (own : ℕ) (messages : List (List ℕ)) → length (bundled (record { tag = own; messages = messages })) ≤ 16 + stored_size messages
bundle_few own messages = omega (arith, elements_few messages)

packet_few : (own : ℕ) (messages : List (List ℕ)) → length (packet_with own messages) ≤ 16 + stored_size messages
packet_few own [] = bundle_few own []
packet_few own (bytes ∷ []) = go (own == 1) where
  go : (t : Bool) → length (cond t bytes (bundled (record { tag = own; messages = bytes ∷ [] }))) ≤ 16 + stored_size (bytes ∷ [])
  go true = omega arith
  go false = bundle_few own (bytes ∷ [])
packet_few own (one ∷ other ∷ messages) = bundle_few own (one ∷ other ∷ messages)

whole_blocks : (n : ℕ) → n ≤ 64 * ((n + 63) / 64)
whole_blocks n = omega arith

unit_few : (unit : TimedUnit) → send_size (packet_of unit) ≤ 71 + 64 * blocks unit
unit_few unit =
    omega (arith, packet_few unit.tag unit.messages, padding_few (length (packet_of unit)), whole_blocks (stored_size unit.messages))

pub queue_few : (now clock : ℕ) (units : List Queued) → queue_size now clock units ≤ 48 + 119 * length units + 64 * queued_blocks units
queue_few now clock [] = omega (arith, tick_few now clock)
queue_few now clock (unit ∷ units) =
    omega (arith, tick_few now (min (due_of unit) clock), unit_few unit.2, queue_few (min (due_of unit) clock) clock units)

adds_few : (methods : List Method) → All (λ method. IsAddress method.address) methods → adds_size (map address_of methods) ≤ 299 * length methods
adds_few [] all = omega arith
adds_few (method ∷ methods) all =
    let one : IsAddress method.address = all 0 method (omega arith) in
    let short = one.short in
    omega (arith, string_few method.address, adds_few methods (λ i d below. all (suc i) d (omega arith)))

pub size_few : (state : State) → IsMethodList state.methods
    → carried_size state ≤ 108 + 299 * length state.methods + 119 * length state.queue + 64 * queued_blocks state.queue
size_few state list =
    omega (arith, adds_few state.methods list.lawful, queue_few 1 state.clock state.queue)
