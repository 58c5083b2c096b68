-- The acts that carry a server on can be written as lines.
use Rattle.osc_atoms.specs.declared.limits.TheConstants.{MAX_PACKET}
use Rattle.std.proofs.Common.{◌≡◌, ℕ, suc, ◌<◌, ◌^◌, ◌==◌, min, Bool, true, false, cond, nat_lt, IsTrue, List, [], ◌∷◌, length, map, All, arith}
use Rattle.std.specs.List.{AllByRecursion}
use Rattle.osc_atoms.specs.Atoms.{AreBytes}
use Rattle.osc_pattern.specs.Addresses.{IsAddress, is_address}
use Rattle.osc_pattern.specs.Methods.{Method}
use Rattle.osc_packet.specs.Bundling.{bundled}
use Rattle.osc_packet.specs.Known.{OfMessages}
use Rattle.osc_packet.specs.Reading.{is_packet}
use Rattle.osc_queue.specs.Timed.{due_of}
use Rattle.osc_model.specs.declared.late.Late.{Late}
use Rattle.osc_model.specs.State.{State, Queued}
use Rattle.osc_script.specs.declared.act.Act.{Act}
use Rattle.osc_script.specs.declared.act.Act.TheVariants.{Send, Tick}
use Rattle.osc_script.specs.Written.{IsWritable}
use Rattle.osc_score.proofs.Acts.{adds}
use Rattle.osc_score_laws.proofs.Lists.{all_on}
use Rattle.osc_alike.specs.Alike.{address_of}
use Rattle.osc_carry.specs.Carried.{packet_with, packet_of, ticks_to, queue_acts, carried_acts}
use Rattle.osc_carry.specs.Waiting.{CanBeSent, IsWaiting, AreWaiting}
use Rattle.osc_carry.proofs.Bytes.{bundle_bytes}
use Rattle.osc_carry.proofs.Packets.{read_alone}

abbrev AreWritable : List Act → Type 0
AreWritable acts = AllByRecursion IsWritable acts

-- addresses are spelled as the test wants them
abbrev pub AreSpelled : Type 0
AreSpelled = (address : List ℕ) → IsAddress address → IsTrue (is_address address)

adds_writable : AreSpelled → (methods : List Method) → All (λ method. IsAddress method.address) methods → AreWritable (adds (map address_of methods))
adds_writable spelled [] all = tt
adds_writable spelled (method ∷ methods) all =
    (spelled method.address (all 0 method (omega arith)), adds_writable spelled methods (λ i d below. all (suc i) d (omega arith)))

packet_bytes : (own : ℕ) (messages : List (List ℕ)) → AllByRecursion AreBytes messages → AreBytes (packet_with own messages)
packet_bytes own [] all = bundle_bytes own [] all
packet_bytes own (message ∷ []) all = go (own == 1) where
  go : (t : Bool) → AreBytes (cond t message (bundled (record { tag = own; messages = message ∷ [] })))
  go true = all.0
  go false = bundle_bytes own (message ∷ []) all
packet_bytes own (message ∷ other ∷ messages) all = bundle_bytes own (message ∷ other ∷ messages) all

some_packet : (bytes : List ℕ) → is_packet MAX_PACKET bytes ≡ true → 0 < length bytes
some_packet [] is = absurd (cc)
some_packet (byte ∷ bytes) is = omega arith

ticks_writable : (now moment : ℕ) → moment < 2 ^ 64 → AreWritable (ticks_to now moment)
ticks_writable now moment fits = go (nat_lt now moment) where
  go : (t : Bool) → AreWritable (cond t (Tick moment ∷ []) [])
  go true = (fits, tt)
  go false = tt

queue_writable : OfMessages → (late : Late) (now clock : ℕ) (units : List Queued) → clock < 2 ^ 64 → AllByRecursion (IsWaiting late clock) units
    → AreWritable (queue_acts now clock units)
queue_writable known late now clock [] fits waits = ticks_writable now clock fits
queue_writable known late now clock (unit ∷ units) fits waits =
    let moment : ℕ = min (due_of unit) clock in
    let sent : CanBeSent unit.2 = (waits.0).sent in
    let alone = read_alone known unit.2 sent in
    all_on IsWritable (ticks_to now moment) (Send (packet_of unit.2) ∷ queue_acts moment clock units) (ticks_writable now moment (omega arith)) (
      (packet_bytes unit.2.tag unit.2.messages sent.small, some_packet (packet_of unit.2) alone.read),
      queue_writable known late moment clock units fits waits.1,
    )

pub state_writable : OfMessages → AreSpelled → (state : State) → All (λ method. IsAddress method.address) state.methods → AreWaiting state
    → AllByRecursion IsWritable (carried_acts state)
state_writable known spelled state lawful waits =
    all_on IsWritable (adds (map address_of state.methods)) (queue_acts 1 state.clock state.queue) (adds_writable spelled state.methods lawful)
    (queue_writable known state.caps.late 1 state.clock state.queue waits.fits waits.each)
