-- The lines that carry a history on are played.
use Rattle.osc_atoms.specs.declared.limits.TheConstants.{MAX_PACKET}
use Rattle.std.proofs.Common.{◌≡◌, ℕ, ◌+◌, ◌≤◌, min, Bool, true, false, cond, nat_lt, List, [], ◌∷◌, length, map, Option, Some, None, refl, sym, ap, subst}
use Rattle.std.proofs.Common.{subst₂, arith}
use Rattle.std.specs.Prelude.{is_none}
use Rattle.std.specs.List.{AllByRecursion}
use Rattle.osc_pattern.specs.Methods.{Method, IsMethodList}
use Rattle.osc_packet.specs.Known.{OfMessages}
use Rattle.osc_packet.specs.Reading.{packet_fault}
use Rattle.osc_queue.specs.Timed.{due_of}
use Rattle.osc_model.specs.declared.late.Late.{Late}
use Rattle.osc_model.specs.Limits.{Limits, header_size}
use Rattle.osc_model.specs.State.{State, Queued, opening}
use Rattle.osc_model.specs.Events.{Entry}
use Rattle.osc_model.specs.History.{IsSound, Legal, after}
use Rattle.osc_model.proofs.Recordable.{after_caps}
use Rattle.osc_script.specs.declared.act.Act.{Act}
use Rattle.osc_script.specs.declared.act.Act.TheVariants.{Send, Tick}
use Rattle.osc_player.specs.Plain.{plain, fault_at}
use Rattle.osc_score.specs.Scores.{methods_from}
use Rattle.osc_score.proofs.Acts.{adds}
use Rattle.osc_score_laws.proofs.Lists.{all_on}
use Rattle.osc_score_laws.proofs.Playing.{IsFaultless, history_from, plain_is}
use Rattle.osc_score_laws.proofs.Plays.{Plays, plays_on}
use Rattle.osc_score_laws.proofs.Adds.{server, adds_play}
use Rattle.osc_score_laws.proofs.Adds as Scored
use Rattle.osc_alike.specs.Alike.{address_of}
use Rattle.osc_alike.proofs.Tables.{Same, same_length, same_nodes}
use Rattle.osc_carry.specs.Carried.{packet_of, ticks_to, queue_acts, queue_size, adds_size, carried_acts, carried_size, carried, renumbered, renewed}
use Rattle.osc_carry.specs.Leading.{with_room, IsCarriedOn, CarriesOn}
use Rattle.osc_carry.specs.Waiting.{IsWaiting, AreWaiting, AreOfBytes}
use Rattle.osc_carry.proofs.Packets.{read_alone}
use Rattle.osc_carry.proofs.Waits.{history_waits}
use Rattle.osc_carry.proofs.Queue.{queue_plays}
use Rattle.osc_carry.proofs.Methods.{same_list, from_addresses, from_ids}

-- no line is at fault

none_is : {X : Type 0} (o : Option X) → is_none o ≡ true → o ≡ None
none_is None is = refl
none_is (Some x) is = absurd (cc)

adds_faultless : (addresses : List (List ℕ)) → AllByRecursion IsFaultless (adds addresses)
adds_faultless [] = tt
adds_faultless (address ∷ addresses) = (λ number. refl, adds_faultless addresses)

ticks_faultless : (now moment : ℕ) → AllByRecursion IsFaultless (ticks_to now moment)
ticks_faultless now moment = go (nat_lt now moment) where
  go : (t : Bool) → AllByRecursion IsFaultless (cond t (Tick moment ∷ []) [])
  go true = (λ number. refl, tt)
  go false = tt

queue_faultless : OfMessages → (late : Late) (now clock : ℕ) (units : List Queued) → AllByRecursion (IsWaiting late clock) units
    → AllByRecursion IsFaultless (queue_acts now clock units)
queue_faultless known late now clock [] waits = ticks_faultless now clock
queue_faultless known late now clock (unit ∷ units) waits =
    let alone = read_alone known unit.2 (waits.0).sent in
    all_on IsFaultless (ticks_to now (min (due_of unit) clock)) (Send (packet_of unit.2) ∷ queue_acts (min (due_of unit) clock) clock units)
    (ticks_faultless now (min (due_of unit) clock)) (
      λ number. ap (fault_at number) (none_is (packet_fault MAX_PACKET (packet_of unit.2)) alone.read),
      queue_faultless known late (min (due_of unit) clock) clock units waits.1,
    )

sizes : (addresses : List (List ℕ)) → Scored.adds_size addresses ≡ adds_size addresses
sizes [] = refl
sizes (address ∷ addresses) = omega (arith, sizes addresses)

-- each unit is due from 1 on
due_from : (late : Late) (clock : ℕ) (units : List Queued) → AllByRecursion (IsWaiting late clock) units → AllByRecursion (λ unit. 1 ≤ due_of unit) units
due_from late clock [] waits = tt
due_from late clock (unit ∷ units) waits =
    let one = waits.0 in
    (omega (arith, one.opened, one.due), due_from late clock units waits.1)

pub state_carried : OfMessages → (state : State) (room : ℕ) → IsSound state → AreWaiting state → carried_size state ≤ room
    → Plays (opening (with_room state.caps room)) (carried_acts state) (renewed room state) []
state_carried known state room sound waits fits =
    let caps : Limits = with_room state.caps room in
    let addresses : List (List ℕ) = map address_of state.methods in
    let methods : List Method = methods_from 0 addresses in
    let tree = sound.methods in
    let list : IsMethodList state.methods = tree.list in
    let few = tree.few_methods in
    let few_nodes = tree.few_nodes in
    let few_units = sound.few_units in
    let few_blocks = sound.few_blocks in
    let opened = waits.opened in
    let alike : Same state.methods methods = sym (from_addresses 0 addresses) in
    let count : length state.methods ≡ length methods = same_length state.methods methods alike in
    let bytes : Scored.adds_size addresses ≡ adds_size addresses = sizes addresses in
    let start : ℕ = header_size + Scored.adds_size addresses in
    let none : 0 + length state.queue ≡ length state.queue = omega arith in
    let middle : State = server caps methods [] 1 0 start in
    let one : Plays (opening caps) (adds addresses) middle [] =
    adds_play caps [] addresses 1 0 header_size (same_list state.methods methods alike (from_ids addresses) list) (omega arith)
    (omega (arith, same_nodes state.methods methods alike)) (omega arith) in
    let two : Plays middle (queue_acts 1 state.clock state.queue)
    (server caps methods (renumbered 0 state.queue) state.clock (length state.queue) (start + queue_size 1 state.clock state.queue)) [] =
    subst (λ (n : ℕ). Plays middle (queue_acts 1 state.clock state.queue)
    (server caps methods (renumbered 0 state.queue) state.clock n (start + queue_size 1 state.clock state.queue)) []) none
    (queue_plays known caps methods state.clock [] state.queue 1 1 0 start (omega arith) waits.each sound.ordered
    (due_from state.caps.late state.clock state.queue waits.each) tt (omega arith) (omega arith) (omega arith)) in
    let total : start + queue_size 1 state.clock state.queue ≡ carried_size state = omega arith in
    let end : State = renewed room state in
    plays_on (opening caps) middle end (adds addresses) (queue_acts 1 state.clock state.queue) [] [] one
    (subst₂ (λ (n m : ℕ). Plays middle (queue_acts 1 state.clock state.queue) (record end { next_id = n; recorded = m }) []) (sym count) total two)

pub history_carried : OfMessages → (caps : Limits) (history : List Entry) (room : ℕ) → Legal caps history → AreOfBytes history
    → IsSound (after (opening caps) history) → carried_size (after (opening caps) history) ≤ room → CarriesOn caps history room
history_carried known caps history room legal bytes sound fits =
    let waits : AreWaiting (after (opening caps) history) = history_waits known caps history legal bytes in
    let same : (after (opening caps) history).caps ≡ caps = after_caps (opening caps) history in
    let state : State = after (opening caps) history in
    let acts : List Act = carried_acts state in
    let start : State = opening (with_room caps room) in
    let plays : Plays start acts (renewed room state) [] =
    subst (λ (c : Limits). Plays (opening (with_room c room)) acts (renewed room state) []) same (state_carried known state room sound waits fits) in
    let played : plain (with_room caps room) (carried caps history) ≡ record { history = history_from start acts; faults = []; stop = None } =
    plain_is start 1 acts
    (all_on IsFaultless (adds (map address_of state.methods)) (queue_acts 1 state.clock state.queue) (adds_faultless (map address_of state.methods))
    (queue_faultless known state.caps.late 1 state.clock state.queue waits.each)) plays.goes_on in
    subst (IsCarriedOn caps history room) (sym played) (record { accepted = plays.accepted; faultless = refl; goes_on = refl; state = plays.ends })
