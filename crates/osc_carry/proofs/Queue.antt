-- The units that wait are sent again, each at its moment, and stand as they stood.
use Rattle.std.proofs.Common.{◌≡◌, ℕ, suc, ◌+◌, ◌-◌, ◌<◌, ◌≤◌, ◌==◌, ◌||◌, ◌&&◌, max, min, Bool, true, false, cond, not, nat_lt, List, [], ◌∷◌, ◌++◌, length}
use Rattle.std.proofs.Common.{insert, refl, sym, ap, ◌∙◌, subst, subst₂}
use Rattle.std.proofs.Common.{append_assoc, append-nil, length-append, arith}
use Rattle.std.specs.List.{AllByRecursion, position_or_len}
use Rattle.std.proofs.lemmas.Bool.Decides.{nat_tests}
use Rattle.std.proofs.lemmas.List.Edits.{insert_end}
use Rattle.osc_pattern.specs.Methods.{Method}
use Rattle.osc_packet.specs.Units.{TimedUnit, blocks, blocks_of}
use Rattle.osc_packet.specs.Known.{OfMessages}
use Rattle.osc_queue.specs.Timed.{due_of, unit_of, is_before, enter, IsInOrder}
use Rattle.osc_model.specs.declared.late.Late.{Late}
use Rattle.osc_model.specs.declared.late.Late.TheVariants.{Deliver, Discard}
use Rattle.osc_model.specs.Limits.{Limits}
use Rattle.osc_model.specs.State.{State, Queued}
use Rattle.osc_model.specs.Counts.{queued_blocks, free_places, free_blocks}
use Rattle.osc_model.specs.Events.{submit, tick, queued, units_full, pool_full, ticked, clock_back}
use Rattle.osc_model.specs.Step.{Stepped, step, decided, leaves, waiting, is_kept, enter_all, submit_units}
use Rattle.osc_model.proofs.Stepping.{noted}
use Rattle.osc_script.specs.declared.act.Act.TheVariants.{Send, Tick}
use Rattle.osc_player.specs.Plain.{sent, stop_sent}
use Rattle.osc_score_laws.proofs.Steps.{step_is, has_room}
use Rattle.osc_score_laws.proofs.Plays.{Plays, none_plays, plays_on, one_plays}
use Rattle.osc_score_laws.proofs.Adds.{server}
use Rattle.osc_carry.specs.Carried.{packet_of, ticks_to, queue_acts, ticks_size, send_size, queue_size, renumbered}
use Rattle.osc_carry.specs.Waiting.{IsWaiting}
use Rattle.osc_carry.proofs.Packets.{IsReadAlone, read_alone}

-- The clock.

not_back : (now moment : ℕ) → nat_lt now moment ≡ true → nat_lt moment now ≡ false
not_back now moment less = grind (arith, nat_tests)

at_once : (now moment : ℕ) → now ≤ moment → nat_lt now moment ≡ false → now ≡ moment
at_once now moment up still = grind (arith, nat_tests)

pub tick_plays : (caps : Limits) (methods : List Method) (queue : List Queued) (now next recorded moment : ℕ) → now ≤ moment
    → recorded + ticks_size now moment ≤ caps.recording
    → Plays (server caps methods queue now next recorded) (ticks_to now moment) (server caps methods queue moment next (recorded + ticks_size now moment)) []
tick_plays caps methods queue now next recorded moment up fits = go (nat_lt now moment) refl fits where
  state : State
  state = server caps methods queue now next recorded

  go : (t : Bool) → nat_lt now moment ≡ t → recorded + cond t 48 0 ≤ caps.recording
      → Plays state (cond t (Tick moment ∷ []) []) (server caps methods queue moment next (recorded + cond t 48 0)) []
  go true less fits =
      let moved : Stepped = leaves (record state { clock = moment }) ticked in
      let is : step state (tick moment) ≡ noted state 48 moved =
      step_is state (tick moment) moved (ap (λ (t : Bool). cond t (leaves state (clock_back now)) moved) (not_back now moment less)) refl fits in
      one_plays state (Tick moment) (tick moment) (noted state 48 moved) refl refl is
      (record { adds = refl; fine = λ no. no; room = refl; silent = refl })
  go false still fits =
      let same : recorded ≡ recorded + 0 = omega arith in
      subst₂ (λ (m n : ℕ). Plays state [] (server caps methods queue m next n) []) (at_once now moment up still) same (none_plays state)

-- One unit.

-- all units of the queue are taken before the item
abbrev AreBehind : Queued → List Queued → Type 0
AreBehind item items = AllByRecursion (λ other. is_before item other ≡ false) items

none_before : (item : Queued) (items : List Queued) → AreBehind item items → position_or_len (is_before item) items ≡ length items
none_before item [] all = refl
none_before item (other ∷ items) all =
    ap (λ (t : Bool). cond (not t) (1 + position_or_len (is_before item) items) 0) all.0
    ∙ omega (arith, none_before item items all.1)

enter_last : (item : Queued) (items : List Queued) → AreBehind item items → enter item items ≡ items ++ item ∷ []
enter_last item items all = ap (λ (n : ℕ). insert items n item) (none_before item items all) ∙ insert_end items item

-- a unit that comes at the moment from which it is due, or at a clock before it, is due from the same moment
due_again : (tag came clock due : ℕ) → came ≤ clock → due ≡ max tag came → max tag (min due clock) ≡ due
due_again tag came clock due past is = omega arith

not_late : (tag came clock due : ℕ) → came ≤ clock → due ≡ max tag came → not (not (tag == 1) && nat_lt tag came) ≡ true
    → not (not (tag == 1) && nat_lt tag (min due clock)) ≡ true
not_late tag came clock due past is kept = grind (arith, nat_tests)

kept_again : (late : Late) (came clock due : ℕ) (unit : TimedUnit) → came ≤ clock → due ≡ max unit.tag came → is_kept late came unit ≡ true
    → is_kept late (min due clock) unit ≡ true
kept_again Deliver came clock due unit past is kept = refl
kept_again Discard came clock due unit past is kept = not_late unit.tag came clock due past is kept

-- a unit takes the next number, and is queued or not
abbrev with_one : State → TimedUnit → Bool → Stepped
with_one state unit t =
    leaves (record state {
      queue = enter_all (cond t (waiting state.clock state.next_unit unit ∷ []) []) state.queue;
      next_unit = state.next_unit + 1;
    })
    (queued state.next_unit 1 (1 - length (cond t (unit ∷ []) [])))

abbrev submits_one : State → TimedUnit → Bool → Stepped
submits_one state unit t =
    let keeps : List TimedUnit = cond t (unit ∷ []) [] in
    cond (nat_lt (free_places state) (length keeps)) (leaves state (units_full (record { need = length keeps; free = free_places state })))
    (cond (nat_lt (free_blocks state) (blocks_of keeps)) (leaves state (pool_full (record { need = blocks_of keeps; free = free_blocks state })))
    (with_one state unit t))

abbrev queues : State → TimedUnit → Stepped
queues state unit =
    leaves (record state { queue = enter (waiting state.clock state.next_unit unit) state.queue; next_unit = state.next_unit + 1 }) (queued state.next_unit 1 0)

-- one unit that is kept is queued where there is room for it
one_queued : (state : State) (unit : TimedUnit) → is_kept state.caps.late state.clock unit ≡ true → length state.queue + 1 ≤ state.caps.units
    → queued_blocks state.queue + blocks unit ≤ state.caps.blocks → submit_units state (unit ∷ []) ≡ queues state unit
one_queued state unit kept place room =
    let done : Stepped = queues state unit in
    ap (submits_one state unit) kept
    ∙ ap (λ (t : Bool). cond t (leaves state (units_full (record { need = 1; free = free_places state })))
    (cond (nat_lt (free_blocks state) (blocks unit + 0)) (leaves state (pool_full (record { need = blocks unit + 0; free = free_blocks state }))) done))
    (has_room state.caps.units (length state.queue) 1 place)
    ∙ ap (λ (t : Bool). cond t (leaves state (pool_full (record { need = blocks unit + 0; free = free_blocks state }))) done)
    (has_room state.caps.blocks (queued_blocks state.queue) (blocks unit + 0) (omega arith))

-- its packet is sent
pub send_plays : OfMessages → (caps : Limits) (methods : List Method) (queue : List Queued) (now next recorded clock : ℕ) (unit : Queued)
    → IsWaiting caps.late clock unit → now ≡ min (due_of unit) clock → AreBehind (due_of unit, next, unit.2) queue
    → length queue + 1 ≤ caps.units → queued_blocks queue + blocks unit.2 ≤ caps.blocks → recorded + send_size (packet_of unit.2) ≤ caps.recording
    → Plays (server caps methods queue now next recorded) (Send (packet_of unit.2) ∷ [])
    (server caps methods (queue ++ (due_of unit, next, unit.2) ∷ []) now (next + 1) (recorded + send_size (packet_of unit.2))) []
send_plays known caps methods queue now next recorded clock unit waits at behind place room fits =
    let state : State = server caps methods queue now next recorded in
    let packet : List ℕ = packet_of unit.2 in
    let alone : IsReadAlone unit.2 = read_alone known unit.2 waits.sent in
    let kept : is_kept caps.late now unit.2 ≡ true =
    subst (λ (m : ℕ). is_kept caps.late m unit.2 ≡ true) (sym at) (kept_again caps.late waits.came clock
    (due_of unit) unit.2 waits.past waits.due waits.kept) in
    let decides : decided state (submit packet) ≡ queues state unit.2 = ap (submit_units state) alone.alone ∙ one_queued state unit.2 kept place room in
    let after : Stepped = noted state (send_size packet) (queues state unit.2) in
    let is : step state (submit packet) ≡ after = step_is state (submit packet) (queues state unit.2) decides refl fits in
    let one : Plays state (Send packet ∷ []) after.state [] =
    one_plays state (Send packet) (submit packet) after (ap (sent state packet) alone.read) (ap (stop_sent state packet) alone.read) is
    (record { adds = refl; fine = λ no. no; room = refl; silent = refl }) in
    let due : max (unit.2).tag now ≡ due_of unit =
    ap (λ (m : ℕ). max (unit.2).tag m) at ∙ due_again (unit.2).tag waits.came clock (due_of unit) waits.past waits.due in
    let entered : enter (waiting now next unit.2) queue ≡ queue ++ (due_of unit, next, unit.2) ∷ [] =
    ap (λ (n : ℕ). enter (n, next, unit.2) queue) due ∙ enter_last (due_of unit, next, unit.2) queue behind in
    let there : State = server caps methods (queue ++ (due_of unit, next, unit.2) ∷ []) now (next + 1) (recorded + send_size packet) in
    subst (λ (q : List Queued). Plays state (Send packet ∷ []) (record there { queue = q }) []) entered one

-- All units.

-- those that were sent are due up to a moment, and have numbers below the next one
abbrev AreUpTo : ℕ → ℕ → List Queued → Type 0
AreUpTo bound next queue = AllByRecursion (λ other. (due_of other ≤ bound) × (unit_of other < next)) queue

-- those that aren't are due from it on
abbrev AreFrom : ℕ → List Queued → Type 0
AreFrom bound units = AllByRecursion (λ unit. bound ≤ due_of unit) units

behind_one : (due other next number : ℕ) → other ≤ due → number < next → (nat_lt due other || (due == other && nat_lt next number)) ≡ false
behind_one due other next number up below = grind (arith, nat_tests)

are_behind : (bound next due : ℕ) (unit : TimedUnit) (queue : List Queued) → bound ≤ due → AreUpTo bound next queue → AreBehind (due, next, unit) queue
are_behind bound next due unit [] up all = tt
are_behind bound next due unit (other ∷ queue) up all =
    let one : due_of other ≤ bound = (all.0).0 in
    (behind_one due (due_of other) next (unit_of other) (omega arith) (all.0).1, are_behind bound next due unit queue up all.1)

up_to_on : (bound next due : ℕ) (unit : TimedUnit) (queue : List Queued) → bound ≤ due → AreUpTo bound next queue
    → AreUpTo due (next + 1) (queue ++ (due, next, unit) ∷ [])
up_to_on bound next due unit [] up all = ((omega arith, omega arith), tt)
up_to_on bound next due unit (other ∷ queue) up all =
    let one : due_of other ≤ bound = (all.0).0 in
    let two : unit_of other < next = (all.0).1 in
    ((omega arith, omega arith), up_to_on bound next due unit queue up all.1)

before_is : (due other number own : ℕ) → (nat_lt due other || (due == other && nat_lt number own)) ≡ true → due ≤ other
before_is due other number own is = grind (arith, nat_tests)

from_on : (unit : Queued) (units : List Queued) → AllByRecursion (λ other. is_before unit other ≡ true) units → AreFrom (due_of unit) units
from_on unit [] all = tt
from_on unit (other ∷ units) all = (before_is (due_of unit) (due_of other) (unit_of unit) (unit_of other) all.0, from_on unit units all.1)

blocks_on : (queue : List Queued) (unit : Queued) → queued_blocks (queue ++ unit ∷ []) ≡ queued_blocks queue + blocks unit.2
blocks_on [] unit = omega arith
blocks_on (other ∷ queue) unit = omega (arith, blocks_on queue unit)

pub queue_plays : OfMessages → (caps : Limits) (methods : List Method) (clock : ℕ) (done units : List Queued) (bound now next recorded : ℕ)
    → now ≡ min bound clock → AllByRecursion (IsWaiting caps.late clock) units → IsInOrder units → AreFrom bound units → AreUpTo bound next done
    → length done + length units ≤ caps.units → queued_blocks done + queued_blocks units ≤ caps.blocks → recorded + queue_size now clock units ≤ caps.recording
    → Plays (server caps methods done now next recorded) (queue_acts now clock units)
    (server caps methods (done ++ renumbered next units) clock (next + length units) (recorded + queue_size now clock units)) []
queue_plays known caps methods clock done [] bound now next recorded at waits ordered from to places room fits =
    let same : next ≡ next + 0 = omega arith in
    subst₂ (λ (q : List Queued) (n : ℕ). Plays (server caps methods done now next recorded) (ticks_to now clock)
    (server caps methods q clock n (recorded + ticks_size now clock)) []) (sym (append-nil done)) same
    (tick_plays caps methods done now next recorded clock (omega arith) fits)
queue_plays known caps methods clock done (unit ∷ units) bound now next recorded at waits ordered from to places room fits =
    let due : ℕ = due_of unit in
    let up : bound ≤ due = from.0 in
    let moment : ℕ = min due clock in
    let ticks : ℕ = ticks_size now moment in
    let size : ℕ = send_size (packet_of unit.2) in
    let item : Queued = (due, next, unit.2) in
    let more : List Queued = done ++ item ∷ [] in
    let left : ℕ = queue_size moment clock units in
    let here : State = server caps methods done now next recorded in
    let middle : State = server caps methods done moment next (recorded + ticks) in
    let there : State = server caps methods more moment (next + 1) (recorded + ticks + size) in
    let one : Plays here (ticks_to now moment) middle [] =
    tick_plays caps methods done now next recorded moment (omega arith) (omega arith) in
    let two : Plays middle (Send (packet_of unit.2) ∷ []) there [] =
    send_plays known caps methods done moment next (recorded + ticks) clock unit waits.0 refl (are_behind bound next due unit.2 done up to)
    (omega arith) (omega arith) (omega arith) in
    let rest : Plays there (queue_acts moment clock units)
    (server caps methods (more ++ renumbered (next + 1) units) clock (next + 1 + length units) (recorded + ticks + size + left)) [] =
    queue_plays known caps methods clock more units due moment (next + 1) (recorded + ticks + size) refl waits.1 ordered.1 (from_on unit units ordered.0)
    (up_to_on bound next due unit.2 done up to) (omega (arith, length-append done (item ∷ []))) (omega (arith, blocks_on done item)) (omega arith) in
    let whole : more ++ renumbered (next + 1) units ≡ done ++ item ∷ renumbered (next + 1) units =
    append_assoc done (item ∷ []) (renumbered (next + 1) units) in
    let count : next + 1 + length units ≡ next + suc (length units) = omega arith in
    let sum : recorded + ticks + size + left ≡ recorded + (ticks + size + left) = omega arith in
    let end : State = server caps methods (done ++ item ∷ renumbered (next + 1) units) clock (next + suc (length units)) (recorded + (ticks + size + left)) in
    let same : Plays there (queue_acts moment clock units) end [] =
    subst (λ (n : ℕ). Plays there (queue_acts moment clock units) (record end { recorded = n }) []) sum
    (subst₂ (λ (q : List Queued) (n : ℕ). Plays there (queue_acts moment clock units) (server caps methods q clock n (recorded + ticks + size + left)) [])
    whole count rest) in
    plays_on here middle end (ticks_to now moment) (Send (packet_of unit.2) ∷ queue_acts moment clock units) [] [] one
    (plays_on middle there end (Send (packet_of unit.2) ∷ []) (queue_acts moment clock units) [] [] two same)
