-- A history that is legal within a recording is legal within a larger one.
use Rattle.std.proofs.Common.{◌≡◌, ℕ, ◌+◌, ◌-◌, ◌≤◌, ◌==◌, Bool, true, false, cond, nat_le, nat_lt, max, List, [], ◌∷◌, length, Option, Some, None, refl}
use Rattle.std.proofs.Common.{sym, ap, subst, ◌∙◌, arith}
use Rattle.osc_packet.specs.Reading.{units_read}
use Rattle.osc_packet.specs.Units.{TimedUnit, blocks_of}
use Rattle.osc_queue.specs.Timed.{due_of}
use Rattle.osc_tree.specs.Registry.{id_at}
use Rattle.osc_tree.specs.Adding.{Refusal, add_refusal}
use Rattle.osc_model.specs.Limits.{Limits, header_size}
use Rattle.osc_model.specs.State.{State, Queued, opening, registry}
use Rattle.osc_model.specs.Counts.{free_places, free_blocks}
use Rattle.osc_model.specs.Events.{Event, enrol, submit, add, remove, tick, release, Entry, number, callers_full, queued, units_full, pool_full}
use Rattle.osc_model.specs.Events.{ticked, clock_back, nothing_due, adds_entry}
use Rattle.osc_model.specs.Recordings.{entry_size}
use Rattle.osc_record.specs.Reading.{Placed, placed_from, unplaced}
use Rattle.osc_record.proofs.Kept.{unplaced_from}
use Rattle.osc_core.proofs.Played.{few_entries}
use Rattle.osc_live.specs.Resuming.{roomier}
use Rattle.std.proofs.Math.Nat.{le-max_left, max-le}
use Rattle.osc_model.specs.Step.{Stepped, step, decided, leaves, kept_units, after_submit, add_at, remove_at, releases, release_first}
use Rattle.osc_model.specs.History.{AddsEntry, LegalFrom, Legal, IsSound, IsCounted, after}
use Rattle.osc_model.proofs.Onward.{entered, is_adds}
use Rattle.osc_model.proofs.Recordable.{after_caps}
use Rattle.osc_model.proofs.Refusals.{room_records}
use Rattle.osc_model.proofs.Stepping.{noted}

-- the state with room for so many bytes
abbrev wide : ℕ → State → State
wide room state = record state { caps = record state.caps { recording = room } }

abbrev widened : ℕ → Stepped → Stepped
widened room stepped = record { answer = stepped.answer; state = wide room stepped.state; invocations = stepped.invocations }

abbrev submits : List TimedUnit → List TimedUnit → Bool → Bool → State → Stepped
submits units keeps t u s = cond t (leaves s (units_full (record { need = length keeps; free = free_places s })))
    (cond u (leaves s (pool_full (record { need = blocks_of keeps; free = free_blocks s })))
    (leaves (after_submit s units) (queued s.next_unit (length units) (length units - length keeps))))

-- it decides as before
decided_wide : (room : ℕ) (state : State) (event : Event) → decided (wide room state) event ≡ widened room (decided state event)
decided_wide room state enrol = go (state.callers == state.caps.callers) where
  go : (t : Bool) → cond t (leaves (wide room state) callers_full) (leaves (record (wide room state) { callers = state.callers + 1 }) (number state.callers))
      ≡ widened room (cond t (leaves state callers_full) (leaves (record state { callers = state.callers + 1 }) (number state.callers)))
  go true = refl
  go false = refl
decided_wide room state (submit packet) =
    go (nat_lt (free_places state) (length keeps)) (nat_lt (free_blocks state) (blocks_of keeps)) where
      keeps : List TimedUnit
      keeps = kept_units state (units_read packet)

      go : (t u : Bool) → submits (units_read packet) keeps t u (wide room state) ≡ widened room (submits (units_read packet) keeps t u state)
      go true u = refl
      go false true = refl
      go false false = refl
decided_wide room state (add address) = go (add_refusal (registry state) address) where
  go : (o : Option Refusal) → add_at (wide room state) address o ≡ widened room (add_at state address o)
  go None = refl
  go (Some refusal) = refl
decided_wide room state (remove address) = go (id_at state.methods address) where
  go : (o : Option ℕ) → remove_at (wide room state) address o ≡ widened room (remove_at state address o)
  go None = refl
  go (Some id) = refl
decided_wide room state (tick now) = go (nat_lt now state.clock) where
  go : (t : Bool) → cond t (leaves (wide room state) (clock_back state.clock)) (leaves (record (wide room state) { clock = now }) ticked)
      ≡ widened room (cond t (leaves state (clock_back state.clock)) (leaves (record state { clock = now }) ticked))
  go true = refl
  go false = refl
decided_wide room state release = go state.queue where
  go : (queue : List Queued) → release_first (wide room state) queue ≡ widened room (release_first state queue)
  go [] = refl
  go (unit ∷ units) = cases (nat_le (due_of unit) state.clock) where
    cases : (t : Bool) → cond t (releases (wide room state) unit units) (leaves (wide room state) (nothing_due (Some (due_of unit))))
        ≡ widened room (cond t (releases state unit units) (leaves state (nothing_due (Some (due_of unit)))))
    cases true = refl
    cases false = refl

-- an entry that is added in the one is added in the other
step_wide : (room : ℕ) (state : State) (event : Event) → state.caps.recording ≤ room → adds_entry (step state event).answer ≡ true
    → step (wide room state) event ≡ widened room (step state event)
step_wide room state event more adds =
    let on = entered state event adds in
    let same = decided_wide room state event in
    let answer : (decided (wide room state) event).answer ≡ (decided state event).answer = ap (λ (s : Stepped). s.answer) same in
    let size : entry_size event (decided (wide room state) event).answer ≡ entry_size event (decided state event).answer = ap (entry_size event) answer in
    let fits = on.room in
    room_records (wide room state) event (ap adds_entry answer ∙ on.adds) (omega (arith, size, fits, more))
    ∙ (λ i. noted (wide room state) (size i) (same i))
    ∙ sym (ap (widened room) on.is)

legal_wide : (room : ℕ) (state : State) (history : List Entry) → state.caps.recording ≤ room → LegalFrom state history → LegalFrom (wide room state) history
legal_wide room state [] more legal = tt
legal_wide room state (entry ∷ history) more legal =
    let adds = is_adds (step state entry.event).answer (subst AddsEntry legal.3 legal.2) in
    let same = step_wide room state entry.event more adds in
    let caps : (step state entry.event).state.caps.recording ≤ room =
    subst (λ (l : Limits). l.recording ≤ room) (sym (after_caps state (entry ∷ []))) more in (
      legal.0,
      legal.1,
      legal.2,
      legal.3 ∙ ap (λ (s : Stepped). s.answer) (sym same),
      subst (λ (s : Stepped). LegalFrom s.state history) (sym same) (legal_wide room (step state entry.event).state history caps legal.4),
    )

-- a legal history is legal with room for so many bytes at least
pub legal_roomier : (caps : Limits) (room : ℕ) (history : List Entry) → room ≤ 1073741824 → Legal caps history → Legal (roomier caps room) history
legal_roomier caps room history few legal =
    let r = legal.0 in
    let least = r.recording.above in
    let most = r.recording.below in (
      record {
        units = r.units;
        blocks = r.blocks;
        methods = r.methods;
        nodes = r.nodes;
        callers = r.callers;
        recording = record { above = omega (arith, least, le-max_left caps.recording room); below = max-le most few };
      },
      legal_wide (max caps.recording room) (opening caps) history (le-max_left caps.recording room) legal.1,
    )

-- what a recording's reader has is what was recorded, and legal with that room
pub record IsPast (limits : Limits) (entries : List Placed) (caps : Limits) (room : ℕ) (history : List Entry) : Type 0 where
  pub limits_are : limits ≡ roomier caps room
  pub entries_are : unplaced entries ≡ history
  pub legal : Legal limits history

pub is_past : (limits read caps : Limits) (entries : List Placed) (room : ℕ) (history : List Entry) → room ≤ 1073741824 → Legal caps history
    → (read ≡ caps) × (entries ≡ placed_from header_size history) → limits ≡ roomier read room → IsPast limits entries caps room history
is_past limits read caps entries room history few legal same is =
    let limited : limits ≡ roomier caps room = is ∙ ap (λ (l : Limits). roomier l room) same.0 in
    record {
      limits_are = limited;
      entries_are = ap unplaced same.1 ∙ unplaced_from header_size history;
      legal = subst (λ (l : Limits). Legal l history) (sym limited) (legal_roomier caps room history few legal);
    }

-- the callers of a legal history are few, and the entries are
pub few_callers : ((caps : Limits) (history : List Entry) → Legal caps history → IsSound (after (opening caps) history)) → (limits : Limits)
    (history : List Entry) → Legal limits history → ((after (opening limits) history).callers ≤ limits.callers) × (limits.callers ≤ 1024)
few_callers sound limits history legal = (
  subst (λ (l : Limits). (after (opening limits) history).callers ≤ l.callers) (after_caps (opening limits) history) (sound limits history legal).callers.1,
  legal.0.callers.below,
)

pub few_in : ((caps : Limits) (history : List Entry) → Legal caps history → IsCounted (after (opening caps) history)) → (limits : Limits)
    (history : List Entry) → Legal limits history → length history ≤ 1073741824
few_in counted limits history legal =
    let within : (after (opening limits) history).recorded ≤ limits.recording =
    subst (λ (l : Limits). (after (opening limits) history).recorded ≤ l.recording) (after_caps (opening limits) history)
    (counted limits history legal).within in
    let most = legal.0.recording.below in
    omega (arith, few_entries (opening limits) history legal.1, within, most)
