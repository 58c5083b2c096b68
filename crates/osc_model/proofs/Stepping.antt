-- How a step goes: an event is decided, and its entry is recorded where there is room for it.
use Rattle.std.proofs.Common.{◌≡◌, ℕ, ◌+◌, ◌-◌, ◌<◌, ◌≤◌, ◌==◌, Bool, true, false, cond, nat_le, nat_lt, List, [], ◌∷◌, length, Option, Some, None, refl}
use Rattle.std.proofs.lemmas.Bool.{ltb-true, ltb-false}
use Rattle.osc_packet.specs.Units.{TimedUnit, blocks_of}
use Rattle.osc_packet.specs.Reading.{units_read}
use Rattle.osc_queue.specs.Timed.{due_of}
use Rattle.osc_tree.specs.Registry.{id_at}
use Rattle.osc_tree.specs.Adding.{Refusal, add_refusal}
use Rattle.osc_model.specs.State.{Queued, State, registry}
use Rattle.osc_model.specs.Counts.{free_places, free_blocks, free_bytes}
use Rattle.osc_model.specs.Recordings.{entry_size}
use Rattle.osc_model.specs.Events.{Event, enrol, submit, add, remove, tick, release, Answer, number, callers_full, queued, units_full, pool_full, refused}
use Rattle.osc_model.specs.Events.{not_there, ticked, clock_back, nothing_due, record_full, adds_entry}
use Rattle.osc_model.specs.Refusals.{IsRefusal}
use Rattle.osc_model.specs.Step.{Stepped, step, decided, leaves, kept_units, late_count, submit_kept, after_submit, add_at, remove_at, releases, release_first}

-- there is no room for an entry of so many bytes
abbrev pub no_room : State → ℕ → Stepped
no_room state size = leaves state (record_full (record { need = size; free = free_bytes state }))

-- an entry of so many bytes is recorded
abbrev pub noted : State → ℕ → Stepped → Stepped
noted state size stepped = record stepped { state = record stepped.state { recorded = state.recorded + size } }

-- what holds of a step where it holds in each of the three ways to record it
pub record Lifts (Q : Stepped → Type 0) (state : State) (size : ℕ) (stepped : Stepped) : Type 0 where
  pub silent : adds_entry stepped.answer ≡ false → Q stepped
  pub full : adds_entry stepped.answer ≡ true → free_bytes state < size → Q (no_room state size)
  pub room : adds_entry stepped.answer ≡ true → size ≤ free_bytes state → Q (noted state size stepped)

pub recorded_so : (Q : Stepped → Type 0) (state : State) (size : ℕ) (stepped : Stepped) → Lifts Q state size stepped
    → Q (cond (adds_entry stepped.answer) (cond (nat_lt (free_bytes state) size) (no_room state size) (noted state size stepped)) stepped)
recorded_so Q state size stepped lifts = go (adds_entry stepped.answer) refl (nat_lt (free_bytes state) size) refl where
  go : (t : Bool) → adds_entry stepped.answer ≡ t → (u : Bool) → nat_lt (free_bytes state) size ≡ u
      → Q (cond t (cond u (no_room state size) (noted state size stepped)) stepped)
  go false is u e = lifts.silent is
  go true is true e = lifts.full is (ltb-true _ _ e)
  go true is false e = lifts.room is (ltb-false _ _ e)

pub step_so : (Q : Stepped → Type 0) (state : State) (event : Event) → Lifts Q state (entry_size event (decided state event).answer) (decided state event)
    → Q (step state event)
step_so Q state event lifts = recorded_so Q state (entry_size event (decided state event).answer) (decided state event) lifts

-- what holds of each event that is decided, where it holds of each refusal and of each event that does something
pub record Decides (Q : Event → Stepped → Type 0) (state : State) : Type 0 where
  pub refused : (event : Event) (answer : Answer) → IsRefusal answer → Q event (leaves state answer)
  pub enrolled : Q enrol (leaves (record state { callers = state.callers + 1 }) (number state.callers))
  pub queued : (packet : List ℕ)
      → Q (submit packet)
      (leaves (after_submit state (units_read packet)) (queued state.next_unit (length (units_read packet)) (late_count state (units_read packet))))
  pub added : (address : List ℕ) → Q (add address) (add_at state address None)
  pub removed : (address : List ℕ) (id : ℕ) → Q (remove address) (remove_at state address (Some id))
  pub ticked : (now : ℕ) → state.clock ≤ now → Q (tick now) (leaves (record state { clock = now }) ticked)
  pub released : (unit : Queued) (units : List Queued) → state.queue ≡ unit ∷ units → Q release (releases state unit units)

pub decided_so : (Q : Event → Stepped → Type 0) (state : State) (event : Event) → Decides Q state → Q event (decided state event)
decided_so Q state enrol decides = go (state.callers == state.caps.callers) where
  go : (t : Bool) → Q enrol (cond t (leaves state callers_full) (leaves (record state { callers = state.callers + 1 }) (number state.callers)))
  go true = decides.refused enrol callers_full tt
  go false = decides.enrolled
decided_so Q state (submit packet) decides = go (units_read packet) (kept_units state (units_read packet)) (decides.queued packet) where
  go : (units keeps : List TimedUnit)
      → Q (submit packet) (leaves (after_submit state units) (queued state.next_unit (length units) (length units - length keeps)))
      → Q (submit packet) (submit_kept state units keeps)
  go units keeps holds = cases (nat_lt (free_places state) (length keeps)) (nat_lt (free_blocks state) (blocks_of keeps)) where
    cases : (t u : Bool) → Q (submit packet) (cond t (leaves state (units_full (record { need = length keeps; free = free_places state })))
        (cond u (leaves state (pool_full (record { need = blocks_of keeps; free = free_blocks state })))
        (leaves (after_submit state units) (queued state.next_unit (length units) (length units - length keeps)))))
    cases true u = decides.refused (submit packet) (units_full (record { need = length keeps; free = free_places state })) tt
    cases false true = decides.refused (submit packet) (pool_full (record { need = blocks_of keeps; free = free_blocks state })) tt
    cases false false = holds
decided_so Q state (add address) decides = go (add_refusal (registry state) address) where
  go : (refusal : Option Refusal) → Q (add address) (add_at state address refusal)
  go None = decides.added address
  go (Some refusal) = decides.refused (add address) (refused refusal) tt
decided_so Q state (remove address) decides = go (id_at state.methods address) where
  go : (found : Option ℕ) → Q (remove address) (remove_at state address found)
  go None = decides.refused (remove address) not_there tt
  go (Some id) = decides.removed address id
decided_so Q state (tick now) decides = go (nat_lt now state.clock) refl where
  go : (t : Bool) → nat_lt now state.clock ≡ t → Q (tick now) (cond t (leaves state (clock_back state.clock)) (leaves (record state { clock = now }) ticked))
  go true e = decides.refused (tick now) (clock_back state.clock) tt
  go false e = decides.ticked now (ltb-false _ _ e)
decided_so Q state release decides = go state.queue refl where
  go : (queue : List Queued) → state.queue ≡ queue → Q release (release_first state queue)
  go [] e = decides.refused release (nothing_due None) tt
  go (unit ∷ units) e = cases (nat_le (due_of unit) state.clock) where
    cases : (t : Bool) → Q release (cond t (releases state unit units) (leaves state (nothing_due (Some (due_of unit)))))
    cases true = decides.released unit units e
    cases false = decides.refused release (nothing_due (Some (due_of unit))) tt
