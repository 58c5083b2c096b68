-- What an event does to the registered methods.
use Rattle.std.proofs.Common.{◌≡◌, ◌⊎◌, inl, inr, ℕ, ◌+◌, ◌-◌, ◌==◌, Bool, true, false, nat_le, nat_lt, List, [], ◌∷◌, ◌++◌, length, Option, Some, None, cond}
use Rattle.std.proofs.Common.{refl}
use Rattle.osc_packet.specs.Units.{TimedUnit, blocks_of}
use Rattle.osc_packet.specs.Reading.{units_read}
use Rattle.osc_queue.specs.Timed.{due_of}
use Rattle.osc_tree.specs.Registry.{id_at, without}
use Rattle.osc_tree.specs.Adding.{Refusal, add_refusal}
use Rattle.osc_model.specs.State.{State, Queued, registry}
use Rattle.osc_model.specs.Counts.{free_places, free_blocks}
use Rattle.osc_model.specs.Recordings.{entry_size}
use Rattle.osc_model.specs.Events.{Event, enrol, submit, add, remove, tick, release, Answer, number, callers_full, queued, pool_full, added}
use Rattle.osc_model.specs.Events.{removed, ticked, clock_back, nothing_due}
use Rattle.osc_model.specs.Step.{Stepped, step, decided, leaves, kept_units, submit_kept, after_submit, add_at, remove_at, releases, release_first}
use Rattle.osc_model.proofs.Stepping.{noted, step_so}

-- an answer that says that methods changed
abbrev pub tells_change : Answer → Bool
tells_change (added id) = true
tells_change (removed id) = true
tells_change _ = false

-- the methods stay, and no id is given
pub record KeepsMethods (state : State) (stepped : Stepped) : Type 0 where
  pub caps : stepped.state.caps ≡ state.caps
  pub answer : tells_change stepped.answer ≡ false
  pub methods : stepped.state.methods ≡ state.methods
  pub next_id : stepped.state.next_id ≡ state.next_id

-- a method is added under the next id
pub record AddsMethod (state : State) (event : Event) (stepped : Stepped) : Type 0 where
  pub address : List ℕ
  pub event_is : event ≡ add address
  pub answer : stepped.answer ≡ added state.next_id
  pub caps : stepped.state.caps ≡ state.caps
  pub methods : stepped.state.methods ≡ state.methods ++ record { id = state.next_id; address = address } ∷ []
  pub next_id : stepped.state.next_id ≡ state.next_id + 1
  pub silent : stepped.invocations ≡ []

-- the method at an address leaves
pub record LosesMethod (state : State) (event : Event) (stepped : Stepped) : Type 0 where
  pub address : List ℕ
  pub id : ℕ
  pub event_is : event ≡ remove address
  pub found : id_at state.methods address ≡ Some id
  pub answer : stepped.answer ≡ removed id
  pub caps : stepped.state.caps ≡ state.caps
  pub methods : stepped.state.methods ≡ without state.methods address
  pub next_id : stepped.state.next_id ≡ state.next_id
  pub silent : stepped.invocations ≡ []

abbrev pub Changes : State → Event → Stepped → Type 0
Changes state event stepped = KeepsMethods state stepped ⊎ (AddsMethod state event stepped ⊎ LosesMethod state event stepped)

pub either : (P : Stepped → Type 0) (t : Bool) (one other : Stepped) → P one → P other → P (cond t one other)
either P true one other first second = first
either P false one other first second = second

add_changes : (state : State) (address : List ℕ) (refusal : Option Refusal) → Changes state (add address) (add_at state address refusal)
add_changes state address None =
    inr (inl (record { address = address; event_is = refl; answer = refl; caps = refl; methods = refl; next_id = refl; silent = refl }))
add_changes state address (Some refusal) = inl (record { caps = refl; answer = refl; methods = refl; next_id = refl })

remove_changes : (state : State) (address : List ℕ) (found : Option ℕ) → id_at state.methods address ≡ found
    → Changes state (remove address) (remove_at state address found)
remove_changes state address None is = inl (record { caps = refl; answer = refl; methods = refl; next_id = refl })
remove_changes state address (Some id) is =
    inr (inr (record { address = address; id = id; event_is = refl; found = is; answer = refl; caps = refl; methods = refl; next_id = refl; silent = refl }))

submit_keeps : (state : State) (units keeps : List TimedUnit) → KeepsMethods state (submit_kept state units keeps)
submit_keeps state units keeps =
    either (KeepsMethods state) (nat_lt (free_places state) (length keeps)) _ _ (record { caps = refl; answer = refl; methods = refl; next_id = refl })
    (either (KeepsMethods state) (nat_lt (free_blocks state) (blocks_of keeps))
    (leaves state (pool_full (record { need = blocks_of keeps; free = free_blocks state })))
    (leaves (after_submit state units) (queued state.next_unit (length units) (length units - length keeps)))
    (record { caps = refl; answer = refl; methods = refl; next_id = refl }) (record { caps = refl; answer = refl; methods = refl; next_id = refl }))

release_keeps : (state : State) (queue : List Queued) → KeepsMethods state (release_first state queue)
release_keeps state [] = record { caps = refl; answer = refl; methods = refl; next_id = refl }
release_keeps state (unit ∷ units) =
    either (KeepsMethods state) (nat_le (due_of unit) state.clock) (releases state unit units) (leaves state (nothing_due (Some (due_of unit))))
    (record { caps = refl; answer = refl; methods = refl; next_id = refl }) (record { caps = refl; answer = refl; methods = refl; next_id = refl })

decided_changes : (state : State) (event : Event) → Changes state event (decided state event)
decided_changes state enrol =
    inl (either (KeepsMethods state) (state.callers == state.caps.callers) (leaves state callers_full)
    (leaves (record state { callers = state.callers + 1 }) (number state.callers))
    (record { caps = refl; answer = refl; methods = refl; next_id = refl }) (record { caps = refl; answer = refl; methods = refl; next_id = refl }))
decided_changes state (submit packet) = inl (submit_keeps state (units_read packet) (kept_units state (units_read packet)))
decided_changes state (add address) = add_changes state address (add_refusal (registry state) address)
decided_changes state (remove address) = remove_changes state address (id_at state.methods address) refl
decided_changes state (tick now) =
    inl (either (KeepsMethods state) (nat_lt now state.clock) (leaves state (clock_back state.clock)) (leaves (record state { clock = now }) ticked)
    (record { caps = refl; answer = refl; methods = refl; next_id = refl }) (record { caps = refl; answer = refl; methods = refl; next_id = refl }))
decided_changes state release = inl (release_keeps state state.queue)

-- what is recorded makes no difference
noted_changes : (state : State) (event : Event) (size : ℕ) (stepped : Stepped) → Changes state event stepped → Changes state event (noted state size stepped)
noted_changes state event size stepped (inl kept) = inl (record { caps = kept.caps; answer = kept.answer; methods = kept.methods; next_id = kept.next_id })
noted_changes state event size stepped (inr (inl more)) =
    inr (inl (record {
      address = more.address;
      event_is = more.event_is;
      answer = more.answer;
      caps = more.caps;
      methods = more.methods;
      next_id = more.next_id;
      silent = more.silent;
    }))
noted_changes state event size stepped (inr (inr fewer)) =
    inr (inr (record {
      address = fewer.address;
      id = fewer.id;
      event_is = fewer.event_is;
      found = fewer.found;
      answer = fewer.answer;
      caps = fewer.caps;
      methods = fewer.methods;
      next_id = fewer.next_id;
      silent = fewer.silent;
    }))

pub changes : (state : State) (event : Event) → Changes state event (step state event)
changes state event =
    let decides = decided_changes state event in
    step_so (Changes state event) state event
    (record {
      silent = λ none. decides;
      full = λ some full. inl (record { caps = refl; answer = refl; methods = refl; next_id = refl });
      room = λ some fits. noted_changes state event (entry_size event (decided state event).answer) (decided state event) decides;
    })
