-- What a release does, in words: it takes the least unit that is due, or there is no room for its
-- entry, or nothing is due.
use Rattle.osc_model.specs.Limits.{release_head_size}
use Rattle.std.specs.Prelude.{◌≡◌, ◌⊎◌, ℕ, ◌+◌, ◌*◌, ◌<◌, ◌≤◌, List, [], ◌∷◌, Option, Some, None}
use Rattle.std.specs.Prelude.{slice_index_or, length}
use Rattle.std.specs.List.{AllByRecursion, Contains}
use Rattle.std.specs.List.Sorted.{IsPermutation}
use Rattle.osc_message.specs.Reading.{pattern_of}
use Rattle.osc_message.specs.Arguments.{unknown_of}
use Rattle.osc_pattern.specs.Patterns.{Match}
use Rattle.osc_queue.specs.Timed.{due_of, unit_of, IsLeast, NoneIsDue}
use Rattle.osc_model.specs.State.{Queued, State}
use Rattle.osc_model.specs.Counts.{free_bytes}
use Rattle.osc_model.specs.Events.{released, nothing_due, record_full, Invocation}
use Rattle.osc_model.specs.Step.{Stepped, calls_of_unit, hits_of, invocations_of}

-- how many bytes the entry of a unit's release has in a state
abbrev pub release_size : State → Queued → ℕ
release_size state unit = release_head_size + 8 * length (calls_of_unit state.methods unit)

-- A unit that is due and the least by due moment and number leaves the queue, exactly the others
-- stay, its messages are invoked on the methods of that state, and the entry's bytes, for which
-- there was room, are recorded.
pub record TakesLeast (state : State) (stepped : Stepped) : Type 0 where
  pub unit : Queued
  pub due : due_of unit ≤ state.clock
  pub least : IsLeast unit state.queue
  pub others : IsPermutation state.queue (unit ∷ stepped.state.queue)
  pub room : state.recorded + release_size state unit ≤ state.caps.recording
  pub kept : stepped.state
      ≡ record state {
        queue = stepped.state.queue;
        recorded = state.recorded + release_size state unit;
      }
  pub answer : stepped.answer ≡ released (unit_of unit) (hits_of (calls_of_unit state.methods unit))
  pub invoked : stepped.invocations
      ≡ invocations_of (unit_of unit) (calls_of_unit state.methods unit)

-- the least due of the queue, or none where the queue is empty
abbrev pub IsLeastDue : List Queued → Option ℕ → Type 0
IsLeastDue queue None = queue ≡ []
IsLeastDue queue (Some due) = (unit : Queued) × Contains queue unit × IsLeast unit queue
    × (due ≡ due_of unit)

-- Each queued unit is due after the clock, the least due is answered, and all stays.
pub record FindsNothingDue (state : State) (stepped : Stepped) : Type 0 where
  pub later : NoneIsDue state.clock state.queue
  pub next : Option ℕ
  pub answer : stepped.answer ≡ nothing_due next
  pub first : IsLeastDue state.queue next
  pub kept : stepped.state ≡ state
  pub none : stepped.invocations ≡ []

-- A unit is due and the least, there is no room for the entry of its release, and all stays.
pub record HasNoRoom (state : State) (stepped : Stepped) : Type 0 where
  pub unit : Queued
  pub queued : Contains state.queue unit
  pub due : due_of unit ≤ state.clock
  pub least : IsLeast unit state.queue
  pub full : free_bytes state < release_size state unit
  pub answer : stepped.answer
      ≡ record_full (record { need = release_size state unit; free = free_bytes state })
  pub kept : stepped.state ≡ state
  pub none : stepped.invocations ≡ []

-- what a release does: one of the three
abbrev pub ReleasesLeast : State → Stepped → Type 0
ReleasesLeast state stepped = TakesLeast state stepped
    ⊎ (FindsNothingDue state stepped ⊎ HasNoRoom state stepped)

-- An invocation of a unit in a state: the message is one of the unit's and has no unknown tag, the
-- method is registered in the state, and the message's pattern matches its address.
pub record IsCallIn (state : State) (unit : Queued) (invocation : Invocation) : Type 0 where
  pub of_unit : invocation.unit ≡ unit_of unit
  pub within : invocation.call.index < length unit.2.messages
  pub message : slice_index_or unit.2.messages invocation.call.index [] ≡ invocation.call.message
  pub known : unknown_of invocation.call.message ≡ None
  pub registered : Contains state.methods
      (record { id = invocation.call.id; address = invocation.call.address })
  pub matched : Match (pattern_of invocation.call.message) invocation.call.address

-- all invocations of a step are calls in the state before it, of one unit that was queued there; or
-- there are none
abbrev pub InvokesRegistered : State → Stepped → Type 0
InvokesRegistered state stepped =
    ((unit : Queued) × Contains state.queue unit
    × AllByRecursion (IsCallIn state unit) stepped.invocations) ⊎ (stepped.invocations ≡ [])
