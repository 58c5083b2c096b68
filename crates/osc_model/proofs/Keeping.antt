-- What every event keeps, a history keeps.
use Rattle.std.proofs.Common.{ℕ, ◌+◌, ◌≤◌, List, [], ◌∷◌, Option, Some, None}
use Rattle.osc_packet.specs.Reading.{units_read}
use Rattle.osc_tree.specs.Adding.{Refusal}
use Rattle.osc_model.specs.State.{Queued, State}
use Rattle.osc_model.specs.Recordings.{entry_size}
use Rattle.osc_model.specs.Events.{Event, Entry}
use Rattle.osc_model.specs.Step.{step, decided, after_submit, add_at, remove_at}
use Rattle.osc_model.specs.History.{after}
use Rattle.osc_model.proofs.Stepping.{step_so, decided_so}

-- what each change that an event makes to a state keeps
pub record IsKept (P : State → Type 0) : Type 0 where
  pub callers : (state : State) (callers : ℕ) → P state → P (record state { callers = callers })
  pub clock : (state : State) (clock : ℕ) → state.clock ≤ clock → P state → P (record state { clock = clock })
  pub queue : (state : State) (queue : List Queued) (next_unit : ℕ) → P state → P (record state { queue = queue; next_unit = next_unit })
  pub added : (state : State) (address : List ℕ) (refusal : Option Refusal) → P state → P (add_at state address refusal).state
  pub removed : (state : State) (address : List ℕ) (found : Option ℕ) → P state → P (remove_at state address found).state
  pub recorded : (state : State) (recorded : ℕ) → P state → P (record state { recorded = recorded })

pub decided_keeps : (P : State → Type 0) → IsKept P → (state : State) (event : Event) → P state → P (decided state event).state
decided_keeps P kept state event holds =
    decided_so (λ event stepped. P stepped.state) state event
    (record {
      refused = λ event answer is. holds;
      enrolled = kept.callers state (state.callers + 1) holds;
      queued = λ packet. let queued = after_submit state (units_read packet) in kept.queue state queued.queue queued.next_unit holds;
      added = λ address. kept.added state address None holds;
      removed = λ address id. kept.removed state address (Some id) holds;
      ticked = λ now later. kept.clock state now later holds;
      released = λ unit units first. kept.queue state units state.next_unit holds;
    })

pub step_keeps : (P : State → Type 0) → IsKept P → (state : State) (event : Event) → P state → P (step state event).state
step_keeps P kept state event holds =
    let decides : P (decided state event).state = decided_keeps P kept state event holds in
    step_so (λ stepped. P stepped.state) state event
    (record {
      silent = λ none. decides;
      full = λ some full. holds;
      room = λ some fits. kept.recorded (decided state event).state (state.recorded + entry_size event (decided state event).answer) decides;
    })

pub after_keeps : (P : State → Type 0) → IsKept P → (state : State) (history : List Entry) → P state → P (after state history)
after_keeps P kept state [] holds = holds
after_keeps P kept state (entry ∷ entries) holds = after_keeps P kept (step state entry.event).state entries (step_keeps P kept state entry.event holds)
