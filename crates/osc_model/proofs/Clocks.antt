-- The clock never goes back.
use Rattle.std.proofs.Common.{ℕ, ◌≤◌, List, Option, Some, None, arith}
use Rattle.osc_tree.specs.Adding.{Refusal}
use Rattle.osc_model.specs.State.{State}
use Rattle.osc_model.specs.Events.{Event, Entry}
use Rattle.osc_model.specs.Step.{step, add_at, remove_at}
use Rattle.osc_model.specs.History.{after}
use Rattle.osc_model.proofs.Keeping.{IsKept, step_keeps, after_keeps}

-- a state whose clock is this moment or later
abbrev IsFrom : ℕ → State → Type 0
IsFrom least state = least ≤ state.clock

added_from : (least : ℕ) (state : State) (address : List ℕ) (refusal : Option Refusal) → IsFrom least state → IsFrom least (add_at state address refusal).state
added_from least state address None from = from
added_from least state address (Some refusal) from = from

removed_from : (least : ℕ) (state : State) (address : List ℕ) (found : Option ℕ) → IsFrom least state → IsFrom least (remove_at state address found).state
removed_from least state address None from = from
removed_from least state address (Some id) from = from

on : (least now clock : ℕ) → now ≤ clock → least ≤ now → least ≤ clock
on least now clock later from = omega arith

kept_from : (least : ℕ) → IsKept (IsFrom least)
kept_from least =
    record {
      callers = λ state callers from. from;
      clock = λ state clock later from. on least state.clock clock later from;
      queue = λ state queue next_unit from. from;
      added = added_from least;
      removed = removed_from least;
      recorded = λ state recorded from. from;
    }

pub step_on : (state : State) (event : Event) → state.clock ≤ (step state event).state.clock
step_on state event = step_keeps (IsFrom state.clock) (kept_from state.clock) state event (omega arith)

pub after_on : (state : State) (history : List Entry) → state.clock ≤ (after state history).clock
after_on state history = after_keeps (IsFrom state.clock) (kept_from state.clock) state history (omega arith)
