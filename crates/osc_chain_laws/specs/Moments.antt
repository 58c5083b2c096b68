-- When something was invoked.
use Rattle.std.specs.Prelude.{ℕ, List, [], ◌∷◌, ◌++◌, map}
use Rattle.osc_model.specs.State.{State}
use Rattle.osc_model.specs.Events.{Event, Entry, Invocation}
use Rattle.osc_model.specs.Step.{step, decided}
use Rattle.osc_alike.specs.Alike.{bare_call}

-- an invocation, and where the clock stood
pub record Moment : Type 0 where
  pub clock : ℕ
  pub call : Invocation

-- invocations, at this clock
abbrev pub calls_at : ℕ → List Invocation → List Moment
calls_at clock calls = map (λ call. record { clock = clock; call = call }) calls

-- without ids and the numbers of units
abbrev pub bare_moment : Moment → Moment
bare_moment moment = record { clock = moment.clock; call = bare_call moment.call }

-- what entries invoke, and when
abbrev pub moments : State → List Entry → List Moment
moments state [] = []
moments state (entry ∷ entries) =
    calls_at state.clock (step state entry.event).invocations
    ++ moments (step state entry.event).state entries

-- the same of events
abbrev pub event_moments : State → List Event → List Moment
event_moments state [] = []
event_moments state (event ∷ events) =
    calls_at state.clock (step state event).invocations
    ++ event_moments (step state event).state events

-- the same of events on a server whose recording has no end
abbrev pub ideal_moments : State → List Event → List Moment
ideal_moments state [] = []
ideal_moments state (event ∷ events) =
    calls_at state.clock (decided state event).invocations
    ++ ideal_moments (decided state event).state events
