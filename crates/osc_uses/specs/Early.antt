-- What a release takes, by the clock.
use Rattle.std.specs.Prelude.{◌≡◌, ℕ, ◌≤◌, List}
use Rattle.std.specs.List.{Contains}
use Rattle.osc_queue.specs.Timed.{unit_of}
use Rattle.osc_model.specs.State.{State, Queued}
use Rattle.osc_model.specs.Events.{Hit, released}
use Rattle.osc_model.specs.Step.{Stepped}

-- a unit that is released waited under its number, and its tag isn't after the clock
abbrev pub IsNotEarly : State → Stepped → Type 0
IsNotEarly state stepped = (number : ℕ) (hits : List Hit) → stepped.answer ≡ released number hits
    → (unit : Queued) × Contains state.queue unit × (unit_of unit ≡ number)
    × (unit.2.tag ≤ state.clock)
