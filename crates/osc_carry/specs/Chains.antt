-- A chain of recordings: each but the first begins with what carries the one before it on.
use Rattle.std.specs.Prelude.{◌≡◌, ℕ, List, [], ◌∷◌, ◌++◌, map}
use Rattle.osc_model.specs.State.{State}
use Rattle.osc_model.specs.Events.{Event, Invocation}
use Rattle.osc_alike.specs.Alike.{bare_call, AreAlike, HaveRoom, invoked_by, after_events, ideal_by}
use Rattle.osc_alike.specs.Alike.{ideal_after}
use Rattle.osc_carry.specs.Carried.{renewed}

-- a recording of the chain: how many bytes it may have, and the events after those that carry on
pub record Part : Type 0 where
  pub room : ℕ
  pub events : List Event

-- all their events, one after another
abbrev pub all_events : List Part → List Event
all_events [] = []
all_events (part ∷ parts) = part.events ++ all_events parts

-- each event finds room in its recording
abbrev pub HaveRooms : State → List Part → Type 0
HaveRooms state [] = Unit {0}
HaveRooms state (part ∷ parts) = HaveRoom (renewed part.room state) part.events
    × HaveRooms (after_events (renewed part.room state) part.events) parts

-- what is invoked, and where the last one leads
abbrev pub chain_invoked : State → List Part → List Invocation
chain_invoked state [] = []
chain_invoked state (part ∷ parts) =
    invoked_by (renewed part.room state) part.events
    ++ chain_invoked (after_events (renewed part.room state) part.events) parts

abbrev pub chain_after : State → List Part → State
chain_after state [] = state
chain_after state (part ∷ parts) =
    chain_after (after_events (renewed part.room state) part.events) parts

-- the chain invokes what one server invokes whose recording has no end, and ends where that one
-- does, up to numbers
pub record ChainsAlike (ideal real : State) (parts : List Part) : Type 0 where
  pub invocations : map bare_call (ideal_by ideal (all_events parts))
      ≡ map bare_call (chain_invoked real parts)
  pub state : AreAlike (ideal_after ideal (all_events parts)) (chain_after real parts)
