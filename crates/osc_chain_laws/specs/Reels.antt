-- A chain of recordings: each but the first begins with what carries the one before it on.
use Rattle.std.specs.Prelude.{◌≡◌, ℕ, ◌+◌, ◌≤◌, List, [], ◌∷◌, ◌++◌, length, map, drop}
use Rattle.std.specs.Prelude.{if◌then◌else◌}
use Rattle.osc_model.specs.Limits.{Limits, header_size}
use Rattle.osc_model.specs.State.{State, opening}
use Rattle.osc_model.specs.Events.{Event, Entry, Invocation, adds_entry}
use Rattle.osc_model.specs.History.{Legal, after, invocations}
use Rattle.osc_model.specs.Recordings.{entry_size}
use Rattle.osc_model.specs.Step.{decided}
use Rattle.osc_turn.specs.History.{StartsWith}
use Rattle.osc_alike.specs.Alike.{bare_call, AreAlike, ideal_by, ideal_after}
use Rattle.osc_carry.specs.Leading.{with_room, played_on, CarriesOn}
use Rattle.osc_chain_laws.specs.Moments.{Moment, bare_moment, moments, event_moments}
use Rattle.osc_chain_laws.specs.Moments.{ideal_moments}

-- a recording of the chain: how many bytes it may have, and its history
pub record Reel : Type 0 where
  pub room : ℕ
  pub history : List Entry

-- what callers have handed in
abbrev pub events_of : List Entry → List Event
events_of entries = map (λ entry. entry.event) entries

-- the entries of a recording after those of the lines that carry an old history on
abbrev pub entries_since : Limits → List Entry → Reel → List Entry
entries_since caps old reel = drop (length (played_on caps old reel.room).history) reel.history

-- Each is that of a legal history, and begins with the lines that carry the one before it on, which
-- bring the new server to where the old one was, up to numbers.
abbrev pub AreChained : Limits → List Entry → List Reel → Type 0
AreChained caps old [] = Unit {0}
AreChained caps old (reel ∷ reels) =
    Legal (with_room caps reel.room) reel.history × CarriesOn caps old reel.room
    × StartsWith reel.history (played_on caps old reel.room).history
    × AreChained (with_room caps reel.room) reel.history reels

-- what callers have handed in over all of them, after what carried each on
abbrev pub later_events : Limits → List Entry → List Reel → List Event
later_events caps old [] = []
later_events caps old (reel ∷ reels) =
    events_of (entries_since caps old reel)
    ++ later_events (with_room caps reel.room) reel.history reels

-- what was invoked over all of them, and where the last one ends
abbrev pub later_invoked : Limits → List Reel → List Invocation
later_invoked caps [] = []
later_invoked caps (reel ∷ reels) =
    invocations (opening (with_room caps reel.room)) reel.history
    ++ later_invoked (with_room caps reel.room) reels

abbrev pub last_state : Limits → List Entry → List Reel → State
last_state caps old [] = after (opening caps) old
last_state caps old (reel ∷ reels) = last_state (with_room caps reel.room) reel.history reels

-- what was invoked over all of them, and when
abbrev pub later_moments : Limits → List Reel → List Moment
later_moments caps [] = []
later_moments caps (reel ∷ reels) =
    moments (opening (with_room caps reel.room)) reel.history
    ++ later_moments (with_room caps reel.room) reels

-- how many bytes of recording events take after a state
abbrev pub taken_by : State → List Event → ℕ
taken_by state [] = 0
taken_by state (event ∷ events) =
    (if adds_entry (decided state event).answer
    then entry_size event (decided state event).answer else 0)
    + taken_by (decided state event).state events

-- What the first recording and those after it have invoked together is what one server invokes
-- whose recording has no end, where callers hand in the same events, and at the same moments. Where
-- the last one ends is where that server gets to, up to numbers. And so it is with a server whose
-- recording may have as many bytes as these events take, or more.
pub record PlaysAsOne (caps : Limits) (first : List Entry) (reels : List Reel) : Type 0 where
  pub invocations_are :
      map bare_call (ideal_by (opening caps) (events_of first ++ later_events caps first reels))
      ≡ map bare_call (invocations (opening caps) first ++ later_invoked caps reels)
  pub moments_are :
      map bare_moment
      (ideal_moments (opening caps) (events_of first ++ later_events caps first reels))
      ≡ map bare_moment (moments (opening caps) first ++ later_moments caps reels)
  pub state_is :
      AreAlike (ideal_after (opening caps) (events_of first ++ later_events caps first reels))
      (last_state caps first reels)
  pub on_one_server : (room : ℕ)
      → header_size + taken_by (opening caps) (events_of first ++ later_events caps first reels)
      ≤ room
      → map bare_moment
      (event_moments (opening (with_room caps room))
      (events_of first ++ later_events caps first reels))
      ≡ map bare_moment (moments (opening caps) first ++ later_moments caps reels)
