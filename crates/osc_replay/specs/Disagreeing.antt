-- A recording that no server made: its first entry that the rules don't give.
use Rattle.std.specs.Prelude.{◌≡◌, ◌≢◌, ℕ, nat_lt, if◌then◌else◌, List, [], ◌∷◌, ◌++◌, length}
use Rattle.osc_model.specs.Limits.{Limits}
use Rattle.osc_model.specs.State.{State, opening}
use Rattle.osc_model.specs.Events.{Event, Entry, adds_entry}
use Rattle.osc_model.specs.Recordings.{entry_text, record_text}
use Rattle.osc_model.specs.Step.{step}
use Rattle.osc_model.specs.History.{Legal, after}
use Rattle.osc_replay.specs.Formed.{IsFormed}

-- the bytes of the entry that a server gives a caller for an event; none where the caller isn't
-- enrolled or where the event adds no entry
abbrev pub computed_text : State → ℕ → Event → List ℕ
computed_text state caller event =
    let answer = (step state event).answer in
    if nat_lt caller state.callers
    then (if adds_entry answer then entry_text caller event answer else []) else []

-- The bytes are a recording. The entries before this one, which is counted from 0, are a legal
-- history; the bytes that are kept for it are these; and those that the server gives for its caller
-- and event are others.
pub record DisagreesAt (bytes : List ℕ) (place : ℕ) (kept computed : List ℕ) : Type 0 where
  pub caps : Limits
  pub before : List Entry
  pub entry : Entry
  pub later : List Entry
  pub formed : IsFormed caps (before ++ entry ∷ later)
  pub text : bytes ≡ record_text caps (before ++ entry ∷ later)
  pub legal : Legal caps before
  pub place_is : place ≡ length before
  pub kept_is : kept ≡ entry_text entry.caller entry.event entry.answer
  pub computed_is : computed ≡ computed_text (after (opening caps) before) entry.caller entry.event
  pub differ : kept ≢ computed

-- the bytes are the recording of a legal history
pub record IsRecordingOf (bytes : List ℕ) (caps : Limits) (history : List Entry) : Type 0 where
  pub legal : Legal caps history
  pub text : bytes ≡ record_text caps history
