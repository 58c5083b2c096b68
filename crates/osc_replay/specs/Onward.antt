-- A recording that was played again, and one that goes on from it.
use Rattle.std.specs.Prelude.{◌≡◌, ℕ, ◌≤◌, Bool, true, List, ◌++◌, length, count_by, Result, Ok}
use Rattle.std.specs.Prelude.{Err}
use Rattle.osc_model.specs.Limits.{Limits, max_recording}
use Rattle.osc_model.specs.State.{State, opening}
use Rattle.osc_model.specs.Events.{Entry, is_added}
use Rattle.osc_model.specs.History.{Legal, after}
use Rattle.osc_model.specs.Recordings.{record_text}
use Rattle.osc_record.specs.Unread.{Remaining, HasHeader}
use Rattle.osc_replay.specs.declared.fault.ReplayFault.{ReplayFault}
use Rattle.osc_replay.specs.declared.fault.ReplayFault.TheVariants.{NoMemory}
use Rattle.osc_replay.specs.Disagreeing.{IsRecordingOf}
use Rattle.osc_replay.specs.Formed.{IsFormed, IsFormedTo}
use Rattle.osc_replay.specs.Printed.{printed}
use Rattle.osc_replay.specs.Room.{with_room}

-- A recording goes on from another: it begins with its entries, and may have more bytes.
pub record GoesOnFrom (bytes more : List ℕ) : Type 0 where
  pub caps : Limits
  pub room : ℕ
  pub before : List Entry
  pub since : List Entry
  pub enough : caps.recording ≤ room
  pub first : IsRecordingOf bytes caps before
  pub second : IsRecordingOf more (with_room room caps) (before ++ since)

-- the recording is played again, or memory ran out
abbrev pub IsPlayedUnlessShort : {X : Type 0} → Result X ReplayFault → Type 0
IsPlayedUnlessShort (Ok played) = Unit {0}
IsPlayedUnlessShort (Err NoMemory) = Unit {0}
IsPlayedUnlessShort (Err _) = ⊥

-- Inside the crate: the entries up to what isn't read yet are a legal history, which a server
-- played, which was printed, and which was counted.
pub record IsReplayedTo (bytes : List ℕ) (left : Remaining) (state : State) (text : List ℕ)
    (entries adds : ℕ) : Type 0 where
  pub caps : Limits
  pub before : List Entry
  pub formed : IsFormedTo bytes caps before left
  pub legal : Legal caps before
  pub state_is : state ≡ after (opening caps) before
  pub text_is : text ≡ printed caps before
  pub entries_are : entries ≡ length before
  pub adds_are : adds ≡ count_by (λ entry. is_added entry.answer) before
  pub small : length bytes ≤ max_recording

-- entries up to a place begin a recording of which nothing but the header is read
pub record IsPassing (bytes : List ℕ) (caps : Limits) (before since : List Entry)
    (left : Remaining) (end : ℕ) : Type 0 where
  pub header : HasHeader bytes left
  pub formed : IsFormed caps (before ++ since)
  pub begun : IsFormed caps before
  pub text : bytes ≡ record_text caps (before ++ since)
  pub end_is : end ≡ length (record_text caps before)
  pub small : end ≤ max_recording

-- all are such a history
pub record IsReplayed (bytes : List ℕ) (caps : Limits) (state : State) (prints : Bool)
    (text : List ℕ) (entries adds : ℕ) : Type 0 where
  pub history : List Entry
  pub recording_of : IsRecordingOf bytes caps history
  pub state_is : state ≡ after (opening caps) history
  pub text_is : text ≡ printed caps history
  pub entries_are : entries ≡ length history
  pub adds_are : adds ≡ count_by (λ entry. is_added entry.answer) history
  pub prints_calls : prints ≡ true
  pub small : length bytes ≤ max_recording
