-- A recording that is read entry by entry: what isn't read yet, the next entry, and a malformed
-- place.
use Rattle.std.specs.Prelude.{◌≡◌, ℕ, ◌+◌, ◌<◌, ◌≤◌, List, ◌++◌, length}
use Rattle.osc_atoms.specs.Atoms.{AreBytes}
use Rattle.osc_model.specs.Limits.{AreInRange, Limits, header_size, max_recording}
use Rattle.osc_model.specs.Events.{Entry as Recorded}
use Rattle.osc_model.specs.Recordings.{IsRecordable, header_text, entry_text}
use Rattle.osc_record.specs.Reading.{Placed}

-- the limits, the place up to which is read, and the bytes from there on
pub record Remaining : Type 0 where
  pub caps : Limits
  pub at : ℕ
  pub rest : List ℕ

-- bytes that end within the largest recording
pub record AreBytesAt (at : ℕ) (rest : List ℕ) : Type 0 where
  pub bytes : AreBytes rest
  pub small : at + length rest ≤ max_recording

-- the header is read, and nothing else
pub record HasHeader (bytes : List ℕ) (left : Remaining) : Type 0 where
  pub lawful : AreInRange left.caps
  pub text : bytes ≡ header_text left.caps ++ left.rest
  pub at_is : left.at ≡ header_size

-- one more entry is read, which can be recorded and ends within the limit
pub record Reads (old : Remaining) (placed : Placed) (new : Remaining) : Type 0 where
  pub at_is : placed.at ≡ old.at
  pub recordable : IsRecordable placed.entry.caller placed.entry.event placed.entry.answer
  pub text : old.rest ≡ entry_text placed.entry.caller placed.entry.event placed.entry.answer
      ++ new.rest
  pub moved : new.at
      ≡ old.at + length (entry_text placed.entry.caller placed.entry.event placed.entry.answer)
  pub within : new.at ≤ old.caps.recording
  pub caps_stay : new.caps ≡ old.caps
  pub small : old.at + length old.rest ≤ max_recording
  pub shorter : length new.rest < length old.rest

-- some bytes are left, and they don't begin with an entry that can be recorded and ends within the
-- limit
pub record HasNoNext (left : Remaining) (at : ℕ) : Type 0 where
  pub at_is : at ≡ left.at
  pub some : 0 < length left.rest
  pub none : (entry : Recorded) (more : List ℕ) → IsRecordable entry.caller entry.event entry.answer
      → at + length (entry_text entry.caller entry.event entry.answer) ≤ left.caps.recording
      → left.rest ≡ entry_text entry.caller entry.event entry.answer ++ more → ⊥
