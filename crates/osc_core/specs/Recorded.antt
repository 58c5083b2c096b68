-- Inside the crate: the hits of a release that is being recorded.
use Rattle.osc_model.specs.Limits.{release_head_size}
use Rattle.std.specs.Prelude.{ℕ, ◌+◌, ◌*◌, ◌≤◌, ◌≡◌, List, [], ◌∷◌, length, Option, Some, None}
use Rattle.std.specs.Prelude.{Result, Ok, Err}
use Rattle.osc_model.specs.Events.{Call, Hit}
use Rattle.osc_model.specs.Step.{hits_of}
use Rattle.osc_atoms.specs.declared.room.Room.{Room}
use Rattle.osc_record.specs.Writing.{Begun, Recording, recording_text, with_release, with_hit}

-- how many hits are owed
abbrev pub owed_in : Option Begun → ℕ
owed_in None = 0
owed_in (Some begun) = begun.owed

abbrev pub owed_by : Recording → ℕ
owed_by recording = owed_in recording.begun

-- with hits, one after another
abbrev pub with_hits : Recording → List Hit → Recording
with_hits recording [] = recording
with_hits recording (hit ∷ hits) = with_hits (with_hit recording hit) hits

-- there is room for so many bytes; or it tells how many are free, which are fewer
abbrev pub TellsRoom : Option Room → Recording → ℕ → Type 0
TellsRoom None recording size = length (recording_text recording) + size ≤ recording.caps.recording
TellsRoom (Some room) recording size =
    (room.need ≡ size) × (room.free + length (recording_text recording) ≡ recording.caps.recording)

-- the calls of a unit that a caller releases are recorded, where there is room for the entry; else
-- all stays
abbrev pub RecordsCalls : Result ℕ Room → ℕ → ℕ → List Call → Recording → Recording → Type 0
RecordsCalls (Ok count) caller unit calls old new =
    (count ≡ length calls)
    × (length (recording_text old) + (release_head_size + 8 * count) ≤ old.caps.recording)
    × (new ≡ with_hits (with_release old caller unit count) (hits_of calls))
RecordsCalls (Err room) caller unit calls old new =
    TellsRoom (Some room) old (release_head_size + 8 * length calls) × (new ≡ old)
