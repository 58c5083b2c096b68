-- Inside the crate: entries whose edits are noted.
use Rattle.std.specs.Prelude.{◌≡◌, ℕ, ◌+◌, ◌≤◌, ◌<◌, List, [], ◌∷◌, ◌++◌, length, drop, Option}
use Rattle.std.specs.Prelude.{Some, None}
use Rattle.std.specs.List.{AllByRecursion}
use Rattle.osc_model.specs.Limits.{AreInRange, Limits, header_size, max_recording}
use Rattle.osc_model.specs.Events.{Entry}
use Rattle.osc_model.specs.Recordings.{IsRecordable, entry_text, header_text}
use Rattle.osc_record.specs.Reading.{Placed}
use Rattle.osc_record.specs.Unread.{HasNoNext, Remaining, Reads}
use Rattle.osc_watch.specs.declared.row.Edit.{Edit}
use Rattle.osc_watch.specs.declared.entries.Stop.{Stop}
use Rattle.osc_watch.specs.declared.entries.Stop.TheVariants.{AtEnd, At, NoMemory}
use Rattle.osc_watch.specs.Edits.{edits_of}
use Rattle.osc_watch.specs.Parts.{text_of}

-- an entry was read, and its edit noted; or nothing was read
abbrev pub NotesNext : Remaining → Remaining → List Edit → List Edit → Option Stop → Type 0
NotesNext old new noted then None =
    (placed : Placed) × Reads old placed new × (then ≡ noted ++ edits_of (placed.entry ∷ []))
NotesNext old new noted then (Some AtEnd) = (old.rest ≡ []) × (then ≡ noted)
NotesNext old new noted then (Some (At place)) = HasNoNext old place × (then ≡ noted)
NotesNext old new noted then (Some (NoMemory place)) = (place ≡ old.at) × (then ≡ noted)

-- entries that can be read
abbrev pub AreReadable : List Entry → Type 0
AreReadable entries = AllByRecursion
    (λ entry. IsRecordable entry.caller entry.event entry.answer
    × (0 < length (entry_text entry.caller entry.event entry.answer))
    × (length (entry_text entry.caller entry.event entry.answer) ≤ max_recording)) entries

-- up to which place
abbrev pub place_in : ℕ → Stop → ℕ
place_in all AtEnd = all
place_in all (At place) = place
place_in all (NoMemory place) = place

-- it is a place after the header
abbrev pub IsPlaceIn : ℕ → Stop → Type 0
IsPlaceIn all stop = (header_size ≤ place_in all stop) × (place_in all stop ≤ all)

-- nothing was left in the bytes; or the entry that isn't whole goes on after them
abbrev pub AllIn : Stop → List ℕ → List Entry → Type 0
AllIn AtEnd tail left = tail ≡ text_of left
AllIn (At place) tail left = 0 < length tail
AllIn (NoMemory place) tail left = Unit {0}

-- a header of these limits, and bytes that end within them where they stand after it
pub record StandAfter (caps : Limits) (header bytes : List ℕ) : Type 0 where
  pub lawful : AreInRange caps
  pub header_is : header ≡ header_text caps
  pub within : header_size + length bytes ≤ caps.recording

-- the bytes are such a header and what stands after it
abbrev pub StandWithin : List ℕ → Type 0
StandWithin bytes = (caps : Limits) × (rest : List ℕ)
    × StandAfter caps (header_text caps) rest × (bytes ≡ header_text caps ++ rest)

-- of entries whose text these bytes begin after a header, a beginning was read and its edits noted
pub record NotesOf (more : List Entry) (tail bytes : List ℕ) (noted then : List Edit)
    (stop : Stop) : Type 0 where
  pub read : List Entry
  pub left : List Entry
  pub split : more ≡ read ++ left
  pub noted_are : then ≡ noted ++ edits_of read
  pub place : place_in (length bytes) stop ≡ header_size + length (text_of read)
  pub whole : AllIn stop tail left

abbrev pub Notes : List ℕ → List Edit → List Edit → Stop → Type 0
Notes bytes noted then stop = (more : List Entry) (tail : List ℕ) → AreReadable more
    → drop header_size bytes ++ tail ≡ text_of more → NotesOf more tail bytes noted then stop
