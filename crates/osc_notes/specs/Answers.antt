-- What is answered of the notes of a cue.
use Rattle.std.specs.Prelude.{◌≡◌, ℕ, List, ◌++◌, Some, None, Result, Ok, Err}
use Rattle.osc_message.specs.Arguments.{unknown_of}
use Rattle.osc_notes.specs.declared.refusal.NotesError.{NotesError}
use Rattle.osc_notes.specs.declared.refusal.NotesError.TheVariants.{UnknownTag, NoMemory}
use Rattle.osc_notes.specs.Notes.{score_text, notes_of}

-- the lines of the notes stand after what was there before; or the message has an unknown tag, this
-- one first, and nothing is added
abbrev pub AddsNotes : Result (Unit {0}) NotesError → ℕ → List ℕ → List (List ℕ) → List ℕ → List ℕ
    → Type 0
AddsNotes (Ok done) moment message addresses old new =
    (unknown_of message ≡ None) × (new ≡ old ++ score_text (notes_of moment message addresses))
AddsNotes (Err (UnknownTag byte)) moment message addresses old new =
    (unknown_of message ≡ Some byte) × (new ≡ old)
AddsNotes (Err NoMemory) moment message addresses old new = unknown_of message ≡ None
