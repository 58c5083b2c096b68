-- The messages of a sheet, each with its moment, and their notes.
use Rattle.std.specs.Prelude.{◌≡◌, ℕ, ◌<◌, ◌≤◌, ◌^◌, List, [], ◌∷◌, ◌++◌, None}
use Rattle.osc_atoms.specs.declared.limits.TheConstants.{MAX_PACKET}
use Rattle.osc_atoms.specs.Atoms.{AreBytes}
use Rattle.osc_message.specs.Messages.{IsMessage}
use Rattle.osc_message.specs.Arguments.{unknown_of}
use Rattle.osc_score.specs.Scores.{Note}
use Rattle.osc_notes.specs.Notes.{notes_of}

-- the notes of messages, one message after another
abbrev pub cued_notes : List (List ℕ) → List (ℕ × List ℕ) → List Note
cued_notes addresses [] = []
cued_notes addresses (cue ∷ cues) = notes_of cue.0 cue.1 addresses ++ cued_notes addresses cues

-- a moment of 64 bits, and a message without an unknown tag
pub record IsSayable (cue : ℕ × List ℕ) : Type 0 where
  pub fits : cue.0 < 2 ^ 64
  pub message : IsMessage MAX_PACKET cue.1
  pub bytes : AreBytes cue.1
  pub known : unknown_of cue.1 ≡ None

-- no moment is below this one, nor below the moment of the message before
abbrev pub AreInOrder : ℕ → List (ℕ × List ℕ) → Type 0
AreInOrder least [] = Unit {0}
AreInOrder least (cue ∷ cues) = (least ≤ cue.0) × AreInOrder cue.0 cues
