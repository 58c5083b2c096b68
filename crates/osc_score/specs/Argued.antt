-- Inside the crate: what becomes of tags and atoms with more words, and of a line's parts.
use Rattle.osc_atoms.specs.declared.limits.TheConstants.{MAX_BYTES}
use Rattle.std.specs.Prelude.{◌≡◌, ℕ, ◌≤◌, List, [], ◌∷◌, ◌++◌, length, map, Option, Some, None}
use Rattle.std.specs.Prelude.{option_map, Result, Ok, Err}
use Rattle.std.specs.List.{flat_map}
use Rattle.osc_message.specs.Messages.{Argument, tag_of, atom_of, HasNoZero, known, message_text}
use Rattle.osc_script.specs.declared.fault.LineRefusal.{LineRefusal}
use Rattle.osc_script.specs.declared.fault.LineRefusal.TheVariants.{Kind, NoMemory}
use Rattle.osc_score.specs.declared.note.Said.{Said}
use Rattle.osc_score.specs.declared.fault.ScoreFaultKind.{ScoreFaultKind}
use Rattle.osc_score.specs.declared.fault.ScoreFaultKind.TheVariants as kinds
use Rattle.osc_score.specs.Scores.{Note}

-- the argument that is read stands after those before, or none is read
abbrev pub Argues : Result (Unit {0}) (LineRefusal ScoreFaultKind) → Option Argument → List ℕ
    → List ℕ → List ℕ → List ℕ → Type 0
Argues (Ok done) (Some argument) tags atoms more_tags more_atoms =
    (more_tags ≡ tags ++ tag_of argument ∷ []) × (more_atoms ≡ atoms ++ atom_of argument)
Argues (Ok done) None tags atoms more_tags more_atoms = ⊥
Argues (Err (Kind kind)) read tags atoms more_tags more_atoms = (read ≡ None) × (kind ≡ kinds.Arg)
Argues (Err NoMemory) read tags atoms more_tags more_atoms = Unit {0}

-- the argument stands under this tag; it is no text with a zero byte, and its atom is short
abbrev pub IsUnder : ℕ → Argument → Type 0
IsUnder tag argument =
    (tag ≡ tag_of argument) × HasNoZero argument × (length (atom_of argument) ≤ MAX_BYTES)

-- tags and atoms, and those of what is read after them
abbrev pub arguments_onto : List ℕ → List ℕ → Option (List Argument) → Option (List ℕ × List ℕ)
arguments_onto tags atoms read = option_map
    (λ arguments. (tags ++ map tag_of arguments, atoms ++ flat_map atom_of arguments))
    read

-- the arguments that are read stand after those before, or some word is none
abbrev pub ArguesAll : Result (Unit {0}) (LineRefusal ScoreFaultKind) → Option (List Argument)
    → List ℕ → List ℕ → List ℕ → List ℕ → Type 0
ArguesAll (Ok done) read tags atoms more_tags more_atoms =
    arguments_onto tags atoms read ≡ Some (more_tags, more_atoms)
ArguesAll (Err (Kind kind)) read tags atoms more_tags more_atoms =
    (read ≡ None) × (kind ≡ kinds.Arg)
ArguesAll (Err NoMemory) read tags atoms more_tags more_atoms = Unit {0}

-- a note is read, and these are its tag, its address and its message
pub record IsReadAs (tag : ℕ) (address message : List ℕ) (read : Result Note ScoreFaultKind)
    : Type 0 where
  pub arguments : List Argument
  pub is : read ≡ Ok (record { tag = tag; address = address; arguments = arguments })
  pub text : message ≡ message_text (known address arguments)

-- the message of what is read of this tag and address, or the kind of its fault
abbrev pub TellsMessage : Result (List ℕ) (LineRefusal ScoreFaultKind) → ℕ → List ℕ
    → Result Note ScoreFaultKind → Type 0
TellsMessage (Ok message) tag address read = IsReadAs tag address message read
TellsMessage (Err (Kind kind)) tag address read = read ≡ Err kind
TellsMessage (Err NoMemory) tag address read = Unit {0}

-- the same of a note, whole
abbrev pub TellsNote : Result Said (LineRefusal ScoreFaultKind)
    → Result Note ScoreFaultKind → Type 0
TellsNote (Ok said) read = IsReadAs said.tag said.address said.message read
TellsNote (Err (Kind kind)) read = read ≡ Err kind
TellsNote (Err NoMemory) read = Unit {0}
