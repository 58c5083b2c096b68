-- The notes of a cue, and the lines of notes.
use Rattle.std.specs.Prelude.{ℕ, ◌+◌, List, [], ◌∷◌, ◌++◌, map, filter, Result, Ok, Err}
use Rattle.std.specs.List.{flat_map}
use Rattle.hex.specs.Hex.{encode_lower}
use Rattle.osc_atoms.specs.Atoms.{tag}
use Rattle.osc_pattern.specs.Patterns.{matches}
use Rattle.osc_message.specs.Reading.{pattern_of}
use Rattle.osc_message.specs.Arguments.{message_arguments}
use Rattle.osc_print.specs.Words.{spaced, argument_words}
use Rattle.osc_score.specs.declared.fault.ScoreFault.{ScoreFault}
use Rattle.osc_score.specs.Kinds.{kind_number}
use Rattle.osc_score.specs.Scores.{Note}
use Rattle.osc_score.specs.Reading.{note_added}

-- a note's moment in 16 hexadecimal digits, its address, and its arguments
abbrev pub note_text : Note → List ℕ
note_text note =
    encode_lower (tag note.tag) ++ (spaced note.address ++ argument_words note.arguments)

-- the same, and the line's end
abbrev pub note_line : Note → List ℕ
note_line note = note_text note ++ 10 ∷ []

-- a line for each note
abbrev pub score_text : List Note → List ℕ
score_text notes = flat_map note_line notes

-- the note of a message at a moment, for the method with this address
abbrev pub note_for : ℕ → List ℕ → List ℕ → Note
note_for moment message address =
    record { tag = moment; address = address; arguments = message_arguments message }

-- a note for each of the addresses that the message's pattern matches, in their order
abbrev pub notes_of : ℕ → List ℕ → List (List ℕ) → List Note
notes_of moment message addresses =
    map (note_for moment message) (filter (matches (pattern_of message)) addresses)

-- notes, and more after them, each on a line; the first that can't stand with those before it is
-- the fault of its line
abbrev pub notes_added : ℕ → List Note → List Note → Result (List Note) ScoreFault
notes_added number before [] = Ok before
notes_added number before (note ∷ notes) = elim (note_added before note) [
  | Ok more ↦ notes_added (number + 1) more notes
  | Err kind ↦ Err (record { line = number; kind = kind_number kind })
]
