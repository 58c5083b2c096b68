-- Scores, read: the notes of the lines, or the first fault.
use Rattle.osc_atoms.specs.declared.limits.TheConstants.{MAX_PACKET}
use Rattle.osc_score.specs.declared.limits.TheConstants.{MAX_SCORE}
use Rattle.std.specs.Prelude.{ℕ, ◌+◌, ◌≤◌, Bool, nat_lt, nat_eq, ◌==◌, if◌then◌else◌, List, [], ◌∷◌}
use Rattle.std.specs.Prelude.{◌++◌, length, map, fold, codes, Option, Some, None, ok_or, Result}
use Rattle.std.specs.Prelude.{Ok, Err, is_ok}
use Rattle.std.specs.List.{starts_with}
use Rattle.osc_pattern.specs.Addresses.{is_address}
use Rattle.osc_message.specs.Messages.{Argument, tag_of}
use Rattle.osc_message.specs.Reading.{brackets_read}
use Rattle.osc_tree.specs.Adding.{Refusal, taken, under_method, is_container, methods_full}
use Rattle.osc_tree.specs.Adding.{nodes_full, add_refusal}
use Rattle.osc_script.specs.Words.{words_of, lines_of}
use Rattle.osc_script.specs.Acts.{and_then}
use Rattle.osc_score.specs.declared.fault.ScoreFault.{ScoreFault}
use Rattle.osc_score.specs.declared.fault.ScoreFaultKind.{ScoreFaultKind}
use Rattle.osc_score.specs.declared.fault.ScoreFaultKind.TheVariants as kinds
use Rattle.osc_score.specs.Kinds.{kind_number}
use Rattle.osc_score.specs.ArgumentWords.{tag_read, arguments_read}
use Rattle.osc_score.specs.Scores.{Note, Group, alone, groups_of, bundle_text, tree_of, IsScore}
use Rattle.osc_score.specs.Scores.{score_size}

-- the array brackets balance
abbrev pub are_balanced : List Argument → Bool
are_balanced arguments = is_ok (brackets_read 0 0 (map tag_of arguments) 0)

-- a note of these parts, where the brackets balance
abbrev pub balanced_note : ℕ → List ℕ → List Argument → Result Note ScoreFaultKind
balanced_note tag address arguments =
    if are_balanced arguments
    then Ok (record { tag = tag; address = address; arguments = arguments })
    else Err kinds.Brackets

-- a note at a tag, which isn't below the least: the address, and then the words
abbrev pub note_at : ℕ → ℕ → List ℕ → List (List ℕ) → Result Note ScoreFaultKind
note_at least tag address words =
    if nat_lt tag least then Err kinds.Order else
    if is_address address
    then and_then (ok_or (arguments_read words) kinds.Arg) (balanced_note tag address)
    else Err kinds.Address

-- the note of a line's words
abbrev pub note_read : ℕ → List ℕ → List ℕ → List (List ℕ) → Result Note ScoreFaultKind
note_read least moment address words =
    and_then (ok_or (tag_read moment) kinds.Tag) (λ tag. note_at least tag address words)

-- the tag of the last note, or 2
abbrev pub least_of : List Note → ℕ
least_of notes = fold (λ least note. note.tag) 2 notes

-- the run that a note ends: the last one with it, if that has its tag, or else a new one
abbrev pub run_with : List Group → Note → Group
run_with [] note = alone note
run_with (group ∷ []) note =
    if group.tag == note.tag
    then record { tag = group.tag; notes = group.notes ++ note ∷ [] } else alone note
run_with (group ∷ next ∷ groups) note = run_with (next ∷ groups) note

-- runs with one more note after them
abbrev pub extended : List Group → Note → List Group
extended [] note = alone note ∷ []
extended (group ∷ []) note =
    if group.tag == note.tag
    then record { tag = group.tag; notes = group.notes ++ note ∷ [] } ∷ []
    else group ∷ alone note ∷ []
extended (group ∷ next ∷ groups) note = group ∷ extended (next ∷ groups) note

-- what refuses an address, but that it is there already
abbrev pub unless_refused : Option Refusal → List Note → Result (List Note) ScoreFaultKind
unless_refused None notes = Ok notes
unless_refused (Some (taken id)) notes = Ok notes
unless_refused (Some (under_method id)) notes = Err kinds.Clash
unless_refused (Some is_container) notes = Err kinds.Clash
unless_refused (Some (methods_full limit)) notes = Err kinds.TreeFull
unless_refused (Some (nodes_full need free)) notes = Err kinds.TreeFull

-- a note after others, where its bundle isn't too long, and its address can stand with theirs
abbrev pub note_added : List Note → Note → Result (List Note) ScoreFaultKind
note_added notes note =
    if nat_lt MAX_PACKET (length (bundle_text (run_with (groups_of notes) note)))
    then Err kinds.Bundle
    else unless_refused (add_refusal (tree_of notes) note.address) (notes ++ note ∷ [])

-- notes, and what words say after them; none say nothing
abbrev pub words_read : List Note → List (List ℕ) → Result (List Note) ScoreFaultKind
words_read notes [] = Ok notes
words_read notes (word ∷ []) = Err kinds.Count
words_read notes (moment ∷ address ∷ words) =
    and_then (note_read (least_of notes) moment address words) (note_added notes)

-- notes, and what a line says after them; one that begins with `#` says nothing
abbrev pub line_read : List Note → List ℕ → Result (List Note) ScoreFaultKind
line_read notes text =
    if starts_with nat_eq text (codes "#") then Ok notes else words_read notes (words_of text)

-- notes, and what lines say after them, counted from a number on; the first fault decides
abbrev pub lines_read : ℕ → List Note → List (List ℕ) → Result (List Note) ScoreFault
lines_read number notes [] = Ok notes
lines_read number notes (text ∷ texts) = elim (line_read notes text) [
  | Ok more ↦ lines_read (number + 1) more texts
  | Err kind ↦ Err (record { line = number; kind = kind_number kind })
]

-- the notes of a score, or its first fault; an input that is too long is a fault in no line
abbrev pub score_of : List ℕ → Result (List Note) ScoreFault
score_of bytes =
    if nat_lt MAX_SCORE (length bytes)
    then Err (record { line = 0; kind = kind_number kinds.TooLong })
    else lines_read 1 [] (lines_of bytes)

-- a score, whose lines have no more bytes than these, which aren't too many
pub record IsScored (size : ℕ) (notes : List Note) : Type 0 where
  pub score : IsScore notes
  pub short : score_size notes ≤ size
  pub within : size ≤ MAX_SCORE
