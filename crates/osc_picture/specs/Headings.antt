-- What stands above the rows: the title, and lines.
use Rattle.std.specs.Prelude.{ℕ, ◌+◌, ◌-◌, ◌*◌, ◌^◌, min, if◌then◌else◌, List, [], ◌∷◌, ◌++◌, length}
use Rattle.std.specs.Prelude.{codes, Option, Some, None}
use Rattle.osc_picture.specs.declared.frame.Frame.{Frame}
use Rattle.osc_picture.specs.declared.picture.Picture.{Picture}
use Rattle.osc_picture.specs.Elements.{words_text}
use Rattle.osc_picture.specs.Shelves.{lower}
use Rattle.osc_picture.specs.Thinnings.{thinned_words}

-- where the first row stands: below all lines
abbrev pub top_of : Frame → Picture → ℕ
top_of frame picture =
    min (950 + 190 * ((if frame.thinned then 1 else 0) + length picture.sums.items
    + length picture.notes.items)) (2 ^ 32 - 1)

-- a line for each note, from a height on
abbrev pub notes_text : ℕ → List (List ℕ) → List ℕ
notes_text y [] = []
notes_text y (note ∷ notes) = words_text [] 150 y note ++ notes_text (lower y 190) notes

-- and where a next one stands
abbrev pub after_notes : ℕ → List (List ℕ) → ℕ
after_notes y [] = y
after_notes y (note ∷ notes) = after_notes (lower y 190) notes

-- the same of one, if it is there
abbrev pub note_text : ℕ → Option (List ℕ) → List ℕ
note_text y None = []
note_text y (Some note) = words_text [] 150 y note

abbrev pub after_note : ℕ → Option (List ℕ) → ℕ
after_note y None = y
after_note y (Some note) = lower y 190

-- the title, how much it was, how calls are thinned, and what else there is to say
unfoldable pub heading_text : Frame → Picture → List ℕ
heading_text frame picture =
    let sums_end = after_notes 560 picture.sums.items in
    words_text (codes "t") 150 330 picture.title ++ notes_text 560 picture.sums.items
    ++ note_text sums_end (thinned_words frame picture)
    ++ notes_text (after_note sums_end (thinned_words frame picture)) picture.notes.items
