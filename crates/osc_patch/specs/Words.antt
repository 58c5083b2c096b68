-- The lines of a patch, and the words of a line.
use Rattle.std.specs.Prelude.{ℕ, ◌-◌, ◌==◌, ◌||◌, Bool, not, nat_eq, if◌then◌else◌, List, [], ◌∷◌}
use Rattle.std.specs.Prelude.{length, take, filter, take_while, codes}
use Rattle.std.specs.List.{slice_split, starts_with, ends_with}

abbrev pub is_line_feed : ℕ → Bool
is_line_feed byte = byte == 10

-- a space or a tab
abbrev pub is_blank : ℕ → Bool
is_blank byte = byte == 32 || byte == 9

abbrev pub is_word : List ℕ → Bool
is_word word = not (length word == 0)

-- a word that begins no comment
abbrev pub is_said : List ℕ → Bool
is_said word = not (starts_with nat_eq word (codes "#"))

-- a line without the one carriage return that may stand at its end
abbrev pub without_return : List ℕ → List ℕ
without_return line = if ends_with nat_eq line (13 ∷ []) then take (length line - 1) line else line

-- the words of a line: what stands between its blanks and isn't empty, before a comment
abbrev pub words_of : List ℕ → List (List ℕ)
words_of line =
    take_while is_said (filter is_word (slice_split is_blank (without_return line)))

-- the lines of a patch: what stands between its line feeds
abbrev pub lines_of : List ℕ → List (List ℕ)
lines_of bytes = slice_split is_line_feed bytes
