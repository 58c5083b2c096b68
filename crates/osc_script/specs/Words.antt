-- The lines of a script, and the words of a line.
use Rattle.std.specs.Prelude.{ℕ, ◌-◌, ◌==◌, Bool, not, nat_le, nat_eq, if◌then◌else◌, List, [], ◌∷◌}
use Rattle.std.specs.Prelude.{length, take, filter}
use Rattle.std.specs.List.{slice_split, ends_with}

abbrev pub is_space : ℕ → Bool
is_space byte = byte == 32

abbrev pub is_no_space : ℕ → Bool
is_no_space byte = not (is_space byte)

abbrev pub is_line_feed : ℕ → Bool
is_line_feed byte = byte == 10

-- a word has a byte at least
abbrev pub is_word : List ℕ → Bool
is_word word = nat_le 1 (length word)

-- the words of a text: what stands between its spaces, and isn't empty
abbrev pub words_of : List ℕ → List (List ℕ)
words_of text = filter is_word (slice_split is_space text)

-- a line without the one carriage return that may stand at its end
abbrev pub without_return : List ℕ → List ℕ
without_return line = if ends_with nat_eq line (13 ∷ []) then take (length line - 1) line else line

-- each part but the last was ended by a line feed; the last is a line only if it has a byte, and
-- stands as it is
abbrev pub lines_from : List (List ℕ) → List (List ℕ)
lines_from [] = []
lines_from (part ∷ []) = if length part == 0 then [] else part ∷ []
lines_from (part ∷ next ∷ parts) = without_return part ∷ lines_from (next ∷ parts)

-- the lines of a script
abbrev pub lines_of : List ℕ → List (List ℕ)
lines_of bytes = lines_from (slice_split is_line_feed bytes)
