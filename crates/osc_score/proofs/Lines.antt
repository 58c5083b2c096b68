-- The words of a line are no longer than the line, and the lines no longer than the input.
use Rattle.std.proofs.Common.{◌≡◌, ℕ, ◌+◌, ◌-◌, ◌≤◌, ◌==◌, Bool, true, false, cond, List, [], ◌∷◌, length, take, filter, arith, length-take, ap}
use Rattle.std.specs.List.{slice_split, onto_first, ends_with}
use Rattle.std.specs.Prelude.{nat_eq}
use Rattle.osc_script.specs.Words.{is_space, is_word, is_line_feed, words_of, without_return, lines_from, lines_of}
use Rattle.osc_score.proofs.Arguments.{spaced_size}

onto_size : (x : ℕ) (parts : List (List ℕ)) → 1 ≤ spaced_size parts → spaced_size (onto_first x parts) ≡ 1 + spaced_size parts
onto_size x [] some = absurd (omega arith)
onto_size x (part ∷ parts) some = omega arith

split_size : (p : ℕ → Bool) (text : List ℕ) → spaced_size (slice_split p text) ≡ length text + 1
split_size p [] = omega arith
split_size p (x ∷ text) = go (p x) (split_size p text) where
  go : (t : Bool) → spaced_size (slice_split p text) ≡ length text + 1
      → spaced_size (cond t ([] ∷ slice_split p text) (onto_first x (slice_split p text))) ≡ length (x ∷ text) + 1
  go true is = omega arith
  go false is = omega (arith, onto_size x (slice_split p text) (omega arith))

kept_size : (test : List ℕ → Bool) (parts : List (List ℕ)) → spaced_size (filter test parts) ≤ spaced_size parts
kept_size test [] = omega arith
kept_size test (part ∷ parts) = go (test part) (kept_size test parts) where
  go : (t : Bool) → spaced_size (filter test parts) ≤ spaced_size parts
      → spaced_size (cond t (part ∷ filter test parts) (filter test parts)) ≤ spaced_size (part ∷ parts)
  go true few = omega arith
  go false few = omega arith

pub words_short : (text : List ℕ) → spaced_size (words_of text) ≤ length text + 1
words_short text = omega (arith, kept_size is_word (slice_split is_space text), split_size is_space text)

-- how many bytes lines have
abbrev pub lines_size : List (List ℕ) → ℕ
lines_size [] = 0
lines_size (text ∷ texts) = length text + lines_size texts

return_few : (line : List ℕ) → length (without_return line) ≤ length line
return_few line = go (ends_with nat_eq line (13 ∷ [])) where
  go : (t : Bool) → length (cond t (take (length line - 1) line) line) ≤ length line
  go true = omega (arith, length-take (length line - 1) line)
  go false = omega arith

from_few : (part : List ℕ) (parts : List (List ℕ)) → lines_size (lines_from (part ∷ parts)) + 1 ≤ spaced_size (part ∷ parts)
from_few part [] = go (length part == 0) where
  go : (t : Bool) → lines_size (cond t [] (part ∷ [])) + 1 ≤ spaced_size (part ∷ [])
  go true = omega arith
  go false = omega arith
from_few part (next ∷ parts) = omega (arith, return_few part, from_few next parts)

all_few : (parts : List (List ℕ)) (size : ℕ) → spaced_size parts ≡ size + 1 → lines_size (lines_from parts) ≤ size
all_few [] size is = omega arith
all_few (part ∷ parts) size is = omega (arith, from_few part parts)

pub lines_short : (bytes : List ℕ) → lines_size (lines_of bytes) ≤ length bytes
lines_short bytes = all_few (slice_split is_line_feed bytes) (length bytes) (split_size is_line_feed bytes)

-- the line that is cut off is no longer than the text
pub line_few : (bytes text after : List ℕ) → lines_of bytes ≡ text ∷ lines_of after → length text ≤ length bytes
line_few bytes text after cut = omega (arith, lines_short bytes, ap (λ (l : List (List ℕ)). lines_size l) cut)
