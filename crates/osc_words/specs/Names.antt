-- The last two words.
use Rattle.std.specs.Prelude.{ℕ, ◌-◌, List, [], ◌∷◌, Option, Some, None, length, take}

-- the last two of at least two words
abbrev pub last_two : List (List ℕ) → Option (List ℕ × List ℕ)
last_two [] = None
last_two (word ∷ []) = None
last_two (first ∷ second ∷ []) = Some (first, second)
last_two (word ∷ first ∷ second ∷ words) = last_two (first ∷ second ∷ words)

-- all words but the last two
abbrev pub before_last_two : List (List ℕ) → List (List ℕ)
before_last_two words = take (length words - 2) words
