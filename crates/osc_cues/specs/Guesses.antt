-- The method that is nearest to an address that none answers.
use Rattle.std.specs.Prelude.{ℕ, ◌-◌, ◌/◌, ◌==◌, ◌&&◌, ◌||◌, Bool, min, max, nat_le, nat_lt, nat_eq}
use Rattle.std.specs.Prelude.{if◌then◌else◌, List, [], ◌∷◌, length, Option, Some, None, option_map}
use Rattle.std.specs.Ordering.{nat_cmp, is_lt}
use Rattle.std.specs.Cmp.Lexicographic.{slice_cmp}
use Rattle.strsim.specs.Edits.{levenshtein_row}

-- how many bytes have to be put in, left out or exchanged
abbrev pub distance : List ℕ → List ℕ → ℕ
distance word name = levenshtein_row nat_eq word name (length name)

-- how far a name may be from a word: a third of the word's length, from 1 to 3
abbrev pub reach : List ℕ → ℕ
reach word = max 1 (min 3 (length word / 3))

-- two lengths are at most so far apart
abbrev pub are_close : ℕ → ℕ → ℕ → Bool
are_close most one other = nat_le (one - other) most && nat_le (other - one) most

-- how far a name is, where it is no farther than it may be; the distance is never below the
-- difference of the lengths
abbrev pub distance_near : List ℕ → List ℕ → Option ℕ
distance_near word name =
    if are_close (reach word) (length word) (length name)
    then (if nat_le (distance word name) (reach word) then Some (distance word name) else None)
    else None

-- before the other in byte order
abbrev pub is_before : List ℕ → List ℕ → Bool
is_before name other = is_lt (slice_cmp nat_cmp name other)

-- nearer, or as near and before the other
abbrev pub is_better : ℕ × List ℕ → ℕ × List ℕ → Bool
is_better one other = nat_lt one.0 other.0 || (one.0 == other.0 && is_before one.1 other.1)

abbrev pub better_of : ℕ × List ℕ → Option (ℕ × List ℕ) → ℕ × List ℕ
better_of one None = one
better_of one (Some other) = if is_better one other then one else other

-- the best so far, and a name at this distance, if it is near
abbrev pub better : Option (ℕ × List ℕ) → Option ℕ → List ℕ → Option (ℕ × List ℕ)
better best None name = best
better best (Some far) name = Some (better_of (far, name) best)

-- the best of names and one before them
abbrev pub best_from : Option (ℕ × List ℕ) → List ℕ → List (List ℕ) → Option (ℕ × List ℕ)
best_from best word [] = best
best_from best word (name ∷ names) =
    best_from (better best (distance_near word name) name) word names

-- the nearest name, and of those as near the first in byte order
abbrev pub nearest : List ℕ → List (List ℕ) → Option (List ℕ)
nearest word names = option_map (λ best. best.1) (best_from None word names)
