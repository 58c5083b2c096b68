-- The ids of the boxes, in the order of adding.
use Rattle.std.specs.Prelude.{◌≡◌, ◌≢◌, ℕ, ◌<◌, ◌≤◌, Bool, true, ◌&&◌, ◌==◌, nat_lt, not, List, []}
use Rattle.std.specs.Prelude.{◌∷◌, length, filter, slice_index, Option, Some, None}
use Rattle.std.specs.List.{list_all, AllByRecursion}

-- whether each id is below all those after it
abbrev pub is_ascending : List ℕ → Bool
is_ascending [] = true
is_ascending (id ∷ ids) = list_all (nat_lt id) ids && is_ascending ids

-- the ids before the place are below this one, and no other is
pub record IsFirstFrom (place id : ℕ) (ids : List ℕ) : Type 0 where
  pub within : place ≤ length ids
  pub below : (k : ℕ) → k < place → slice_index ids k < id
  pub above : (k : ℕ) → place ≤ k → k < length ids → id ≤ slice_index ids k

-- the id stands in the place, or nowhere
abbrev pub IsPlaceOf : Option ℕ → ℕ → List ℕ → Type 0
IsPlaceOf (Some place) id ids = (place < length ids) × (slice_index ids place ≡ id)
IsPlaceOf None id ids = AllByRecursion (λ other. other ≢ id) ids

-- the ids but for this one
abbrev pub without : ℕ → List ℕ → List ℕ
without id ids = filter (λ other. not (other == id)) ids
