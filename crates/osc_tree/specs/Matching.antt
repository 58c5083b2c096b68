-- The methods that a pattern matches, in the order of their addresses.
use Rattle.std.specs.Prelude.{◌≡◌, ℕ, Bool, false, List, [], ◌∷◌, filter, fold, insert, map}
use Rattle.std.specs.List.{AllByRecursion, position_or_len}
use Rattle.std.specs.List.Sorted.{IsPermutation}
use Rattle.std.specs.Ordering.{is_lt, nat_cmp}
use Rattle.std.specs.Cmp.Lexicographic.{slice_cmp}
use Rattle.osc_pattern.specs.Patterns.{matches}
use Rattle.osc_pattern.specs.Methods.{Method}

-- the first address is before the second, in the order of their bytes
abbrev pub is_below : Method → Method → Bool
is_below a b = is_lt (slice_cmp nat_cmp a.address b.address)

-- the methods that a pattern matches, in the order of adding
abbrev pub matched : List ℕ → List Method → List Method
matched pattern methods = filter (λ method. matches pattern method.address) methods

-- a method in its place among others that stand in ascending order of the address
abbrev pub in_place : List Method → Method → List Method
in_place methods method = insert methods (position_or_len (is_below method) methods) method

-- the matching methods, in ascending order of the address
abbrev pub matching : List ℕ → List Method → List Method
matching pattern methods = fold in_place [] (matched pattern methods)

-- their numbers
abbrev pub matching_ids : List ℕ → List Method → List ℕ
matching_ids pattern methods = map (λ method. method.id) (matching pattern methods)

-- no address is before one that stands ahead of it
abbrev pub IsAscending : List Method → Type 0
IsAscending [] = Unit {0}
IsAscending (method ∷ methods) = AllByRecursion (λ other. is_below other method ≡ false) methods
    × IsAscending methods

-- what a contract sees of a list of hits: how many there may be, and those that it holds
pub record HitList : Type 0 where
  pub limit : ℕ
  pub ids : List ℕ

-- the numbers are those of the methods that the pattern matches, each once, in ascending order of
-- the address
pub record AreHits (pattern : List ℕ) (methods : List Method) (ids : List ℕ) : Type 0 where
  pub found : List Method
  pub numbers : ids ≡ map (λ method. method.id) found
  pub each : IsPermutation (matched pattern methods) found
  pub ascending : IsAscending found
