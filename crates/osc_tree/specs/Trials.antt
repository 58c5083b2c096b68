-- Inside the crate: what a walk doesn't change, and what is known of the method that it tries.
use Rattle.std.specs.Prelude.{◌≡◌, ℕ, ◌<◌, ◌≤◌, true, false, All, IfSome, List, [], ◌∷◌}
use Rattle.std.specs.Prelude.{length, take, drop, get_or, nat_lt, if◌then◌else◌}
use Rattle.std.specs.Str.{bytes_eq}
use Rattle.std.specs.List.{list_any, slice_split}
use Rattle.osc_pattern.specs.declared.limits.TheConstants.{MAX_NAMES}
use Rattle.osc_pattern.specs.Items.{is_slash}
use Rattle.osc_pattern.specs.Methods.{Method}
use Rattle.osc_pattern.specs.Patterns.{parts_of, is_special}
use Rattle.osc_tree.specs.declared.walk.Walk.{Walk}
use Rattle.osc_tree.specs.Views.{methods_at}
use Rattle.osc_tree.specs.Walking.{agreeing, is_ahead, IsSorted, IsFront, AreParts}

-- the parts of the pattern were found, the methods are sorted and begin alike, and after the last
-- part with a special byte stand the plain ones
pub record IsSet (walk : Walk) : Type 0 where
  pub parts : walk.parts ≡ length (parts_of walk.pattern.now)
  pub few : walk.parts ≤ MAX_NAMES
  pub found : AreParts walk.found.now walk.pattern.now
  pub within : All (λ place. place < length walk.methods.now) walk.places.now
  pub sorted : IsSorted (methods_at walk.methods.now walk.places.now)
  pub front : IsFront walk.front.names walk.front.bytes
      (methods_at walk.methods.now walk.places.now)
  pub plain : All (λ part. list_any is_special part ≡ false)
      (drop walk.wild (parts_of walk.pattern.now))
  pub rest : IfSome walk.plain
      (λ plain. slice_split is_slash plain.now ≡ drop walk.wild (parts_of walk.pattern.now))

-- the method at a place has the address and the names, so many of which match
pub record IsTried (pattern : List ℕ) (methods : List Method) (at : ℕ) (address names : List ℕ)
    (matching : ℕ) : Type 0 where
  pub within : at < length methods
  pub own : (d : Method) → (get_or methods at d).address ≡ address
  pub slash : address ≡ 47 ∷ names
  pub low : All (λ byte. byte < 127) names
  pub count : matching ≡ agreeing (parts_of pattern) (slice_split is_slash names)

-- the method at a place begins with the text, whose names match, and is before the one address
-- which the plain parts make with them
pub record IsBelow (pattern : List ℕ) (methods : List Method) (at wild : ℕ)
    (text plain : List ℕ) : Type 0 where
  pub names : List ℕ
  pub bytes : ℕ
  pub within : at < length methods
  pub own : (d : Method) → (get_or methods at d).address ≡ 47 ∷ names
  pub low : All (λ byte. byte < 127) names
  pub begun : text ≡ 47 ∷ take bytes names
  pub bound : bytes ≤ length names
  pub cut : slice_split is_slash (drop bytes names) ≡ drop wild (slice_split is_slash names)
  pub some : wild ≤ agreeing (parts_of pattern) (slice_split is_slash names)
  pub rest : slice_split is_slash plain ≡ drop wild (parts_of pattern)
  pub before : is_ahead (drop bytes names) plain ≡ true

-- the number of the method at a place, if it has the address
abbrev pub spelled_at : List Method → ℕ → List ℕ → List ℕ
spelled_at methods at address =
    if nat_lt at (length methods)
    then (if bytes_eq (get_or methods at (record { id = 0; address = [] })).address address
    then (get_or methods at (record { id = 0; address = [] })).id ∷ [] else [])
    else []
