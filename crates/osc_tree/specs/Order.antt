-- Inside the crate: the methods in ascending order of their addresses, and the places where they
-- stand in the order of adding.
use Rattle.std.specs.Prelude.{◌≡◌, ℕ, ◌≤◌, ◌<◌, Bool, true, false, nat_eq, nat_lt, get_or, ◌-◌, not}
use Rattle.std.specs.Prelude.{◌&&◌, if◌then◌else◌, List, [], length, take, drop, fold, All}
use Rattle.std.specs.List.{list_any, starts_with, ends_with}
use Rattle.std.specs.Ordering.{is_lt, nat_cmp}
use Rattle.std.specs.Cmp.Lexicographic.{slice_cmp}
use Rattle.osc_pattern.specs.declared.limits.TheConstants.{MAX_NAMES}
use Rattle.osc_pattern.specs.Items.{is_slash}
use Rattle.osc_pattern.specs.Methods.{Method}
use Rattle.osc_pattern.specs.Patterns.{parts_of}
use Rattle.osc_tree.specs.declared.registered.Registered.{Registered}
use Rattle.osc_tree.specs.Matching.{in_place}
use Rattle.osc_tree.specs.Views.{methods_of, method_at, methods_at, IsKept}

-- the methods in ascending order of the address
abbrev pub ordered : List Method → List Method
ordered methods = fold in_place [] methods

-- these are the places of all methods, in ascending order of the address
pub record IsOrder (registered : List Registered) (places : List ℕ) : Type 0 where
  pub within : All (λ place. place < length registered) places
  pub all : methods_at registered places ≡ ordered (methods_of registered)

-- no method's address has more names than this, which is no more than an address may have
pub record IsDepth (methods : List Method) (depth : ℕ) : Type 0 where
  pub names : All (λ method. length (parts_of method.address) ≤ depth) methods
  pub few : depth ≤ MAX_NAMES

-- the methods are kept, and their places stand in order, with room reserved for as many as there
-- may be methods, and with a bound on the names of their addresses
pub record IsIndexed (registered : List Registered) (places : List ℕ)
    (method_limit node_limit node_count method_capacity place_capacity depth : ℕ) : Type 0 where
  pub kept : IsKept (methods_of registered) method_limit node_limit node_count method_capacity
  pub order : IsOrder registered places
  pub room : method_limit ≤ place_capacity
  pub deep : IsDepth (methods_of registered) depth

-- whether the method's address is before the text, in the order of their bytes
abbrev pub is_before : List ℕ → Method → Bool
is_before text method = is_lt (slice_cmp nat_cmp method.address text)

-- whether the method's address begins with the text
abbrev pub begins_with : List ℕ → Method → Bool
begins_with text method = starts_with nat_eq method.address text

-- whether the method's address has no slash from a byte on, and ends with the tail after it
abbrev pub is_flat : ℕ → List ℕ → Method → Bool
is_flat from tail method = not (list_any is_slash (drop from method.address))
    && ends_with nat_eq (drop from method.address) tail

-- a search for the first method that isn't before a text: all below low are before it, and none
-- from high on
pub record IsSearched (text : List ℕ) (methods : List Method) (low high : ℕ) : Type 0 where
  pub order : low ≤ high
  pub bound : high ≤ length methods
  pub before : (k : ℕ) (d : Method) → k < low → is_before text (get_or methods k d) ≡ true
  pub behind : (k : ℕ) (d : Method) → high ≤ k → k < length methods
      → is_before text (get_or methods k d) ≡ false

-- the methods just outside the range of a search begin with so many bytes of the text
pub record IsNarrowed (text : List ℕ) (methods : List Method) (low high below above : ℕ) : Type 0
  where
    pub few : below ≤ length text
    pub few_above : above ≤ length text
    pub first : (d : Method) → 0 < below
        → (0 < low) × (begins_with (take below text) (get_or methods (low - 1) d) ≡ true)
    pub second : (d : Method) → 0 < above
        → (high < length methods) × (begins_with (take above text) (get_or methods high d) ≡ true)

-- where a place stands once another is taken out of a list
abbrev pub closed_up : ℕ → ℕ → ℕ
closed_up place other = if nat_lt place other then other - 1 else other

-- the method whose place stands at an index of the places has the address
abbrev pub StandsAt : List Registered → List ℕ → ℕ → List ℕ → Type 0
StandsAt registered places at address = (at < length places)
    × ((method_at registered (get_or places at 0)).address ≡ address)
