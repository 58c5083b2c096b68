-- How a pattern is matched along the methods in the order of their addresses, and what it costs.
use Rattle.std.specs.Prelude.{◌≡◌, ℕ, zero, suc, ◌+◌, ◌-◌, ◌*◌, ◌<◌, ◌≤◌, nat_lt, if◌then◌else◌}
use Rattle.std.specs.Prelude.{Bool, true, false, All, ◌++◌}
use Rattle.std.specs.Ordering.{is_lt, nat_cmp}
use Rattle.std.specs.Cmp.Lexicographic.{slice_cmp}
use Rattle.std.specs.Prelude.{List, [], ◌∷◌, length, take, drop, filter, map, get_or}
use Rattle.std.specs.Prelude.{flat_map, sum_by}
use Rattle.std.specs.List.{slice_split}
use Rattle.std.specs.Str.{bytes_eq}
use Rattle.osc_pattern.specs.Items.{is_slash}
use Rattle.osc_pattern.specs.declared.limits.TheConstants.{MAX_PLACES}
use Rattle.osc_pattern.specs.Patterns.{parts_of, part_at, matches}
use Rattle.osc_pattern.specs.Reading.{match_part}
use Rattle.osc_pattern.specs.ReadyParts.{StandsFor, IsReadOf}
use Rattle.osc_pattern.specs.declared.ready.Part.{Part}
use Rattle.osc_pattern.specs.declared.ready.ReadyPart.{ReadyPart}
use Rattle.osc_pattern.specs.Methods.{Method, IsMethodList, prefixes_of, distinct}
use Rattle.osc_tree.specs.Matching.{IsAscending}

-- the nodes of a tree: the prefixes by parts of its methods' addresses, each once
abbrev pub node_list : List Method → List (List ℕ)
node_list methods = distinct (flat_map (λ method. prefixes_of method.address) methods)

-- the steps that a node may cost: one at each place of a name, for each byte of the pattern's part
-- at the node's depth and for the part's end, and none where the node is deeper than the pattern
abbrev pub node_steps : List ℕ → List ℕ → ℕ
node_steps pattern node =
    if nat_lt (length (parts_of pattern)) (length (parts_of node)) then 0
    else MAX_PLACES * (length (part_at pattern (length (parts_of node) - 1)) + 1)

-- the steps that all nodes may cost
abbrev pub most_steps : List ℕ → List Method → ℕ
most_steps pattern methods = sum_by (node_steps pattern) (node_list methods)

-- how many names two lists have in common, from the first on
abbrev pub shared : List (List ℕ) → List (List ℕ) → ℕ
shared [] others = 0
shared (name ∷ names) [] = 0
shared (name ∷ names) (other ∷ others) =
    if bytes_eq name other then shared names others + 1 else 0

-- how many of the names the method at a place has, from the first on; none where there is no method
abbrev pub shared_at : List Method → List (List ℕ) → ℕ → ℕ
shared_at methods names at =
    if nat_lt at (length methods)
    then shared names (parts_of (get_or methods at (record { id = 0; address = [] })).address)
    else 0

-- how many of the names the method before a place has
abbrev pub shared_before : List Method → List (List ℕ) → ℕ → ℕ
shared_before methods names zero = 0
shared_before methods names (suc at) = shared_at methods names at

-- two texts begin with the same names, so many and in so many bytes, each with a slash after it
pub record IsBegun (count bytes : ℕ) (names others : List ℕ) : Type 0 where
  pub few : count ≤ bytes
  pub first : bytes ≤ length names
  pub second : bytes ≤ length others
  pub alike : shared (slice_split is_slash names) (slice_split is_slash others)
      ≡ count
      + shared (slice_split is_slash (drop bytes names)) (slice_split is_slash (drop bytes others))
  pub one : slice_split is_slash (drop bytes names) ≡ drop count (slice_split is_slash names)
  pub two : slice_split is_slash (drop bytes others) ≡ drop count (slice_split is_slash others)

-- the names of any two of the methods begin so
abbrev pub IsFront : ℕ → ℕ → List Method → Type 0
IsFront count bytes methods = (i j : ℕ) (d : Method) → i < length methods → j < length methods
    → IsBegun count bytes (drop 1 (get_or methods i d).address)
    (drop 1 (get_or methods j d).address)

-- how many parts match the names at their places, from the first on
abbrev pub agreeing : List (List ℕ) → List (List ℕ) → ℕ
agreeing [] names = 0
agreeing (part ∷ parts) [] = 0
agreeing (part ∷ parts) (name ∷ names) =
    if match_part part name then agreeing parts names + 1 else 0

-- the steps that a part may cost, which is none where it is known to match
abbrev pub part_steps : ℕ → List ℕ → ℕ
part_steps zero part = MAX_PLACES * (length part + 1)
part_steps (suc known) part = 0

-- the steps that parts may cost which stand against names, but for the first that are known to
-- match
abbrev pub spent : ℕ → List (List ℕ) → List (List ℕ) → ℕ
spent known [] names = 0
spent known (part ∷ parts) [] = 0
spent known (part ∷ parts) (name ∷ names) =
    part_steps known part + spent (known - 1) parts names

-- how many names the method at a place has in common with the one before it
abbrev pub known_at : List Method → ℕ → Method → ℕ
known_at methods zero d = 0
known_at methods (suc at) d =
    shared (parts_of (get_or methods at d).address) (parts_of (get_or methods (suc at) d).address)

-- the methods before a place were tried, and what the next has in common with the one before it
-- is known to match
pub record IsWalked (pattern : List ℕ) (methods : List Method) (at : ℕ) (ids : List ℕ) : Type 0
  where
    pub bound : at ≤ length methods
    pub found : ids ≡ map (λ method. method.id)
        (filter (λ method. matches pattern method.address) (take at methods))
    pub known : (d : Method) → at < length methods
        → known_at methods at d
        ≤ agreeing (parts_of pattern) (parts_of (get_or methods at d).address)

-- a lawful list of methods in ascending order of the address
pub record IsSorted (methods : List Method) : Type 0 where
  pub list : IsMethodList methods
  pub ascending : IsAscending methods

-- what stands at each place of the list stands for the pattern's part there
abbrev pub AreParts : List Part → List ℕ → Type 0
AreParts found pattern = (place : ℕ) (d : Part) → place < length (parts_of pattern)
    → StandsFor (get_or found place d) (part_at pattern place)

-- what stands at each place of the list was read of the pattern's part there
abbrev pub AreReadyParts : List ReadyPart → List ℕ → Type 0
AreReadyParts read pattern = (place : ℕ) (d : ReadyPart) → place < length (parts_of pattern)
    → IsReadOf (get_or read place d) (part_at pattern place)

-- the first text is before the second, in the order of their bytes
abbrev pub is_ahead : List ℕ → List ℕ → Bool
is_ahead first second = is_lt (slice_cmp nat_cmp first second)

-- a text without a slash after what is left of an address: what is left of a later one, and begins
-- with a name that the part matches, isn't before the text
pub record IsAim (part rest text : List ℕ) : Type 0 where
  pub ahead : is_ahead rest text ≡ true
  pub one : length (slice_split is_slash text) ≡ 1
  pub reach : (other name : List ℕ) (names : List (List ℕ)) → All (λ byte. byte < 127) other
      → slice_split is_slash other ≡ name ∷ names → match_part part name ≡ true
      → is_ahead other rest ≡ false → is_ahead other text ≡ false

-- what begins with a text, and isn't before what is left of an address, isn't before another text
-- either; the byte is above all that stands after the first text
abbrev pub IsReached : List ℕ → ℕ → List ℕ → List ℕ → Type 0
IsReached rest end text aim =
    (other : List ℕ) → is_ahead other text ≡ false → is_ahead other (text ++ end ∷ []) ≡ true
    → is_ahead other rest ≡ false → is_ahead other aim ≡ false

-- the names after the first that parts match, and where the walk goes on after them
pub record IsOnward (pattern names : List ℕ) (matching at : ℕ) (text : List ℕ) : Type 0 where
  pub part : matching < length (parts_of pattern)
  pub bound : at ≤ length names
  pub cut : slice_split is_slash (drop at names) ≡ drop matching (slice_split is_slash names)
  pub aim : IsAim (part_at pattern matching) (drop at names) text
