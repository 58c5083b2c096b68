-- Inside the crate: what is kept of the methods that a unit's messages call: for each message how
-- many they are, and their ids.
use Rattle.std.specs.Prelude.{◌≡◌, ℕ, ◌≤◌, List, [], ◌∷◌, length, map, take, drop, Some, All}
use Rattle.std.specs.Prelude.{IsTrue}
use Rattle.osc_pattern.specs.Methods.{Method}
use Rattle.osc_pattern.specs.Patterns.{is_pattern}
use Rattle.osc_tree.specs.Registry.{Registry, address_by_id}
use Rattle.osc_tree.specs.Matching.{matching, matching_ids}
use Rattle.osc_model.specs.Calls.{call_by}
use Rattle.osc_model.specs.Step.{calls_of}

-- the ids that are kept of the first message
abbrev pub first_found : List ℕ → List ℕ
first_found [] = []
first_found (count ∷ kept) = take count kept

-- what is kept of the others
abbrev pub after_found : List ℕ → List ℕ
after_found [] = []
after_found (count ∷ kept) = drop count kept

-- as many ids are kept of the first message as are counted
abbrev pub CountsFound : List ℕ → Type 0
CountsFound [] = ⊥
CountsFound (count ∷ kept) = count ≤ length kept

-- nothing is kept, or the ids of the methods that a message calls stand first
abbrev pub BeginsFound : List Method → List ℕ → List ℕ → Type 0
BeginsFound methods message [] = Unit {0}
BeginsFound methods message (count ∷ kept) =
    (count ≤ length kept)
    × ((index : ℕ) → map (call_by methods index message) (take count kept)
    ≡ calls_of methods index message)

-- what is kept is of messages, from the first on
abbrev pub AreFound : List Method → List (List ℕ) → List ℕ → Type 0
AreFound methods [] kept = Unit {0}
AreFound methods (message ∷ messages) kept =
    BeginsFound methods message kept × AreFound methods messages (after_found kept)

-- the ids are those of the methods that a pattern matches
pub record AreOf (tree : Registry) (pattern ids : List ℕ) : Type 0 where
  pub are : ids ≡ matching_ids pattern tree.methods
  pub few : length ids ≤ tree.method_limit
  pub named : All (λ method. address_by_id tree.methods method.id ≡ Some method.address)
      (matching pattern tree.methods)

-- the ids are those of the methods that the bytes match, where these are a pattern
abbrev pub StandFor : Registry → List ℕ → List ℕ → Type 0
StandFor tree bytes ids = IsTrue (is_pattern bytes) → AreOf tree bytes ids
