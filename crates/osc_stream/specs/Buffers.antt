-- What a source that is read through a buffer has left.
use Rattle.std.specs.Prelude.{◌≡◌, ℕ, ◌-◌, Bool, true, false, List, [], ◌++◌, take, drop}
use Rattle.std.specs.Prelude.{Option, Some, None, option_map}
use Rattle.osc_edge.specs.Faults.{Rose}

-- the bytes of the buffer that aren't given yet, from a place to another
abbrev pub held : ℕ → ℕ → List ℕ → List ℕ
held start end space = take (end - start) (drop start space)

-- those, and then what the source has left, where it tells
abbrev pub buffered : List ℕ → Option (List ℕ) → Option (List ℕ)
buffered held left = option_map (λ bytes. held ++ bytes) left

-- nothing is left, where that is told
abbrev pub IsOver : Option (List ℕ) → Type 0
IsOver None = Unit {0}
IsOver (Some left) = left ≡ []

-- What is held and left before and after the source was read, if all that was held was given:
-- nothing comes or goes, and nothing is held then only where nothing is left. Where the source
-- failed nothing was held, and nothing changed.
abbrev pub Refills : Bool → List ℕ → List ℕ → Option (List ℕ) → Option (List ℕ) → Type 0
Refills true old new before after =
    (buffered old before ≡ buffered new after) × (new ≡ [] → IsOver after)
Refills false old new before after = (old ≡ []) × (new ≡ []) × (after ≡ before)

-- the source's count rose where it failed, and is left where it didn't
abbrev pub HasRefillCause : Bool → ℕ → ℕ → Type 0
HasRefillCause true before now = now ≡ before
HasRefillCause false before now = Rose before now
