-- How a job takes a value from one list of entries to the next.
use Rattle.std.specs.Prelude.{◌≡◌, ℕ, Bool, List, [], ◌∷◌, ◌++◌, MatchBool}

-- the list after: one entry more where the job answers true, and else the list before
abbrev pub IsNext : Bool → List (List ℕ) → List (List ℕ) → Type 0
IsNext ran before after =
    MatchBool ran ((text : List ℕ) × (after ≡ before ++ text ∷ [])) (after ≡ before)

-- what is stood for is such a list
abbrev pub StandsNext : (List (List ℕ) → Type 0) → Bool → List (List ℕ) → Type 0
StandsNext stands ran before =
    MatchBool ran ((text : List ℕ) × stands (before ++ text ∷ [])) (stands before)
