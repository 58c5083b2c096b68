-- What holds of each visitor that is there, whatever the rounds are that it has seen.
use Rattle.std.specs.Prelude.{◌≡◌, ℕ, ◌≤◌, List, ◌++◌, length, Option, Some, None, option_map}
use Rattle.std.specs.List.{Contains}
use Rattle.osc_hall.specs.Turns.{Seen}
use Rattle.osc_hall.specs.Visits.{HasAnswer, IsToldSoFar, text_of}

-- what the rounds are given: a page and a state each
abbrev pub Given : Type 0
Given = List (List ℕ × List ℕ)

-- what was heard has no answer yet, or that by the page and the state of one of these rounds
abbrev pub IsAnsweredIn : Given → List ℕ → Option (List ℕ) → Type 0
IsAnsweredIn given heard None = Unit {0}
IsAnsweredIn given heard (Some text) =
    (one : List ℕ × List ℕ) × Contains given one × HasAnswer one.0 one.1 heard (Some text)

-- A visitor has one answer, and what it has taken in all, where it tells, is a front of that.
pub record IsServed {V : Type 0} (taken : V → Option (List ℕ)) (given : Given) (seen : Seen V)
    : Type 0 where
  pub told : IsToldSoFar (taken seen.visitor) seen.told seen.answer
  pub within : seen.told ≤ length (text_of seen.answer)
  pub answered : IsAnsweredIn given seen.heard seen.answer

-- What was heard of a visitor is the front of all that it says, where it tells.
abbrev pub IsHeardOf : {V : Type 0} → (V → Option (List ℕ)) → Option (List ℕ) → Seen V → Type 0
IsHeardOf left says seen = says ≡ option_map (λ rest. seen.heard ++ rest) (left seen.visitor)
