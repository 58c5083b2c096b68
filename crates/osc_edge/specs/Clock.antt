-- What a call of a clock does.
use Rattle.std.specs.Prelude.{◌≡◌, ℕ, ◌<◌, List, [], ◌∷◌, length, drop, Option, IfSome, option_map}
use Rattle.osc_edge.specs.declared.clock.Moment.{Moment}
use Rattle.osc_edge.specs.declared.clock.Moment.TheVariants.{At, Failed}
use Rattle.osc_edge.specs.Faults.{Rose}

-- the moments left after the first one was given: it goes, but the last one stays
abbrev pub later_moments : List ℕ → List ℕ
later_moments [] = []
later_moments (moment ∷ []) = moment ∷ []
later_moments (moment ∷ next ∷ moments) = next ∷ moments

-- the first of the moments is this one
abbrev pub IsFirst : ℕ → List ℕ → Type 0
IsFirst moment moments = moments ≡ moment ∷ drop 1 moments

-- at least one moment is left, where they are told
abbrev pub HasMoments : Option (List ℕ) → Type 0
HasMoments left = IfSome left (λ moments. 0 < length moments)

-- The moments left before and after, where they are told: a moment given is the first of them, and
-- a failed call leaves all.
abbrev pub GivesMoment : Option (List ℕ) → Option (List ℕ) → Moment → Type 0
GivesMoment before after (At moment) =
    (after ≡ option_map later_moments before) × IfSome before (IsFirst moment)
GivesMoment before after Failed = after ≡ before

-- Failed comes only where the count rose, and any other answer leaves the count
abbrev pub HasClockCause : ℕ → ℕ → Moment → Type 0
HasClockCause before now (At moment) = now ≡ before
HasClockCause before now Failed = Rose before now
