-- What is known of the passes that are handed in where a turn is closed.
use Rattle.std.specs.Prelude.{◌≡◌, ℕ, ◌+◌, ◌<◌, false, List, [], ◌∷◌, map, All}
use Rattle.osc_turn.specs.declared.pass.Pass.{Pass}
use Rattle.osc_turn.specs.declared.view.Entry.{Entry}
use Rattle.osc_turn.specs.declared.view.View.{View}
use Rattle.osc_turn.specs.History.{StartsWith, entries_of, texts, own}
use Rattle.osc_turn.specs.Numbers.{weigh, times}
use Rattle.osc_turn.specs.Rule.{number_of, spent}
use Rattle.osc_turn.specs.Steps.{Grows}
use Rattle.osc_turn.specs.Passes.{view}

abbrev pub number : Pass → ℕ
number p = number_of (view p)

-- what the pass that stands first knows
abbrev pub first_view : List Pass → View
first_view [] = spent
first_view (p ∷ ps) = view p

-- the history begins with what the pass has seen, and all its own entries are among these
abbrev pub Carries : List Entry → Pass → Type 0
Carries history p = StartsWith history (view p).seen
    × (own (number p) history ≡ own (number p) (view p).seen)

-- the entry is an own one of exactly one of the passes
abbrev pub IsOwnOfOne : List Pass → Entry → Type 0
IsOwnOfOne passes e = times e.number (map number passes) ≡ 1

-- The value stands for a history that carries each pass, and each entry of it is an own one of
-- exactly one of them. It begins with the entries that the value had when the turn was opened,
-- which are the first pass's.
pub record Closes {S : Type 0} (stands : S → List (List ℕ) → Type 0) (opened : List (List ℕ))
    (value : S) (passes : List Pass) : Type 0 where
  pub history : List Entry
  pub stands_for : stands value (texts history)
  pub begins : StartsWith history (entries_of opened)
  pub carried : All (Carries history) passes
  pub each_once : All (IsOwnOfOne passes) history

-- one view has the numbers of another, has seen all that that one had seen, and no further own
-- entry of it
abbrev pub Absorbs : View → View → Type 0
Absorbs w v = Grows v w.seen × ((n : ℕ) → 0 < times n v.numbers → 0 < times n w.numbers)

-- the view of the first pass, after these passes were joined into it
pub record Gathers (v : View) (passes : List Pass) (w : View) : Type 0 where
  pub free : w.holds ≡ false
  pub bare : w.spare ≡ []
  pub same_made : w.made ≡ v.made
  pub same_kind : w.kind ≡ v.kind
  pub same_opened : w.opened_at ≡ v.opened_at
  pub numbers : (h : ℕ → ℕ) → weigh h w.numbers ≡ weigh h v.numbers + weigh h (map number passes)
  pub first : Absorbs w v
  pub others : All (λ p. Absorbs w (view p)) passes
