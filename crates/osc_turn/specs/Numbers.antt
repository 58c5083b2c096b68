-- The numbers of passes, and how often a number stands among them.
use Rattle.std.specs.Prelude.{ℕ, zero, suc, ◌+◌, ◌==◌, if◌then◌else◌, List, [], ◌∷◌, ◌++◌}
use Rattle.osc_turn.specs.declared.view.View.{View}

-- the weights of the numbers, added up
abbrev pub weigh : (ℕ → ℕ) → List ℕ → ℕ
weigh h [] = 0
weigh h (x ∷ xs) = h x + weigh h xs

-- the weights of all numbers below n, added up
abbrev pub weigh_below : (ℕ → ℕ) → ℕ → ℕ
weigh_below h zero = 0
weigh_below h (suc n) = weigh_below h n + h n

-- the weight that counts one number alone
abbrev pub only : ℕ → ℕ → ℕ
only n x = if x == n then 1 else 0

-- how often n is among the numbers
abbrev pub times : ℕ → List ℕ → ℕ
times n xs = weigh (only n) xs

-- a measure of all views, added up
abbrev pub total : (View → ℕ) → List View → ℕ
total f [] = 0
total f (v ∷ vs) = f v + total f vs

-- a view's numbers, with the one that was drawn and is not given to a pass yet
abbrev pub numbers_of : View → List ℕ
numbers_of v = v.numbers ++ v.spare
