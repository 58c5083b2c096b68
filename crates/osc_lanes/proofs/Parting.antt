-- What the entries of a history give, parted by the numbers of tokens.
use Rattle.std.proofs.Common.{◌≡◌, ◌≢◌, ℕ, zero, suc, ◌+◌, ◌<◌, ◌≤◌, cond, List, [], ◌∷◌, ◌++◌, flat_map, refl, sym, ap, subst, ◌∙◌, arith, append_assoc}
use Rattle.std.proofs.Common.{eq-eqb, ne_eqb}
use Rattle.std.specs.List.{AllByRecursion}
use Rattle.std.specs.List.Sorted.{IsPermutation}
use Rattle.std.proofs.lemmas.List.Sorted.{IsPermutation-refl, IsPermutation-trans, IsPermutation-append_left, IsPermutation-append_right}
use Rattle.std.proofs.lemmas.List.Sorted.{IsPermutation-append_comm}
use mathlib.Core.Logic.{dite}
use native.Mathlib.Decide.{ℕ_discrete}
use Rattle.osc_model.specs.Passing.{numbers_from}
use Rattle.osc_turn.specs.declared.view.Entry.{Entry as Seen}
use Rattle.osc_turn.specs.History.{own}

module _ (gives : Seen → List ℕ) where
  -- what the own entries of a number give
  abbrev pub given_by : List Seen → ℕ → List ℕ
  given_by history number = flat_map gives (own number history)

  -- what the own entries of these numbers give
  abbrev pub given_in : List Seen → ℕ → ℕ → List ℕ
  given_in history first count = flat_map (given_by history) (numbers_from first count)

  none_given : (first count : ℕ) → given_in [] first count ≡ []
  none_given first zero = refl
  none_given first (suc count) = none_given (first + 1) count

  mine : (one : Seen) (history : List Seen) → given_by (one ∷ history) one.number ≡ gives one ++ given_by history one.number
  mine one history =
      ap (λ t. flat_map gives (cond t (one ∷ own one.number history) (own one.number history))) (eq-eqb one.number one.number refl)

  not_mine : (one : Seen) (history : List Seen) (number : ℕ) → one.number ≢ number → given_by (one ∷ history) number ≡ given_by history number
  not_mine one history number other =
      ap (λ t. flat_map gives (cond t (one ∷ own number history) (own number history))) (ne_eqb one.number number other)

  -- an entry of a lower number
  below : (one : Seen) (history : List Seen) (first count : ℕ) → one.number < first → given_in (one ∷ history) first count ≡ given_in history first count
  below one history first zero lower = refl
  below one history first (suc count) lower =
      λ i. not_mine one history first (λ same. omega arith) i ++ below one history (first + 1) count (omega arith) i

  -- an entry of one of the numbers
  among : (one : Seen) (history : List Seen) (first count : ℕ) → first ≤ one.number → one.number < first + count
      → IsPermutation (gives one ++ given_in history first count) (given_in (one ∷ history) first count)
  among one history first zero from to = absurd (omega arith)
  among one history first (suc count) from to =
      dite (ℕ_discrete one.number first)
      (λ same.
      let later = given_in history (first + 1) count in
      let here : given_by (one ∷ history) first ≡ gives one ++ given_by history first =
      subst (λ (n : ℕ). given_by (one ∷ history) n ≡ gives one ++ given_by history n) same (mine one history) in
      let whole : (gives one ++ given_by history first) ++ later ≡ given_in (one ∷ history) first (suc count) =
      λ i. sym here i ++ sym (below one history (first + 1) count (omega arith)) i in
      subst (λ (l : List ℕ). IsPermutation (gives one ++ (given_by history first ++ later)) l)
      (sym (append_assoc (gives one) (given_by history first) later) ∙ whole) (IsPermutation-refl (gives one ++ (given_by history first ++ later))))
      (λ other.
      let a = gives one in
      let b = given_by history first in
      let later = given_in history (first + 1) count in
      let then = given_in (one ∷ history) (first + 1) count in
      let moved : IsPermutation (a ++ (b ++ later)) (b ++ (a ++ later)) =
      subst (λ (q : List ℕ × List ℕ). IsPermutation q.0 q.1) (λ i. (append_assoc a b later i, append_assoc b a later i))
      (IsPermutation-append_left later (a ++ b) (b ++ a) (IsPermutation-append_comm a b)) in
      let rest : IsPermutation (b ++ (a ++ later)) (b ++ then) =
      IsPermutation-append_right b (a ++ later) then (among one history (first + 1) count (omega arith) (omega arith)) in
      subst (λ (l : List ℕ). IsPermutation (a ++ (b ++ later)) (l ++ then)) (sym (not_mine one history first other))
      (IsPermutation-trans (a ++ (b ++ later)) (b ++ (a ++ later)) (b ++ then) moved rest))

  -- where each entry is of a number below the count, all that they give is what those of each number give
  pub parted : (count : ℕ) (history : List Seen) → AllByRecursion (λ one. one.number < count) history
      → IsPermutation (flat_map gives history) (given_in history 0 count)
  parted count [] all = subst (λ (l : List ℕ). IsPermutation [] l) (sym (none_given 0 count)) (IsPermutation-refl [])
  parted count (one ∷ history) all =
      IsPermutation-trans (gives one ++ flat_map gives history) (gives one ++ given_in history 0 count) (given_in (one ∷ history) 0 count)
      (IsPermutation-append_right (gives one) (flat_map gives history) (given_in history 0 count) (parted count history all.1))
      (among one history 0 count (omega arith) (omega (arith, all.0)))
