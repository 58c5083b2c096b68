use Rattle.std.proofs.Common.{◌≡◌, ℕ, zero, suc, ◌+◌, ◌<◌, List, [], ◌∷◌, map, length, get_or, Some, None, string_bytes, refl, ◌∙◌, arith}
use Rattle.osc_words.specs.Names.{last_two}
use Rattle.osc_words.proofs.names.last_two.Goals as goal

-- the last two of some words
two_at : {X : Type 0} (f : X → List ℕ) (xs : List X) (k j : ℕ) (x y : X) → x ≡ get_or xs k x → y ≡ get_or xs j y → k + 2 ≡ length xs
    → j + 1 ≡ length xs → Some (f x, f y) ≡ last_two (map f xs)
two_at f [] k j x y first second two one = absurd (omega arith)
two_at f (a ∷ []) k j x y first second two one = absurd (omega arith)
two_at f (a ∷ b ∷ []) zero zero x y first second two one = absurd (omega arith)
two_at f (a ∷ b ∷ []) zero (suc zero) x y first second two one = λ i. Some (f (first i), f (second i))
two_at f (a ∷ b ∷ []) zero (suc (suc j)) x y first second two one = absurd (omega arith)
two_at f (a ∷ b ∷ []) (suc k) j x y first second two one = absurd (omega arith)
two_at f (a ∷ b ∷ c ∷ xs) zero j x y first second two one = absurd (omega arith)
two_at f (a ∷ b ∷ c ∷ xs) (suc k) zero x y first second two one = absurd (omega arith)
two_at f (a ∷ b ∷ c ∷ xs) (suc k) (suc j) x y first second two one = two_at f (b ∷ c ∷ xs) k j x y first second (omega arith) (omega arith)

none_of : {X : Type 0} (f : X → List ℕ) (xs : List X) → length xs < 2 → None ≡ last_two (map f xs)
none_of f [] few = refl
none_of f (a ∷ []) few = refl
none_of f (a ∷ b ∷ xs) few = absurd (omega arith)

pub returns-in_default : goal.returns-in_default
returns-in_default c = none_of string_bytes c.args.words.now c.in_default.len_below

pub returns-in-len2-up : goal.returns-in-len2-up
returns-in-len2-up c =
    (λ i. Some (c.as_str.ensures.value i, c.as_str-in-len2-up.ensures.value i))
    ∙ two_at string_bytes c.args.words.now _ _ c.first-item.result c.second-item.result c.first-item.is c.second-item.is (omega (arith, c.in-len2-up.len_at_least))
    (omega (arith, c.in-len2-up.len_at_least))
