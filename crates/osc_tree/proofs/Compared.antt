-- Whether a text is before another by the first place where they differ.
use Rattle.std.proofs.Common.{◌≡◌, ℕ, ◌+◌, ◌-◌, ◌<◌, ◌≤◌, Bool, true, false, cond, nat_eq, nat_lt, List, [], ◌∷◌, ◌++◌, length, take, drop, get_or}
use Rattle.std.proofs.Common.{refl, sym, ap, ◌∙◌, arith}
use Rattle.std.proofs.lemmas.Bool.Decides.{nat_tests}
use Rattle.std.proofs.lemmas.List.{at_drop_more, drop_all, length-drop, take_rest}
use Rattle.osc_tree.proofs.Ranges.{lower, lower_more}

cut : (a text tail : List ℕ) (i : ℕ) → i < length a → i < length text
    → lower (drop i a) (drop i text ++ tail)
    ≡ cond (nat_lt (get_or a i 0) (get_or text i 0)) true
    (cond (nat_eq (get_or a i 0) (get_or text i 0)) (lower (drop (i + 1) a) (drop (i + 1) text ++ tail)) false)
cut a text tail i la lt =
    at_drop_more (λ l. lower l (drop i text ++ tail)) a i 0 la
    ∙ at_drop_more (λ l. lower (get_or a i 0 ∷ drop (i + 1) a) (l ++ tail)) text i 0 lt
    ∙ lower_more (get_or a i 0) (get_or text i 0) (drop (i + 1) a) (drop (i + 1) text ++ tail)

pub alike_here : (a text tail : List ℕ) (i : ℕ) → i < length a → i < length text → get_or a i 0 ≡ get_or text i 0
    → lower (drop i a) (drop i text ++ tail) ≡ lower (drop (i + 1) a) (drop (i + 1) text ++ tail)
alike_here a text tail i la lt same =
    let first : nat_lt (get_or a i 0) (get_or text i 0) ≡ false = grind (arith, nat_tests) in
    let second : nat_eq (get_or a i 0) (get_or text i 0) ≡ true = grind (arith, nat_tests) in
    let rest = lower (drop (i + 1) a) (drop (i + 1) text ++ tail) in
    cut a text tail i la lt ∙ ap (λ (t : Bool). cond t true (cond (nat_eq (get_or a i 0) (get_or text i 0)) rest false)) first
    ∙ ap (λ (t : Bool). cond t rest false) second

pub unlike_here : (a text tail : List ℕ) (i : ℕ) → i < length a → i < length text → (get_or a i 0 ≡ get_or text i 0 → ⊥)
    → nat_lt (get_or a i 0) (get_or text i 0) ≡ lower (drop i a) (drop i text ++ tail)
unlike_here a text tail i la lt differ =
    let second : nat_eq (get_or a i 0) (get_or text i 0) ≡ false = grind (arith, nat_tests) in
    let rest = lower (drop (i + 1) a) (drop (i + 1) text ++ tail) in
    last (nat_lt (get_or a i 0) (get_or text i 0))
    ∙ sym (cut a text tail i la lt
    ∙ ap (λ (t : Bool). cond (nat_lt (get_or a i 0) (get_or text i 0)) true (cond t rest false)) second)
  where
    last : (t : Bool) → t ≡ cond t true false
    last true = refl
    last false = refl

-- where the first ends within the other it is before it
pub ended_here : (a text tail : List ℕ) (i : ℕ) → length a ≤ i → i < length text → lower (drop i a) (drop i text ++ tail) ≡ true
ended_here a text tail i la lt = go (drop i a) (drop i text) refl refl where
  go : (xs ys : List ℕ) → drop i a ≡ xs → drop i text ≡ ys → lower xs (ys ++ tail) ≡ true
  go [] (y ∷ ys) e f = refl
  go xs [] e f = absurd (omega (arith, ap length f, length-drop i text))
  go (x ∷ xs) (y ∷ ys) e f = absurd (omega (arith, ap length e, length-drop i a))

-- else the rest is compared with the tail, and nothing is before a tail without bytes
pub lower_none : (xs : List ℕ) → lower xs [] ≡ false
lower_none [] = refl
lower_none (x ∷ xs) = refl

pub rest_here : (a text tail : List ℕ) (i : ℕ) → length text ≤ i → lower (drop i a) (drop i text ++ tail) ≡ lower (take (length a - i) (drop i a)) tail
rest_here a text tail i past =
    ap (λ l. lower (drop i a) (l ++ tail)) (drop_all i text past) ∙ ap (λ l. lower l tail) (sym (take_rest a i))

pub none_here : (a text tail : List ℕ) (i : ℕ) → length text ≤ i → length tail ≡ 0 → lower (drop i a) (drop i text ++ tail) ≡ false
none_here a text [] i past none = rest_here a text [] i past ∙ lower_none (take (length a - i) (drop i a))
none_here a text (x ∷ tail) i past none = absurd (omega arith)

pub either : (n m : ℕ) (b : Bool) → (n < m → b ≡ true) → (m ≤ n → b ≡ false) → nat_lt n m ≡ b
either n m b less none = go (nat_lt n m) refl where
  go : (t : Bool) → nat_lt n m ≡ t → nat_lt n m ≡ b
  go true e = e ∙ sym (less (let h : nat_lt n m ≡ true = e in grind (arith, nat_tests)))
  go false e = e ∙ sym (none (let h : nat_lt n m ≡ false = e in grind (arith, nat_tests)))
