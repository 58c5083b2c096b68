-- How many names two texts have in common, by their first bytes.
use Rattle.std.proofs.Common.{◌≡◌, ℕ, ◌+◌, ◌<◌, min, Bool, true, false, cond, ◌&&◌, nat_eq, List, [], ◌∷◌, length, drop, get_or}
use Rattle.std.proofs.Common.{refl, sym, ap, ◌∙◌, arith}
use Rattle.std.specs.List.{slice_split, onto_first}
use Rattle.std.specs.Str.{bytes_eq}
use Rattle.std.proofs.lemmas.Bool.Decides.{nat_tests}
use Rattle.std.proofs.lemmas.List.{at_drop_more, get_or-drop, length-drop}
use Rattle.osc_pattern.specs.Items.{is_slash}
use Rattle.osc_pattern.proofs.Parts.{split-cons}
use Rattle.osc_tree.specs.Walking.{shared}

-- the same byte first
onto_same : (x : ℕ) (p q : List ℕ) (ps qs : List (List ℕ)) → shared ((x ∷ p) ∷ ps) ((x ∷ q) ∷ qs) ≡ shared (p ∷ ps) (q ∷ qs)
onto_same x p q ps qs =
    let e : nat_eq x x ≡ true = grind (arith, nat_tests) in
    ap (λ t. cond (t && bytes_eq p q) (shared ps qs + 1) 0) e

same_byte : (x : ℕ) (a b : List ℕ)
    → shared (slice_split is_slash (x ∷ a)) (slice_split is_slash (x ∷ b)) ≡ cond (is_slash x) 1 0 + shared (slice_split is_slash a) (slice_split is_slash b)
same_byte x a b = go (is_slash x) (split-cons a) (split-cons b) where
  go : (t : Bool) → (p : List ℕ) × (ps : List (List ℕ)) × (slice_split is_slash a ≡ p ∷ ps)
      → (q : List ℕ) × (qs : List (List ℕ)) × (slice_split is_slash b ≡ q ∷ qs)
      → shared (cond t ([] ∷ slice_split is_slash a) (onto_first x (slice_split is_slash a)))
      (cond t ([] ∷ slice_split is_slash b) (onto_first x (slice_split is_slash b)))
      ≡ cond t 1 0 + shared (slice_split is_slash a) (slice_split is_slash b)
  go true first other = omega arith
  go false (p, ps, e) (q, qs, f) = let more = onto_same x p q ps qs in rw (e, f) (omega (arith, more))

-- two bytes that differ first
onto_other : (x y : ℕ) (p q : List ℕ) (ps qs : List (List ℕ)) → (x ≡ y → ⊥) → shared ((x ∷ p) ∷ ps) ((y ∷ q) ∷ qs) ≡ 0
onto_other x y p q ps qs differ =
    let e : nat_eq x y ≡ false = grind (arith, nat_tests) in
    ap (λ t. cond (t && bytes_eq p q) (shared ps qs + 1) 0) e

other_byte : (x y : ℕ) (a b : List ℕ) → (x ≡ y → ⊥) → shared (slice_split is_slash (x ∷ a)) (slice_split is_slash (y ∷ b)) ≡ 0
other_byte x y a b differ = go (is_slash x) (is_slash y) refl refl (split-cons a) (split-cons b) where
  go : (s t : Bool) → is_slash x ≡ s → is_slash y ≡ t
      → (p : List ℕ) × (ps : List (List ℕ)) × (slice_split is_slash a ≡ p ∷ ps)
      → (q : List ℕ) × (qs : List (List ℕ)) × (slice_split is_slash b ≡ q ∷ qs)
      → shared (cond s ([] ∷ slice_split is_slash a) (onto_first x (slice_split is_slash a)))
      (cond t ([] ∷ slice_split is_slash b) (onto_first y (slice_split is_slash b)))
      ≡ 0
  go true true i j first other = absurd (differ (grind (arith, nat_tests)))
  go true false i j first (q, qs, f) = rw f refl
  go false true i j (p, ps, e) other = rw e refl
  go false false i j (p, ps, e) (q, qs, f) = rw (e, f) (onto_other x y p q ps qs differ)

-- one of them has ended
none_shared : (names : List (List ℕ)) → shared names [] ≡ 0
none_shared [] = refl
none_shared (name ∷ names) = refl

ended_left : (y : ℕ) (b : List ℕ) → shared ([] ∷ []) (slice_split is_slash (y ∷ b)) ≡ cond (is_slash y) 1 0
ended_left y b = go (is_slash y) (split-cons b) where
  go : (t : Bool) → (q : List ℕ) × (qs : List (List ℕ)) × (slice_split is_slash b ≡ q ∷ qs)
      → shared ([] ∷ []) (cond t ([] ∷ slice_split is_slash b) (onto_first y (slice_split is_slash b))) ≡ cond t 1 0
  go true found = refl
  go false (q, qs, f) = rw f refl

ended_right : (x : ℕ) (a : List ℕ) → shared (slice_split is_slash (x ∷ a)) ([] ∷ []) ≡ cond (is_slash x && true) 1 0
ended_right x a = go (is_slash x) (split-cons a) where
  go : (t : Bool) → (p : List ℕ) × (ps : List (List ℕ)) × (slice_split is_slash a ≡ p ∷ ps)
      → shared (cond t ([] ∷ slice_split is_slash a) (onto_first x (slice_split is_slash a))) ([] ∷ []) ≡ cond (t && true) 1 0
  go true found = omega (arith, none_shared (slice_split is_slash a))
  go false (p, ps, e) = rw e refl

-- the same at a place of both texts
cut : (a b : List ℕ) (i : ℕ) → i < length a → i < length b
    → shared (slice_split is_slash (drop i a)) (slice_split is_slash (drop i b))
    ≡ shared (slice_split is_slash (get_or a i 0 ∷ drop (i + 1) a)) (slice_split is_slash (get_or b i 0 ∷ drop (i + 1) b))
cut a b i la lb =
    at_drop_more (λ l. shared (slice_split is_slash l) (slice_split is_slash (drop i b))) a i 0 la
    ∙ at_drop_more (λ l. shared (slice_split is_slash (get_or a i 0 ∷ drop (i + 1) a)) (slice_split is_slash l)) b i 0 lb

same_here : (a b : List ℕ) (i : ℕ) → i < length a → i < length b → get_or a i 0 ≡ get_or b i 0
    → shared (slice_split is_slash (drop i a)) (slice_split is_slash (drop i b))
    ≡ cond (is_slash (get_or a i 0)) 1 0 + shared (slice_split is_slash (drop (i + 1) a)) (slice_split is_slash (drop (i + 1) b))
same_here a b i la lb same =
    cut a b i la lb
    ∙ ap (λ (y : ℕ). shared (slice_split is_slash (get_or a i 0 ∷ drop (i + 1) a)) (slice_split is_slash (y ∷ drop (i + 1) b))) (sym same)
    ∙ same_byte (get_or a i 0) (drop (i + 1) a) (drop (i + 1) b)

pub slash_here : (a b : List ℕ) (i : ℕ) → i < length a → i < length b → get_or a i 0 ≡ get_or b i 0 → get_or a i 0 ≡ 47
    → shared (slice_split is_slash (drop i a)) (slice_split is_slash (drop i b))
    ≡ 1 + shared (slice_split is_slash (drop (i + 1) a)) (slice_split is_slash (drop (i + 1) b))
slash_here a b i la lb same is =
    let slash : is_slash (get_or a i 0) ≡ true = grind (arith, nat_tests) in
    let one = ap {B = ℕ} (λ t. cond t 1 0) slash in
    omega (arith, same_here a b i la lb same, one)

pub letter_here : (a b : List ℕ) (i : ℕ) → i < length a → i < length b → get_or a i 0 ≡ get_or b i 0 → (get_or a i 0 ≡ 47 → ⊥)
    → shared (slice_split is_slash (drop i a)) (slice_split is_slash (drop i b))
    ≡ shared (slice_split is_slash (drop (i + 1) a)) (slice_split is_slash (drop (i + 1) b))
letter_here a b i la lb same other =
    let letter : is_slash (get_or a i 0) ≡ false = grind (arith, nat_tests) in
    let none = ap {B = ℕ} (λ t. cond t 1 0) letter in
    omega (arith, same_here a b i la lb same, none)

pub other_here : (a b : List ℕ) (i : ℕ) → i < length a → i < length b → (get_or a i 0 ≡ get_or b i 0 → ⊥)
    → shared (slice_split is_slash (drop i a)) (slice_split is_slash (drop i b)) ≡ 0
other_here a b i la lb differ = cut a b i la lb ∙ other_byte (get_or a i 0) (get_or b i 0) (drop (i + 1) a) (drop (i + 1) b) differ

-- where the shorter ends, one more is shared if a name ends there in both
end_here : (a : List ℕ) (i n : ℕ) → i ≡ n → is_slash (get_or (drop i a) 0 47) ≡ is_slash (get_or a n 47)
end_here a i n e = ap is_slash (get_or-drop i a 0 47 ∙ ap (λ (k : ℕ). get_or a k 47) (omega arith))

pub ended_here : (a b : List ℕ) (i n : ℕ) (s t : Bool) → i ≡ n → n ≡ min (length a) (length b)
    → s ≡ is_slash (get_or a n 47) → t ≡ is_slash (get_or b n 47)
    → shared (slice_split is_slash (drop i a)) (slice_split is_slash (drop i b)) ≡ cond (s && t) 1 0
ended_here a b i n s t at is p q = go (drop i a) (drop i b) refl refl ∙ ap (λ t. cond t 1 0) both where
  both : (is_slash (get_or (drop i a) 0 47) && is_slash (get_or (drop i b) 0 47)) ≡ (s && t)
  both = ap (λ u. u && is_slash (get_or (drop i b) 0 47)) (end_here a i n at ∙ sym p) ∙ ap (λ u. s && u) (end_here b i n at ∙ sym q)

  go : (xs ys : List ℕ) → drop i a ≡ xs → drop i b ≡ ys
      → shared (slice_split is_slash xs) (slice_split is_slash ys) ≡ cond (is_slash (get_or xs 0 47) && is_slash (get_or ys 0 47)) 1 0
  go [] [] e f = refl
  go [] (y ∷ ys) e f = ended_left y ys
  go (x ∷ xs) [] e f = ended_right x xs
  go (x ∷ xs) (y ∷ ys) e f = absurd (omega (arith, at, is, ap length e, ap length f, length-drop i a, length-drop i b))
