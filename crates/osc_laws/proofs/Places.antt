-- Places in a list, and elements that differ.
use Rattle.std.proofs.Common.{◌≡◌, ◌≢◌, ◌⊎◌, inl, inr, suc, List, [], ◌∷◌, ◌++◌, refl, sym, ap, subst, ◌∙◌, arith}
use Rattle.std.specs.List.{AllByRecursion, AllPairs, Contains}
use Rattle.osc_laws.proofs.Members.{head_or_behind, none_in}

-- a place in a list with one more element is its last, or one of the others
pub record IsLast {X : Type 0} (before all later : List X) (made last : X) : Type 0 where
  pub none : later ≡ []
  pub all_is : all ≡ before
  pub last_is : last ≡ made

pub record IsEarlier {X : Type 0} (before all later : List X) (made last : X) : Type 0 where
  pub rest : List X
  pub later_is : later ≡ rest ++ last ∷ []
  pub all_is : all ≡ before ++ made ∷ rest

never_empty : {X : Type 0} (made : X) (before later : List X) → [] ≡ before ++ made ∷ later → ⊥
never_empty made [] later is = absurd (cc)
never_empty made (x ∷ before) later is = absurd (cc)

first_same : {X : Type 0} (x y : X) (xs ys : List X) → x ∷ xs ≡ y ∷ ys → x ≡ y
first_same x y xs ys is = cc

others_same : {X : Type 0} (x y : X) (xs ys : List X) → x ∷ xs ≡ y ∷ ys → xs ≡ ys
others_same x y xs ys is = cc

pub last_or_earlier : {X : Type 0} (all : List X) (last : X) (before : List X) (made : X) (later : List X) → all ++ last ∷ [] ≡ before ++ made ∷ later
    → IsLast before all later made last ⊎ IsEarlier before all later made last
last_or_earlier [] last [] made later is =
    inl (record { none = sym (others_same last made [] later is); all_is = refl; last_is = first_same last made [] later is })
last_or_earlier [] last (y ∷ before) made later is = absurd (never_empty made before later (others_same last y [] (before ++ made ∷ later) is))
last_or_earlier (x ∷ all) last [] made later is =
    let more = others_same x made (all ++ last ∷ []) later is in
    inr (record { rest = all; later_is = sym more; all_is = ap (λ z. z ∷ all) (first_same x made (all ++ last ∷ []) later is) })
last_or_earlier {X} (x ∷ all) last (y ∷ before) made later is =
    go (last_or_earlier all last before made later (others_same x y (all ++ last ∷ []) (before ++ made ∷ later) is))
  where
    same : x ≡ y
    same = first_same x y (all ++ last ∷ []) (before ++ made ∷ later) is

    go : IsLast before all later made last ⊎ IsEarlier before all later made last
        → IsLast (y ∷ before) (x ∷ all) later made last ⊎ IsEarlier (y ∷ before) (x ∷ all) later made last
    go (inl now) = inl (record { none = now.none; all_is = λ i. same i ∷ now.all_is i; last_is = now.last_is })
    go (inr then) = inr (record { rest = then.rest; later_is = then.later_is; all_is = λ i. same i ∷ then.all_is i })

pub all_split : {X : Type 0} (P : X → Type 0) (xs ys : List X) → AllByRecursion P (xs ++ ys) → AllByRecursion P xs × AllByRecursion P ys
all_split P [] ys all = (tt, all)
all_split P (x ∷ xs) ys all = let parts = all_split P xs ys all.1 in ((all.0, parts.0), parts.1)

-- of elements whose keys differ, one key is that of one element
pub unique : {X K : Type 0} (key : X → K) (xs : List X) (x y : X) → AllPairs (λ a b. key a ≢ key b) xs → Contains xs x → Contains xs y → key x ≡ key y → x ≡ y
unique key [] x y pairs one other same = absurd (none_in x one)
unique {X} key (z ∷ zs) x y pairs one other same =
    go (head_or_behind z x zs one) (head_or_behind z y zs other)
    (λ a b. unique key zs x y (λ i j d less inside. pairs (suc i) (suc j) d (omega arith) (omega arith)) a b same)
  where
    apart : (w : X) → Contains zs w → key z ≢ key w
    apart w (k, within, is) = subst (λ (m : X). key z ≢ key m) is (pairs 0 (suc k) w (omega arith) (omega arith))

    go : (z ≡ x) ⊎ Contains zs x → (z ≡ y) ⊎ Contains zs y → (Contains zs x → Contains zs y → x ≡ y) → x ≡ y
    go (inl here) (inl there) rest = sym here ∙ there
    go (inl here) (inr there) rest = absurd (apart y there (ap key here ∙ same))
    go (inr here) (inl there) rest = absurd (apart x here (ap key there ∙ sym same))
    go (inr here) (inr there) rest = rest here there
