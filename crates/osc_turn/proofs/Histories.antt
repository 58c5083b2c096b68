-- On lists of entries, on numbers that are weighed, and on views added up.
use Rattle.std.proofs.Common.{◌≡◌, ◌≢◌, ℕ, zero, suc, ◌+◌, ◌<◌, ◌≤◌, eqb, cond, Bool, true, false, List, [], ◌∷◌, ◌++◌, length, set, sym, refl, ap, ◌∙◌, subst}
use Rattle.std.proofs.Common.{⊎_elim, arith, append_assoc, append-nil, add-one, length-append, eq-eqb, ne_eqb}
use mathlib.Core.Option.{some, some-injective, some-ne-none}
use mathlib.Core.Logic.{dite}
use native.Mathlib.Decide.{ℕ_discrete}
use lib.ListN.{get_elem?}
use Rattle.atomic_table.proofs.Lists.{at_set}
use Rattle.osc_turn.specs.declared.view.Entry.{Entry}
use Rattle.osc_turn.specs.declared.view.View.{View}
use Rattle.osc_turn.specs.History.{StartsWith, text_of, texts, own}
use Rattle.osc_turn.specs.Numbers.{weigh, weigh_below, only, times, total}

pub starts_here : {A : Type 0} (xs : List A) → StartsWith xs xs
starts_here xs = ([], sym (append-nil xs))

pub starts_on : {A : Type 0} (xs ys zs : List A) → StartsWith xs ys → StartsWith ys zs → StartsWith xs zs
starts_on xs ys zs a b = (b.0 ++ a.0, a.1 ∙ (ap (λ l. l ++ a.0) b.1 ∙ append_assoc zs b.0 a.0))

pub starts_texts : (xs ys : List Entry) → StartsWith xs ys → StartsWith (texts xs) (texts ys)
starts_texts xs ys a = (texts a.0, ap texts a.1 ∙ go ys a.0)
  where
    go : (bs cs : List Entry) → texts (bs ++ cs) ≡ texts bs ++ texts cs
    go [] cs = refl
    go (b ∷ bs) cs = ap (λ l. text_of b ∷ l) (go bs cs)

pub texts_append : (bs cs : List Entry) → texts (bs ++ cs) ≡ texts bs ++ texts cs
texts_append [] cs = refl
texts_append (b ∷ bs) cs = ap (λ l. text_of b ∷ l) (texts_append bs cs)

joined : (c : Bool) (e : Entry) (x y z : List Entry) → x ≡ y ++ z → cond c (e ∷ x) x ≡ cond c (e ∷ y) y ++ z
joined true e x y z p = ap (λ l. e ∷ l) p
joined false e x y z p = p

pub own_append : (n : ℕ) (a b : List Entry) → own n (a ++ b) ≡ own n a ++ own n b
own_append n [] b = refl
own_append n (e ∷ a) b = joined (eqb e.number n) e (own n (a ++ b)) (own n a) (own n b) (own_append n a b)

pub own_of_other : (n : ℕ) (e : Entry) → e.number ≢ n → own n (e ∷ []) ≡ []
own_of_other n e other = ap (λ c. cond c (e ∷ []) []) (ne_eqb e.number n other)

pub own_of_mine : (n : ℕ) (e : Entry) → e.number ≡ n → own n (e ∷ []) ≡ e ∷ []
own_of_mine n e same = ap (λ c. cond c (e ∷ []) []) (eq-eqb e.number n same)

pub weigh_append : (h : ℕ → ℕ) (a b : List ℕ) → weigh h (a ++ b) ≡ weigh h a + weigh h b
weigh_append h [] b = omega arith
weigh_append h (x ∷ a) b = omega (arith, weigh_append h a b)

pub total_set : (f : View → ℕ) (views : List View) (i : ℕ) (v w : View) → get_elem? views i ≡ some v → total f (set views i w) + f v ≡ total f views + f w
total_set f [] i v w e = absurd (some-ne-none v (sym e))
total_set f (x ∷ xs) zero v w e = let p = ap f (some-injective x v e) in omega arith
total_set f (x ∷ xs) (suc i) v w e = omega (arith, total_set f xs i v w e)

pub total_at : (f : View → ℕ) (views : List View) (i : ℕ) (v : View) → get_elem? views i ≡ some v → f v ≤ total f views
total_at f [] i v e = absurd (some-ne-none v (sym e))
total_at f (x ∷ xs) zero v e = let p = ap f (some-injective x v e) in omega arith
total_at f (x ∷ xs) (suc i) v e = omega (arith, total_at f xs i v e)

pub total_two : (f : View → ℕ) (views : List View) (i j : ℕ) (v w : View) → i ≢ j → get_elem? views i ≡ some v → get_elem? views j ≡ some w
    → f v + f w ≤ total f views
total_two f [] i j v w other a b = absurd (some-ne-none v (sym a))
total_two f (x ∷ xs) zero zero v w other a b = absurd (other refl)
total_two f (x ∷ xs) zero (suc j) v w other a b = let p = ap f (some-injective x v a) in omega (arith, total_at f xs j w b)
total_two f (x ∷ xs) (suc i) zero v w other a b = let p = ap f (some-injective x w b) in omega (arith, total_at f xs i v a)
total_two f (x ∷ xs) (suc i) (suc j) v w other a b = omega (arith, total_two f xs i j v w (λ e. other (ap suc e)) a b)

pub only_other : (n x : ℕ) → x ≢ n → only n x ≡ 0
only_other n x other = ap (λ c. cond c 1 0) (ne_eqb x n other)

pub only_same : (n x : ℕ) → x ≡ n → only n x ≡ 1
only_same n x same = ap (λ c. cond c 1 0) (eq-eqb x n same)

pub none_below : (n m : ℕ) → m ≤ n → weigh_below (only n) m ≡ 0
none_below n zero h = refl
none_below n (suc m) h = omega (arith, none_below n m (omega arith), only_other n m (λ e. omega arith))

pub one_below : (n m : ℕ) → weigh_below (only n) m ≤ 1
one_below n zero = omega arith
one_below n (suc m) =
    dite (ℕ_discrete m n) (λ e. omega (arith, none_below n m (omega arith), only_same n m e)) (λ other. omega (arith, one_below n m, only_other n m other))

pub times_one : (n : ℕ) (xs : List ℕ) → xs ≡ n ∷ [] → times n xs ≡ 1
times_one n xs e = ap (times n) e ∙ omega (arith, only_same n n refl)

-- each view but one stays
pub views_stay : (P : ℕ → View → Type 0) (views : List View) (i : ℕ) (w : View) → P i w → ((j : ℕ) (u : View) → j ≢ i → get_elem? views j ≡ some u → P j u)
    → (j : ℕ) (u : View) → get_elem? (set views i w) j ≡ some u → P j u
views_stay P views i w mine others j u e = ⊎_elim (λ (t : (j ≡ i) × (w ≡ u)). subst (λ (x : ℕ × View). P x.0 x.1) (λ k. (sym t.0 k, t.1 k)) mine)
    (λ (t : (j ≢ i) × (get_elem? views j ≡ some u)). others j u t.0 t.1) (at_set views i j w u e)

pub total_snoc : (f : View → ℕ) (views : List View) (w : View) → total f (views ++ w ∷ []) ≡ total f views + f w
total_snoc f [] w = omega arith
total_snoc f (x ∷ xs) w = omega (arith, total_snoc f xs w)

pub times_some : (n : ℕ) (xs : List ℕ) → 0 < times n xs → 0 < length xs
times_some n [] p = absurd (omega arith)
times_some n (x ∷ xs) p = omega arith

pub times_none : (n : ℕ) (xs : List ℕ) → xs ≡ [] → times n xs ≡ 0
times_none n xs e = ap (times n) e

pub no_append : (a b : List Entry) → a ++ b ≡ [] → (a ≡ []) × (b ≡ [])
no_append [] b e = (refl, e)
no_append (x ∷ a) b e = absurd (cc)

-- what begins a list with no entry of a number has none
pub none_begun : (n : ℕ) (log seen : List Entry) → StartsWith log seen → own n log ≡ [] → own n seen ≡ []
none_begun n log seen a none = (no_append (own n seen) (own n a.0) (sym (own_append n seen a.0) ∙ (ap (own n) (sym a.1) ∙ none))).0

pub below_more : (h : ℕ → ℕ) (n : ℕ) → weigh_below h (n + 1) ≡ weigh_below h n + h n
below_more h n = rw add-one

pub starts_own : (n : ℕ) (xs ys : List Entry) → StartsWith xs ys → StartsWith (own n xs) (own n ys)
starts_own n xs ys a = (own n a.0, ap (own n) a.1 ∙ own_append n ys a.0)

-- of two beginnings of one list the shorter begins the longer
pub starts_order : {A : Type 0} (log a b : List A) → StartsWith log a → StartsWith log b → length a ≤ length b → StartsWith b a
starts_order log [] b p q h = (b, refl)
starts_order log (x ∷ a) [] p q h = absurd (omega arith)
starts_order [] (x ∷ a) (y ∷ b) p q h = absurd (cc (p.1))
starts_order (z ∷ log) (x ∷ a) (y ∷ b) p q h = let here_p : z ≡ x = cc (p.1) in let here_q : z ≡ y = cc (q.1) in let more_p : log ≡ a ++ p.0 = cc (p.1) in
    let more_q : log ≡ b ++ q.0 = cc (q.1) in
    let r = starts_order log a b (p.0, more_p) (q.0, more_q) (omega arith) in (r.0, ap (λ l. y ∷ l) r.1 ∙ ap (λ w. w ∷ (a ++ r.0)) (sym here_q ∙ here_p))

pub none_long : {A : Type 0} (xs : List A) → length xs ≡ 0 → xs ≡ []
none_long [] e = refl
none_long (x ∷ xs) e = absurd (omega arith)

-- a list between two that have the same entries of a number has them too
pub same_between : (n : ℕ) (log long short : List Entry) → StartsWith log long → StartsWith long short → own n short ≡ own n log → own n long ≡ own n log
same_between n log long short a b e = let x = starts_own n log long a in let y = starts_own n long short b in
    let none : x.0 ≡ [] =
    none_long x.0 (omega (arith, ap length x.1, length-append (own n long) x.0, ap length y.1, length-append (own n short) y.0, ap length e)) in
    sym (x.1 ∙ (ap (λ l. own n long ++ l) none ∙ append-nil (own n long)))

pub same_both : {A : Type 0} (a b : List A) → StartsWith a b → StartsWith b a → a ≡ b
same_both a b p q = let none : p.0 ≡ [] = none_long p.0 (omega (arith, ap length p.1, length-append b p.0, ap length q.1, length-append a q.0)) in
    p.1 ∙ (ap (λ l. b ++ l) none ∙ append-nil b)

pub weigh_ones : (xs : List ℕ) → weigh (λ _. 1) xs ≡ length xs
weigh_ones [] = refl
weigh_ones (x ∷ xs) = omega (arith, weigh_ones xs)

pub ones_below : (n : ℕ) → weigh_below (λ _. 1) n ≡ n
ones_below zero = refl
ones_below (suc n) = omega (arith, ones_below n)

pub some_below : (n m : ℕ) → n < m → weigh_below (only n) m ≡ 1
some_below n zero h = absurd (omega arith)
some_below n (suc m) h =
    dite (ℕ_discrete m n) (λ e. omega (arith, none_below n m (omega arith), only_same n m e))
    (λ other. omega (arith, some_below n m (omega arith), only_other n m other))

total_nothing : (f : View → ℕ) (views : List View) → ((j : ℕ) (u : View) → get_elem? views j ≡ some u → f u ≡ 0) → total f views ≡ 0
total_nothing f [] none = refl
total_nothing f (x ∷ xs) none = omega (arith, none 0 x refl, total_nothing f xs (λ j u a. none (suc j) u a))

-- where all other views weigh nothing, one view has the total
pub total_alone : (f : View → ℕ) (views : List View) (i : ℕ) (v : View) → get_elem? views i ≡ some v
    → ((j : ℕ) (u : View) → j ≢ i → get_elem? views j ≡ some u → f u ≡ 0) → total f views ≡ f v
total_alone f [] i v e none = absurd (some-ne-none v (sym e))
total_alone f (x ∷ xs) zero v e none = let p = ap f (some-injective x v e) in omega (arith, total_nothing f xs (λ j u a. none (suc j) u (λ z. omega arith) a))
total_alone f (x ∷ xs) (suc i) v e none =
    omega (arith, none 0 x (λ z. omega arith) refl, total_alone f xs i v e (λ j u other a. none (suc j) u (λ z. other (omega arith)) a))
