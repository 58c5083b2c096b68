-- Lists of boxes by their ids: how often an id stands there, and lists whose ids rise.
use Rattle.std.proofs.Common.{◌≡◌, ◌⊎◌, inl, inr, ℕ, zero, suc, ◌<◌, ◌≤◌, ◌==◌, Bool, true, false, not, cond, List, [], ◌∷◌, ◌++◌, map, length, get_or, filter}
use Rattle.std.proofs.Common.{refl, sym, ap, subst, ◌∙◌, arith}
use Rattle.std.specs.List.{AllByRecursion, Contains, sum_by}
use Rattle.std.specs.List.Sorted.{IsPermutation, IsNonDecreasingBy}
use Rattle.std.proofs.lemmas.Bool.Decides.{nat_tests}
use Rattle.std.proofs.lemmas.Bool.{eqb-true}
use Rattle.std.proofs.lemmas.List.Sums.{sum_by-cons}
use Rattle.std.proofs.lemmas.List.Elements.{All-contains, All-from_recursion}
use Rattle.std.proofs.lemmas.List.Sorted.{IsPermutation-filter_both, IsPermutation-append_left, IsPermutation-trans, IsPermutation-sym, IsPermutation-to_front}
use Rattle.std.proofs.lemmas.List.Sorted.{IsNonDecreasingBy-drop}
use Rattle.osc_model.specs.Heard.{Told}
use Rattle.osc_model.specs.Heard.{without_id}
use Rattle.osc_model.proofs.Calls.{all_append}
use Rattle.osc_laws.proofs.Members.{head_or_behind}
use Rattle.osc_player.specs.Tally.{IsRising}

pub all_weaker : {X : Type 0} (P Q : X → Type 0) (xs : List X) → ((x : X) → P x → Q x) → AllByRecursion P xs → AllByRecursion Q xs
all_weaker P Q [] weaker all = tt
all_weaker P Q (x ∷ xs) weaker all = (weaker x all.0, all_weaker P Q xs weaker all.1)

abbrev pub one_if : Bool → ℕ
one_if t = cond t 1 0

-- how often an id stands in a list
abbrev pub times : ℕ → Told → ℕ
times id box = one_if (box.id == id)

abbrev pub count : ℕ → List Told → ℕ
count id boxes = sum_by (times id) boxes

equal_once : (a b : ℕ) → a ≡ b → one_if (a == b) ≡ 1
equal_once a b same = grind (arith, nat_tests)

other_none : (a b : ℕ) → b < a → one_if (a == b) ≡ 0
other_none a b differs = grind (arith, nat_tests)

pub none_counted : (id : ℕ) (boxes : List Told) → AllByRecursion (λ box. id < box.id) boxes → count id boxes ≡ 0
none_counted id [] above = refl
none_counted id (box ∷ boxes) above = omega (arith, sum_by-cons (times id) box boxes, other_none box.id id above.0, none_counted id boxes above.1)

pub once : (id : ℕ) (boxes : List Told) → IsRising boxes → count id boxes ≤ 1
once id [] rising = omega arith
once id (box ∷ boxes) rising = go (box.id == id) refl (once id boxes rising.1) where
  go : (t : Bool) → (box.id == id) ≡ t → count id boxes ≤ 1 → count id (box ∷ boxes) ≤ 1
  go true is more =
      let same : box.id ≡ id = eqb-true box.id id is in
      let none : count id boxes ≡ 0 = none_counted id boxes (subst (λ (n : ℕ). AllByRecursion (λ other. n < other.id) boxes) same rising.0) in
      omega (arith, sum_by-cons (times id) box boxes, ap one_if is, none)
  go false is more = omega (arith, sum_by-cons (times id) box boxes, ap one_if is, more)

-- an id that stands in a list is counted, and is below what each id of the list is below
pub id_counted : (boxes : List Told) (id : ℕ) → Contains (map (λ box. box.id) boxes) id → 1 ≤ count id boxes
id_counted [] id (k, within, is) = absurd (omega arith)
id_counted (box ∷ boxes) id there = go (head_or_behind box.id id (map (λ (other : Told). other.id) boxes) there) (id_counted boxes id) where
  go : (box.id ≡ id) ⊎ Contains (map (λ other. other.id) boxes) id → (Contains (map (λ other. other.id) boxes) id → 1 ≤ count id boxes)
      → 1 ≤ count id (box ∷ boxes)
  go (inl same) more = omega (arith, sum_by-cons (times id) box boxes, equal_once box.id id same)
  go (inr behind) more = omega (arith, sum_by-cons (times id) box boxes, more behind)

pub id_below : (boxes : List Told) (id next : ℕ) → Contains (map (λ box. box.id) boxes) id → AllByRecursion (λ box. box.id < next) boxes → id < next
id_below [] id next (k, within, is) below = absurd (omega arith)
id_below (box ∷ boxes) id next there below = go (head_or_behind box.id id (map (λ (other : Told). other.id) boxes) there) (id_below boxes id next) where
  go : (box.id ≡ id) ⊎ Contains (map (λ other. other.id) boxes) id
      → (Contains (map (λ other. other.id) boxes) id → AllByRecursion (λ other. other.id < next) boxes → id < next) → id < next
  go (inl same) more = omega (arith, same, below.0)
  go (inr behind) more = more behind below.1

pub id_contained : {X : Type 0} (n : X → ℕ) (xs : List X) (x : X) → Contains xs x → Contains (map n xs) (n x)
id_contained n [] x (k, within, is) = absurd (omega arith)
id_contained n (first ∷ xs) x (zero, within, is) = (0, omega arith, ap n is)
id_contained n (first ∷ xs) x (suc k, within, is) =
    let more = id_contained n xs x (k, omega arith, is) in
    (suc more.0, omega (arith, more.1), more.2)

-- the one box with an id
none_kept : (id : ℕ) (boxes : List Told) → count id boxes ≡ 0 → filter (λ box. box.id == id) boxes ≡ []
none_kept id [] none = refl
none_kept id (box ∷ boxes) none = go (box.id == id) refl (none_kept id boxes) where
  go : (t : Bool) → (box.id == id) ≡ t → (count id boxes ≡ 0 → filter (λ other. other.id == id) boxes ≡ [])
      → cond t (box ∷ filter (λ other. other.id == id) boxes) (filter (λ other. other.id == id) boxes) ≡ []
  go true is more = absurd (omega (arith, sum_by-cons (times id) box boxes, ap one_if is))
  go false is more = more (omega (arith, sum_by-cons (times id) box boxes))

one_kept : (boxes : List Told) (box : Told) → Contains boxes box → count box.id boxes ≤ 1 → filter (λ other. other.id == box.id) boxes ≡ box ∷ []
one_kept [] box (k, within, is) few = absurd (omega arith)
one_kept (first ∷ boxes) box there few = go (first.id == box.id) refl (head_or_behind first box boxes there) (one_kept boxes box) where
  kept : List Told
  kept = filter (λ other. other.id == box.id) boxes

  go : (t : Bool) → (first.id == box.id) ≡ t → (first ≡ box) ⊎ Contains boxes box
      → (Contains boxes box → count box.id boxes ≤ 1 → filter (λ other. other.id == box.id) boxes ≡ box ∷ [])
      → cond t (first ∷ filter (λ other. other.id == box.id) boxes) (filter (λ other. other.id == box.id) boxes) ≡ box ∷ []
  go true is (inl same) more =
      let none : count box.id boxes ≡ 0 = omega (arith, sum_by-cons (times box.id) first boxes, ap one_if is) in
      ap (λ (l : List Told). first ∷ l) (none_kept box.id boxes none) ∙ ap (λ (b : Told). b ∷ []) same
  go true is (inr behind) more =
      absurd (omega (arith, sum_by-cons (times box.id) first boxes, ap one_if is, id_counted boxes box.id (id_contained (λ (b : Told). b.id) boxes box behind)))
  go false is (inl same) more =
      absurd (omega (arith, equal_once first.id box.id (ap (λ (b : Told). b.id) same), ap one_if is))
  go false is (inr behind) more = more behind (omega (arith, sum_by-cons (times box.id) first boxes))

-- a box that is taken out of the list of the boxes, and put behind another list
pub one_moved : (boxes removed : List Told) (box : Told) → Contains boxes box → count box.id boxes ≤ 1
    → IsPermutation (boxes ++ removed) (without_id box.id boxes ++ (removed ++ box ∷ []))
one_moved boxes removed box there few =
    let others = without_id box.id boxes in
    let apart : IsPermutation boxes (filter (λ other. other.id == box.id) boxes ++ others) =
    IsPermutation-filter_both (λ (other : Told). other.id == box.id) (λ (other : Told). not (other.id == box.id)) (λ other. refl) boxes in
    let front : IsPermutation boxes (box ∷ others) = subst (λ (l : List Told). IsPermutation boxes (l ++ others)) (one_kept boxes box there few) apart in
    let joined : IsPermutation (boxes ++ removed) (box ∷ (others ++ removed)) = IsPermutation-append_left removed boxes (box ∷ others) front in
    let back : IsPermutation (box ∷ (others ++ removed)) ((others ++ removed) ++ box ∷ []) =
    IsPermutation-sym ((others ++ removed) ++ box ∷ []) (box ∷ (others ++ removed)) (IsPermutation-to_front (others ++ removed) box) in
    subst (λ (l : List Told). IsPermutation (boxes ++ removed) l) (assoc others removed (box ∷ []))
    (IsPermutation-trans (boxes ++ removed) (box ∷ (others ++ removed)) ((others ++ removed) ++ box ∷ []) joined back)
  where
    assoc : (xs ys zs : List Told) → (xs ++ ys) ++ zs ≡ xs ++ (ys ++ zs)
    assoc [] ys zs = refl
    assoc (x ∷ xs) ys zs = ap (λ (l : List Told). x ∷ l) (assoc xs ys zs)

pub rising_push : (boxes : List Told) (box : Told) → IsRising boxes → AllByRecursion (λ other. other.id < box.id) boxes → IsRising (boxes ++ box ∷ [])
rising_push [] box rising below = (tt, tt)
rising_push (first ∷ boxes) box rising below =
    (all_append (λ (other : Told). first.id < other.id) boxes (box ∷ []) rising.0 (below.0, tt), rising_push boxes box rising.1 below.1)

-- each id is no higher than those behind it
abbrev pub IsAscending : List Told → Type 0
IsAscending [] = Unit {0}
IsAscending (box ∷ boxes) = AllByRecursion (λ other. box.id ≤ other.id) boxes × IsAscending boxes

-- a sorted list of boxes that are told is ascending
pub ascending_told : {X : Type 0} (n : X → ℕ) (told : X → Told) → ((x : X) → (told x).id ≡ n x) → (xs : List X) → IsNonDecreasingBy n xs
    → IsAscending (map told xs)
ascending_told n told is [] sorted = tt
ascending_told {X} n told is (x ∷ xs) sorted = (
  behind xs (λ j d h. omega (arith, sorted 0 (suc j) d (omega arith) (omega arith))),
  ascending_told n told is xs
      (IsNonDecreasingBy-drop n 1 (x ∷ xs) sorted),
) where
  behind : (ys : List X) → ((j : ℕ) (d : X) → j < length ys → n x ≤ n (get_or ys j d)) → AllByRecursion (λ other. (told x).id ≤ other.id) (map told ys)
  behind [] above = tt
  behind (y ∷ ys) above = (omega (arith, is x, is y, above 0 y (omega arith)), behind ys (λ j d h. above (suc j) d (omega arith)))

all_above : (id : ℕ) (box : Told) (boxes : List Told) → id < box.id → AllByRecursion (λ other. box.id ≤ other.id) boxes → count id (box ∷ boxes) ≡ 0
all_above id box boxes above ascending =
    none_counted id (box ∷ boxes)
    (above, all_weaker (λ (other : Told). box.id ≤ other.id) (λ (other : Told). id < other.id) boxes (λ other le. omega arith) ascending)

-- two lists of the same boxes, of which one ascends and the other rises, are the same
pub same_rising : (xs ys : List Told) → IsAscending xs → IsRising ys → ((id : ℕ) → count id xs ≡ count id ys)
    → ((box : Told) → Contains xs box → Contains ys box) → xs ≡ ys
same_rising [] [] ascending rising counts there = refl
same_rising [] (y ∷ ys) ascending rising counts there = absurd (omega (arith, counts y.id, sum_by-cons (times y.id) y ys, equal_once y.id y.id refl))
same_rising (x ∷ xs) [] ascending rising counts there = absurd (omega (arith, counts x.id, sum_by-cons (times x.id) x xs, equal_once x.id x.id refl))
same_rising (x ∷ xs) (y ∷ ys) ascending rising counts there =
    go (head_or_behind y x ys (there x (0, omega arith, refl))) (same_rising xs ys ascending.1 rising.1) where
      go : (y ≡ x) ⊎ Contains ys x → (((id : ℕ) → count id xs ≡ count id ys) → ((box : Told) → Contains xs box → Contains ys box) → xs ≡ ys) → x ∷ xs ≡ y ∷ ys
      go (inr behind) more =
          let below : y.id < x.id = All-contains (λ (other : Told). y.id < other.id) ys x
          (All-from_recursion (λ (other : Told). y.id < other.id) ys rising.0) behind in
          absurd (omega (arith, counts y.id, sum_by-cons (times y.id) y ys, equal_once y.id y.id refl, all_above y.id x xs below ascending.0))
      go (inl same) more = cc (same, more fewer within) where
        fewer : (id : ℕ) → count id xs ≡ count id ys
        fewer id = omega (arith, counts id, sum_by-cons (times id) x xs, sum_by-cons (times id) y ys, ap (times id) same)

        within : (box : Told) → Contains xs box → Contains ys box
        within box inside = kept (head_or_behind y box ys (there box (suc inside.0, omega (arith, inside.1), inside.2))) where
          kept : (y ≡ box) ⊎ Contains ys box → Contains ys box
          kept (inr behind) = behind
          kept (inl is) =
              absurd (omega (
                arith,
                once y.id (y ∷ ys) rising,
                counts y.id,
                sum_by-cons (times y.id) x xs,
                ap (times y.id) same,
                equal_once y.id y.id refl,
                id_counted xs y.id
                    (subst (λ (b : Told). Contains (map (λ (other : Told). other.id) xs) b.id) (sym is) (id_contained (λ (b : Told). b.id) xs box inside)),
              ))
