-- Rows that enter and leave a list.
use Rattle.std.proofs.Common.{◌≡◌, ◌≢◌, ℕ, suc, ◌+◌, ◌<◌, ◌≤◌, ◌==◌, ◌&&◌, Bool, true, false, not, cond, List, [], ◌∷◌, ◌++◌, length, map, get_or, filter, take, drop, insert}
use Rattle.std.proofs.Common.{refl, sym, ap, subst, ◌∙◌, arith, one-add, eqb-true, eq-eqb}
use Rattle.std.specs.List.{position_or_len, remove, sum_by}
use Rattle.std.specs.List.Sorted.{IsPermutation}
use Rattle.std.specs.Str.{bytes_eq}
use Rattle.std.proofs.lemmas.List.Sums.{sum_by-cons}
use Rattle.std.proofs.lemmas.List.Sorted.{IsPermutation-refl, IsPermutation-sym, IsPermutation-trans, IsPermutation-cons, IsPermutation-insert, IsPermutation-remove}
use Rattle.std.proofs.lemmas.List.Sorted.{IsPermutation-append_comm, sum_by-IsPermutation}
use Rattle.std.proofs.lemmas.Slice.Eq.{bytes_eq-Decides}
use Rattle.std.specs.List.{AllByRecursion}
use Rattle.std.specs.List.Sorted.{IsStrictlySortedBy}
use Rattle.std.specs.Ordering.{is_lt, is_eq, ordering_reverse, nat_cmp}
use Rattle.std.specs.Cmp.Lexicographic.{slice_cmp}
use Rattle.std.proofs.Common.{zero, Ordering, Less, Equal, Greater}
use Rattle.std.proofs.lemmas.Cmp.{nat_list_cmp_total}
use Rattle.std.proofs.lemmas.Map.Text.{is_eq-slice_cmp}
use Rattle.osc_watch.specs.declared.row.MethodRow.{MethodRow}
use Rattle.osc_watch.specs.Listing.{is_before, is_row, place_for, place_of, entered, left}

both_true : (s t : Bool) → (s && t) ≡ true → (s ≡ true) × (t ≡ true)
both_true true true is = (refl, refl)
both_true true false is = absurd (cc)
both_true false t is = absurd (cc)

same_row : (row other : MethodRow) → is_row row other ≡ true → other ≡ row
same_row row other is =
    let both = both_true (other.id == row.id) (bytes_eq other.address row.address) is in
    let id : other.id ≡ row.id = eqb-true other.id row.id both.0 in
    let address : other.address ≡ row.address = (bytes_eq-Decides other.address row.address).0 both.1 in
    λ i. record { id = id i; address = address i }

own_row : (row : MethodRow) → is_row row row ≡ true
own_row row =
    ap (λ t. t && bytes_eq row.address row.address) (eq-eqb row.id row.id refl)
    ∙ (bytes_eq-Decides row.address row.address).1 refl

abbrev counted : MethodRow → MethodRow → ℕ
counted row other = cond (is_row row other) 1 0

-- the first place of a row that is there
place : (row : MethodRow) (rows : List MethodRow) (d : MethodRow) → 0 < sum_by (counted row) rows
    → (place_of row rows < length rows) × (row ≡ get_or rows (place_of row rows) d)
place row [] d some = absurd (omega (arith, some))
place row (one ∷ rows) d some = go (is_row row one) refl (omega (arith, some, sum_by-cons (counted row) one rows)) (place row rows d) where
  go : (t : Bool) → is_row row one ≡ t → 0 < cond (is_row row one) 1 0 + sum_by (counted row) rows
      → (0 < sum_by (counted row) rows → (place_of row rows < length rows) × (row ≡ get_or rows (place_of row rows) d))
      → (cond (not t) (1 + place_of row rows) 0 < suc (length rows)) × (row ≡ get_or (one ∷ rows) (cond (not t) (1 + place_of row rows) 0) d)
  go true is some more = (omega arith, sym (same_row row one is))
  go false is some more =
      let later : 0 < sum_by (counted row) rows = omega (arith, some, ap {B = ℕ} (λ u. cond u 1 0) is) in
      let there = more later in
      (omega (arith, there.0), there.1 ∙ ap (λ n. get_or (one ∷ rows) n d) (sym (one-add (place_of row rows))))

abbrev AsOften : List MethodRow → List MethodRow → Type 0
AsOften rows others = (f : MethodRow → ℕ) → sum_by f rows ≡ sum_by f others

-- rows that stand as often in both lists
pub permuted : (rows others : List MethodRow) → AsOften rows others → IsPermutation rows others
permuted [] [] same = IsPermutation-refl []
permuted [] (one ∷ others) same = absurd (omega (arith, same (λ _. 1), sum_by-cons (λ _. 1) one others))
permuted (row ∷ rows) others same =
    let some : 0 < sum_by (counted row) others =
    omega (arith, same (counted row), sum_by-cons (counted row) row rows, ap {B = ℕ} (λ t. cond t 1 0) (own_row row)) in
    let there = place row others row some in
    let rest = remove others (place_of row others) in
    let split : IsPermutation others (row ∷ rest) = IsPermutation-remove others (place_of row others) row there.0 there.1 in
    let fewer : AsOften rows rest = λ f. omega (
      arith,
      same f,
      sum_by-IsPermutation f others (row ∷ rest) split,
      sum_by-cons f row rows,
      sum_by-cons f row rest,
    ) in
    IsPermutation-trans (row ∷ rows) (row ∷ rest) others (IsPermutation-cons row rows rest (permuted rows rest fewer))
    (IsPermutation-sym others (row ∷ rest) split)

-- a row enters where it stands last in the other list
pub enters : (rows others : List MethodRow) (row : MethodRow) → IsPermutation rows others → IsPermutation (entered rows row) (others ++ row ∷ [])
enters rows others row same =
    IsPermutation-trans (entered rows row) (row ∷ others) (others ++ row ∷ [])
    (IsPermutation-trans (entered rows row) (row ∷ rows) (row ∷ others)
    (IsPermutation-sym (row ∷ rows) (entered rows row) (IsPermutation-insert rows _ row)) (IsPermutation-cons row rows others same))
    (IsPermutation-append_comm (row ∷ []) others)

-- a row leaves that is one of the other list's
pub leaves_list : (rows others rest : List MethodRow) (row : MethodRow) → IsPermutation rows others → IsPermutation others (row ∷ rest)
    → IsPermutation (left rows row) rest
leaves_list rows others rest row same split =
    let some : 0 < sum_by (counted row) rows = omega (
      arith,
      sum_by-IsPermutation (counted row) rows others same,
      sum_by-IsPermutation (counted row) others (row ∷ rest) split,
      sum_by-cons (counted row) row rest,
      ap {B = ℕ} (λ t. cond t 1 0) (own_row row),
    ) in
    let there = place row rows row some in
    let gone : IsPermutation rows (row ∷ left rows row) = IsPermutation-remove rows (place_of row rows) row there.0 there.1 in
    permuted (left rows row) rest (λ f. omega (
      arith,
      sum_by-IsPermutation f rows others same,
      sum_by-IsPermutation f others (row ∷ rest) split,
      sum_by-IsPermutation f rows (row ∷ left rows row) gone,
      sum_by-cons f row (left rows row),
      sum_by-cons f row rest,
    ))

-- Rows in ascending order.

all_entered : (P : List ℕ → Type 0) (k : ℕ) (rows : List MethodRow) (row : MethodRow) → P row.address
    → AllByRecursion P (map (λ (r : MethodRow). r.address) rows) → AllByRecursion P (map (λ (r : MethodRow). r.address) (insert rows k row))
all_entered P zero rows row p all = (p, all)
all_entered P (suc k) [] row p all = (p, tt)
all_entered P (suc k) (one ∷ rows) row p all = (all.0, all_entered P k rows row p all.1)

all_left : (P : List ℕ → Type 0) (k : ℕ) (rows : List MethodRow)
    → AllByRecursion P (map (λ (r : MethodRow). r.address) rows) → AllByRecursion P (map (λ (r : MethodRow). r.address) (remove rows k))
all_left P zero [] all = tt
all_left P zero (one ∷ rows) all = all.1
all_left P (suc k) [] all = tt
all_left P (suc k) (one ∷ rows) all = (all.0, all_left P k rows all.1)

all_then : (P Q : List ℕ → Type 0) → ((y : List ℕ) → P y → Q y) → (ys : List (List ℕ)) → AllByRecursion P ys → AllByRecursion Q ys
all_then P Q then [] all = tt
all_then P Q then (y ∷ ys) all = (then y all.0, all_then P Q then ys all.1)

is_less : (o : Ordering) → is_lt o ≡ true → o ≡ Less
is_less Less is = refl
is_less Equal is = absurd (cc)
is_less Greater is = absurd (cc)

is_greater : (o : Ordering) → is_lt o ≡ false → (is_eq o ≡ true → ⊥) → ordering_reverse o ≡ Less
is_greater Less is other = absurd (cc)
is_greater Equal is other = absurd (other refl)
is_greater Greater is other = refl

-- the addresses ascend
abbrev pub Ascend : List MethodRow → Type 0
Ascend rows = IsStrictlySortedBy (slice_cmp nat_cmp) (map (λ (row : MethodRow). row.address) rows)

pub none_ascend : Ascend []
unfolding IsStrictlySortedBy
none_ascend = tt

left_at : (k : ℕ) (rows : List MethodRow) → Ascend rows → Ascend (remove rows k)
unfolding IsStrictlySortedBy
left_at zero [] sorted = sorted
left_at zero (one ∷ rows) sorted = sorted.1
left_at (suc k) [] sorted = sorted
left_at (suc k) (one ∷ rows) sorted = (all_left (λ y. slice_cmp nat_cmp one.address y ≡ Less) k rows sorted.0, left_at k rows sorted.1)

pub left_ascend : (rows : List MethodRow) (row : MethodRow) → Ascend rows → Ascend (left rows row)
left_ascend rows row sorted = left_at (place_of row rows) rows sorted

pub entered_ascend : (rows : List MethodRow) (row : MethodRow) → AllByRecursion (λ other. row.address ≢ other.address) rows → Ascend rows
    → Ascend (entered rows row)
unfolding IsStrictlySortedBy
entered_ascend [] row apart sorted = (tt, tt)
entered_ascend (one ∷ rows) row apart sorted = go (is_before row.address one) refl (entered_ascend rows row apart.1 sorted.1) where
  go : (t : Bool) → is_before row.address one ≡ t → Ascend (entered rows row)
      → Ascend (insert (one ∷ rows) (cond (not (not t)) (1 + place_for row.address rows) 0) row)
  go true is more =
      subst (λ (n : ℕ). Ascend (insert (one ∷ rows) n row)) (sym (one-add (place_for row.address rows))) (
        all_entered (λ y. slice_cmp nat_cmp one.address y ≡ Less) (place_for row.address rows) rows row
            (is_less (slice_cmp nat_cmp one.address row.address) is) sorted.0,
        more,
      )
  go false is more =
      let other : is_eq (slice_cmp nat_cmp one.address row.address) ≡ true → ⊥ = λ same. apart.0
      (sym ((bytes_eq-Decides one.address row.address).0 (sym (is_eq-slice_cmp one.address row.address) ∙ same))) in
      let less : slice_cmp nat_cmp row.address one.address ≡ Less =
      nat_list_cmp_total.antisymm row.address one.address ∙ is_greater (slice_cmp nat_cmp one.address row.address) is other in (
        (
          less,
          all_then (λ y. slice_cmp nat_cmp one.address y ≡ Less) (λ y. slice_cmp nat_cmp row.address y ≡ Less)
              (λ y on. nat_list_cmp_total.trans row.address one.address y less on) (map (λ (r : MethodRow). r.address) rows) sorted.0,
        ),
        sorted,
      )
