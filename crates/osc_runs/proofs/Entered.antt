-- A line that enters at the place of its address.
use Rattle.std.proofs.Common.{◌≡◌, ℕ, ◌+◌, List, [], ◌∷◌, ◌++◌, length, Some, None, Bool, true, false, not, nat_lt, refl, sym, ap, subst, ◌∙◌, arith, one-add, position, slice_index_or, slice_set, OnOk}
use Rattle.std.specs.Prelude.{if◌then◌else◌, Result, Ok, Err}
use Rattle.std.specs.List.{position_or_len}
use Rattle.std.proofs.lemmas.Bool.Decides.{nat_tests}
use Rattle.osc_runs.specs.Gathering.{Plain, Gathered, gathered_of, again, is_of, enter}

pub ok_then : {A E P Q : Type 0} (r : Result A E) → (P → Q) → OnOk r P → OnOk r Q
ok_then (Ok _) then_so held = then_so held
ok_then (Err _) then_so held = tt

set_next : {X : Type 0} (x : X) (xs : List X) (n : ℕ) (w : X) → slice_set (x ∷ xs) (1 + n) w ≡ x ∷ slice_set xs n w
set_next x xs n w = rw one-add refl

get_next : {X : Type 0} (x : X) (xs : List X) (n : ℕ) (d : X) → slice_index_or (x ∷ xs) (1 + n) d ≡ slice_index_or xs n d
get_next x xs n d = rw one-add refl

within_next : {X : Type 0} (x : X) (xs : List X) (n : ℕ) (b : Bool) → nat_lt (1 + n) (length (x ∷ xs)) ≡ b → nat_lt n (length xs) ≡ b
within_next x xs n b is =
    let same : nat_lt n (length xs) ≡ nat_lt (1 + n) (length (x ∷ xs)) = grind (arith, nat_tests) in
    same ∙ is

some_at : (b : Bool) (n place : ℕ) → Some place ≡ (if b then Some n else None) → (b ≡ true) × (n ≡ place)
some_at true n place is = (refl, cc)
some_at false n place is = absurd (cc)

none_at : (b : Bool) (n : ℕ) → None ≡ (if b then Some n else None) → b ≡ false
none_at true n is = absurd (cc)
none_at false n is = refl

found_by : (b : Bool) (r : Gathered) (rows : List Gathered) (plain : Plain) (n : ℕ) (rest : List Gathered)
    → (nat_lt n (length rows) ≡ true → (row : Gathered) → row ≡ slice_index_or rows n row → slice_set rows n (again row plain) ≡ rest)
    → nat_lt (if not b then 1 + n else 0) (length (r ∷ rows)) ≡ true → (row : Gathered)
    → row ≡ slice_index_or (r ∷ rows) (if not b then 1 + n else 0) row
    → slice_set (r ∷ rows) (if not b then 1 + n else 0) (again row plain) ≡ (if b then again r plain ∷ rows else r ∷ rest)
found_by true r rows plain n rest before within row at = ap (λ (x : Gathered). again x plain ∷ rows) at
found_by false r rows plain n rest before within row at =
    set_next r rows n (again row plain)
    ∙ ap (λ l. r ∷ l) (before (within_next r rows n true within) row (at ∙ get_next r rows n row))

found : (rows : List Gathered) (plain : Plain) → nat_lt (position_or_len (is_of plain.address) rows) (length rows) ≡ true → (row : Gathered)
    → row ≡ slice_index_or rows (position_or_len (is_of plain.address) rows) row
    → slice_set rows (position_or_len (is_of plain.address) rows) (again row plain) ≡ enter rows plain
found [] plain within row at = absurd (cc)
found (r ∷ rows) plain within row at =
    found_by (is_of plain.address r) r rows plain (position_or_len (is_of plain.address) rows) (enter rows plain) (found rows plain) within row at

fresh_by : (b : Bool) (r : Gathered) (rows : List Gathered) (plain : Plain) (n : ℕ) (rest : List Gathered)
    → (nat_lt n (length rows) ≡ false → rest ≡ rows ++ gathered_of plain ∷ [])
    → nat_lt (if not b then 1 + n else 0) (length (r ∷ rows)) ≡ false
    → (if b then again r plain ∷ rows else r ∷ rest) ≡ r ∷ (rows ++ gathered_of plain ∷ [])
fresh_by true r rows plain n rest before out =
    let some : nat_lt 0 (length (r ∷ rows)) ≡ true = grind (arith, nat_tests) in
    absurd (cc)
fresh_by false r rows plain n rest before out = ap (λ l. r ∷ l) (before (within_next r rows n false out))

fresh : (rows : List Gathered) (plain : Plain) → nat_lt (position_or_len (is_of plain.address) rows) (length rows) ≡ false
    → enter rows plain ≡ rows ++ gathered_of plain ∷ []
fresh [] plain out = refl
fresh (r ∷ rows) plain out =
    fresh_by (is_of plain.address r) r rows plain (position_or_len (is_of plain.address) rows) (enter rows plain) (fresh rows plain) out

pub enter_found : (rows list : List Gathered) (plain : Plain) (address : List ℕ) (place : ℕ) (row new : Gathered) → address ≡ plain.address
    → list ≡ rows → Some place ≡ position (is_of address) list → row ≡ slice_index_or rows place row → new ≡ again row plain
    → slice_set rows place new ≡ enter rows plain
enter_found rows list plain address place row new same whole at value is =
    let here : Some place ≡ position (is_of plain.address) rows = subst (λ a. Some place ≡ position (is_of a) rows) same
    (subst (λ l. Some place ≡ position (is_of address) l) whole at) in
    let found_at = some_at (nat_lt (position_or_len (is_of plain.address) rows) (length rows))
    (position_or_len (is_of plain.address) rows) place here in
    subst (λ w. slice_set rows place w ≡ enter rows plain) (sym is)
    (subst (λ (k : ℕ). slice_set rows k (again row plain) ≡ enter rows plain) found_at.1
    (found rows plain found_at.0 row (subst (λ (k : ℕ). row ≡ slice_index_or rows k row) (sym found_at.1) value)))

pub enter_new : (rows list : List Gathered) (plain : Plain) (address : List ℕ) (new : List Gathered) → address ≡ plain.address
    → list ≡ rows → None ≡ position (is_of address) list → new ≡ rows ++ gathered_of plain ∷ [] → new ≡ enter rows plain
enter_new rows list plain address new same whole at is =
    let here : None ≡ position (is_of plain.address) rows = subst (λ a. None ≡ position (is_of a) rows) same
    (subst (λ l. None ≡ position (is_of address) l) whole at) in
    is ∙ sym (fresh rows plain (none_at (nat_lt (position_or_len (is_of plain.address) rows) (length rows))
    (position_or_len (is_of plain.address) rows) here))
