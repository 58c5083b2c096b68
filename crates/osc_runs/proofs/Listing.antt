-- What is told of what was gathered is what is told of all lines.
use Rattle.std.proofs.Common.{◌≡◌, ℕ, zero, suc, ◌+◌, ◌≤◌, List, [], ◌∷◌, ◌++◌, length, Bool, true, false, nat_lt, refl, sym, ap, subst, ◌∙◌, arith, codes}
use Rattle.std.specs.Prelude.{if◌then◌else◌}
use Rattle.std.specs.List.{flat_map}
use Rattle.std.specs.Str.{bytes_eq}
use Rattle.std.proofs.lemmas.Bool.Decides.{nat_tests}
use Rattle.std.proofs.lemmas.List.{append-nil}
use Rattle.std.proofs.lemmas.Slice.Eq.{bytes_eq-Decides}
use Rattle.osc_shown.specs.declared.look.Look.{Look}
use Rattle.osc_shown.specs.Numbers.{thousands}
use Rattle.osc_shown.specs.Times.{span_text}
use Rattle.osc_shown.specs.Told.{note_text}
use Rattle.osc_runs.specs.Gathering.{Plain, Gathered, gathered_of, again, enter, Run, none, gather, gather_all}
use Rattle.osc_runs.specs.Telling.{head_at, row_text, rows_text}
use Rattle.osc_runs.specs.Listed.{of_address, without, addresses, last_of, told, run_text}

abbrev enter_all : List Gathered → List Plain → List Gathered
enter_all rows [] = rows
enter_all rows (plain ∷ plains) = enter_all (enter rows plain) plains

gathers : (run : Run) (plains : List Plain) → (gather_all run plains).rows ≡ enter_all run.rows plains
gathers run [] = refl
gathers run (plain ∷ plains) = gathers (gather run plain) plains

abbrev all_again : Gathered → List Plain → Gathered
all_again row [] = row
all_again row (plain ∷ plains) = all_again (again row plain) plains

abbrev others : List ℕ → List Plain → List Plain
others address [] = []
others address (plain ∷ plains) = if bytes_eq address plain.address then others address plains else plain ∷ others address plains

-- the first address has its own lines, and the others have theirs
apart_by : (b : Bool) (row : Gathered) (rows : List Gathered) (plain : Plain) (plains : List Plain)
    → enter_all (again row plain ∷ rows) plains
    ≡ all_again (again row plain) (of_address row.address plains) ∷ enter_all rows (others row.address plains)
    → enter_all (row ∷ enter rows plain) plains
    ≡ all_again row (of_address row.address plains) ∷ enter_all (enter rows plain) (others row.address plains)
    → enter_all (if b then again row plain ∷ rows else row ∷ enter rows plain) plains
    ≡ all_again row (if b then plain ∷ of_address row.address plains else of_address row.address plains)
    ∷ enter_all rows (if b then others row.address plains else plain ∷ others row.address plains)
apart_by true row rows plain plains own other = own
apart_by false row rows plain plains own other = other

apart : (plains : List Plain) (row : Gathered) (rows : List Gathered) → enter_all (row ∷ rows) plains
    ≡ all_again row (of_address row.address plains) ∷ enter_all rows (others row.address plains)
apart [] row rows = refl
apart (plain ∷ plains) row rows =
    apart_by (bytes_eq row.address plain.address) row rows plain plains (apart plains (again row plain) rows)
    (apart plains row (enter rows plain))

same_by : (b : Bool) (a x : List ℕ) (xs : List (List ℕ)) → bytes_eq a x ≡ b → without a (without a xs) ≡ without a xs
    → without a (if b then without a xs else x ∷ without a xs) ≡ (if b then without a xs else x ∷ without a xs)
same_by true a x xs is rest = rest
same_by false a x xs is rest = rw is (ap (λ l. x ∷ l) rest)

without_same : (a : List ℕ) (xs : List (List ℕ)) → without a (without a xs) ≡ without a xs
without_same a [] = refl
without_same a (x ∷ xs) = same_by (bytes_eq a x) a x xs refl (without_same a xs)

swap_by : (p q : Bool) (a b x : List ℕ) (xs : List (List ℕ)) → bytes_eq a x ≡ p → bytes_eq b x ≡ q
    → without b (without a xs) ≡ without a (without b xs)
    → without b (if p then without a xs else x ∷ without a xs) ≡ without a (if q then without b xs else x ∷ without b xs)
swap_by true true a b x xs p q rest = rest
swap_by true false a b x xs p q rest = rw p rest
swap_by false true a b x xs p q rest = rw q rest
swap_by false false a b x xs p q rest = rw (p, q) (ap (λ l. x ∷ l) rest)

without_swap : (a b : List ℕ) (xs : List (List ℕ)) → without b (without a xs) ≡ without a (without b xs)
without_swap a b [] = refl
without_swap a b (x ∷ xs) = swap_by (bytes_eq a x) (bytes_eq b x) a b x xs refl refl (without_swap a b xs)

-- the addresses of the others are all but that one
rest_by : (b : Bool) (a : List ℕ) (plain : Plain) (plains : List Plain) → bytes_eq a plain.address ≡ b
    → addresses (others a plains) ≡ without a (addresses plains)
    → addresses (if b then others a plains else plain ∷ others a plains)
    ≡ (if b then without a (without plain.address (addresses plains)) else plain.address ∷ without a (without plain.address (addresses plains)))
rest_by true a plain plains is rest =
    subst (λ c. addresses (others a plains) ≡ without a (without c (addresses plains))) ((bytes_eq-Decides a plain.address).0 is)
    (rest ∙ sym (without_same a (addresses plains)))
rest_by false a plain plains is rest =
    ap (λ l. plain.address ∷ without plain.address l) rest
    ∙ ap (λ l. plain.address ∷ l) (without_swap a plain.address (addresses plains))

rest_addresses : (a : List ℕ) (plains : List Plain) → addresses (others a plains) ≡ without a (addresses plains)
rest_addresses a [] = refl
rest_addresses a (plain ∷ plains) = rest_by (bytes_eq a plain.address) a plain plains refl (rest_addresses a plains)

-- an other address has all its lines among the others
flip : (a b : List ℕ) → bytes_eq a b ≡ false → bytes_eq b a ≡ false
flip a b differ = go (bytes_eq b a) refl where
  go : (t : Bool) → bytes_eq b a ≡ t → bytes_eq b a ≡ false
  go true is =
      let same : bytes_eq a b ≡ true = (bytes_eq-Decides a b).1 (sym ((bytes_eq-Decides b a).0 is)) in
      absurd (cc)
  go false is = is

own_by : (p q : Bool) (a b : List ℕ) (plain : Plain) (plains : List Plain) → bytes_eq a plain.address ≡ p → bytes_eq b plain.address ≡ q
    → bytes_eq a b ≡ false → of_address b (others a plains) ≡ of_address b plains
    → of_address b (if p then others a plains else plain ∷ others a plains)
    ≡ (if q then plain ∷ of_address b plains else of_address b plains)
own_by true true a b plain plains p q differ rest =
    let same : bytes_eq a b ≡ true =
    (bytes_eq-Decides a b).1 ((bytes_eq-Decides a plain.address).0 p ∙ sym ((bytes_eq-Decides b plain.address).0 q)) in
    absurd (cc)
own_by true false a b plain plains p q differ rest = rest
own_by false true a b plain plains p q differ rest = rw q (ap (λ l. plain ∷ l) rest)
own_by false false a b plain plains p q differ rest = rw q rest

own_lines : (a b : List ℕ) (plains : List Plain) → bytes_eq a b ≡ false → of_address b (others a plains) ≡ of_address b plains
own_lines a b [] differ = refl
own_lines a b (plain ∷ plains) differ =
    own_by (bytes_eq a plain.address) (bytes_eq b plain.address) a b plain plains refl refl differ (own_lines a b plains differ)

alike_by : (t : Bool) (f g : List ℕ → List ℕ) (a x : List ℕ) (xs : List (List ℕ)) → bytes_eq a x ≡ t
    → ((b : List ℕ) → bytes_eq a b ≡ false → f b ≡ g b) → flat_map f (without a xs) ≡ flat_map g (without a xs)
    → flat_map f (if t then without a xs else x ∷ without a xs) ≡ flat_map g (if t then without a xs else x ∷ without a xs)
alike_by true f g a x xs is same rest = rest
alike_by false f g a x xs is same rest =
    ap (λ (l : List ℕ). l ++ flat_map f (without a xs)) (same x is) ∙ ap (λ (l : List ℕ). g x ++ l) rest

alike : (f g : List ℕ → List ℕ) (a : List ℕ) (xs : List (List ℕ)) → ((b : List ℕ) → bytes_eq a b ≡ false → f b ≡ g b)
    → flat_map f (without a xs) ≡ flat_map g (without a xs)
alike f g a [] same = refl
alike f g a (x ∷ xs) same = alike_by (bytes_eq a x) f g a x xs refl same (alike f g a xs same)

-- the lines of one address
abbrev several : Look → List ℕ → ℕ → List ℕ → List ℕ → ℕ → ℕ → List ℕ
several look address since first last count till =
    note_text (head_at look since) (address ++ codes " " ++ first ++ codes " .. " ++ last)
    (thousands count ++ codes " in " ++ span_text since till)

several_row : (t : Bool) (row : Gathered) → nat_lt 2 row.count ≡ t → t ≡ true
    → row_text row ≡ several row.look row.address row.since row.first row.last row.count row.till
several_row true row is on = rw is refl
several_row false row is on = absurd (cc)

many : (more : List Plain) (row : Gathered) (z : Plain) (count : ℕ) → row.till ≡ z.moment → row.last ≡ z.words
    → 2 + 1 ≤ row.count → count ≡ length more + row.count
    → several row.look row.address row.since row.first (last_of z more).words count (last_of z more).moment ≡ row_text (all_again row more)
many [] row z count till last enough total =
    let same : count ≡ row.count = omega (arith, total) in
    let more : nat_lt 2 row.count ≡ true = grind (arith, nat_tests, enough) in
    ap (λ (n : ℕ). several row.look row.address row.since row.first z.words n z.moment) same
    ∙ ap (λ (w : List ℕ). several row.look row.address row.since row.first w row.count z.moment) (sym last)
    ∙ ap (λ (m : ℕ). several row.look row.address row.since row.first row.last row.count m) (sym till)
    ∙ sym (several_row true row more refl)
many (next ∷ more) row z count till last enough total =
    many more (again row next) next count refl refl (omega (arith, enough)) (omega (arith, total))

told_row : (plain : Plain) (plains : List Plain) → told (plain ∷ plains) ≡ row_text (all_again (gathered_of plain) plains)
told_row plain [] = sym (append-nil plain.line)
told_row plain (two ∷ []) = refl
told_row plain (two ∷ three ∷ more) =
    many more (again (again (gathered_of plain) two) three) three (length more + 3) refl refl (omega arith) refl

fewer_by : (b : Bool) (a : List ℕ) (plain : Plain) (plains : List Plain) → length (others a plains) ≤ length plains
    → length (if b then others a plains else plain ∷ others a plains) ≤ length (plain ∷ plains)
fewer_by true a plain plains less = omega (arith, less)
fewer_by false a plain plains less = omega (arith, less)

fewer : (a : List ℕ) (plains : List Plain) → length (others a plains) ≤ length plains
fewer a [] = omega arith
fewer a (plain ∷ plains) = fewer_by (bytes_eq a plain.address) a plain plains (fewer a plains)

first_own : (t : Bool) (a : List ℕ) (plain : Plain) (plains : List Plain) → bytes_eq a plain.address ≡ t → t ≡ true
    → of_address a (plain ∷ plains) ≡ plain ∷ of_address a plains
first_own true a plain plains is on = rw is refl
first_own false a plain plains is on = absurd (cc)

first_other : (t : Bool) (a : List ℕ) (plain : Plain) (plains : List Plain) → bytes_eq a plain.address ≡ t → t ≡ false
    → of_address a (plain ∷ plains) ≡ of_address a plains
first_other true a plain plains is off = absurd (cc)
first_other false a plain plains is off = rw is refl

listed : (n : ℕ) (plains : List Plain) → length plains ≤ n → rows_text (enter_all [] plains) ≡ run_text plains
listed n [] within = refl
listed zero (plain ∷ plains) within = absurd (omega (arith, within))
listed (suc n) (plain ∷ plains) within =
    let mine : row_text (all_again (gathered_of plain) (of_address plain.address plains))
    ≡ told (of_address plain.address (plain ∷ plains)) =
    sym (told_row plain (of_address plain.address plains))
    ∙ ap (λ l. told l) (sym (first_own true plain.address plain plains ((bytes_eq-Decides plain.address plain.address).1 refl) refl)) in
    let rest : rows_text (enter_all [] (others plain.address plains))
    ≡ flat_map (λ b. told (of_address b (plain ∷ plains))) (without plain.address (addresses plains)) =
    listed n (others plain.address plains) (omega (arith, within, fewer plain.address plains))
    ∙ ap (λ l. flat_map (λ b. told (of_address b (others plain.address plains))) l) (rest_addresses plain.address plains)
    ∙ alike (λ b. told (of_address b (others plain.address plains))) (λ b. told (of_address b (plain ∷ plains)))
    plain.address (addresses plains)
    (λ b differ. ap (λ l. told l) (own_lines plain.address b plains differ
    ∙ sym (first_other false b plain plains (flip plain.address b differ) refl))) in
    ap (λ l. rows_text l) (apart plains (gathered_of plain) [])
    ∙ ap (λ (l : List ℕ). l ++ rows_text (enter_all [] (others plain.address plains))) mine
    ∙ ap (λ (l : List ℕ). told (of_address plain.address (plain ∷ plains)) ++ l) rest

pub told_whole : (plains : List Plain) → rows_text (gather_all none plains).rows ≡ run_text plains
told_whole plains = ap (λ l. rows_text l) (gathers none plains) ∙ listed (length plains) plains (omega arith)
