-- Each call is counted.
use Rattle.std.proofs.Common.{◌≡◌, ℕ, suc, ◌+◌, ◌-◌, ◌^◌, ◌==◌, Bool, true, false, cond, not, min, List, [], ◌∷◌, map, filter, find, length, length-append, Option, Some, None, refl, sym, ap, ◌∙◌, arith}
use Rattle.std.specs.Option.{option_or, option_map_or}
use Rattle.std.proofs.lemmas.Bool.{eqb-true, eq-eqb}
use Rattle.std.proofs.lemmas.List.Elements.{filter-append}
use Rattle.std.proofs.lemmas.List.Folds.{find-append}
use Rattle.osc_model.specs.Events.{Answer, Call, Entry, Invocation, released}
use Rattle.osc_model.specs.Step.{invocations_of}
use Rattle.osc_story.specs.Totals.{more}
use Rattle.osc_story.specs.Standings.{Standing, called, calls_told, all_called}
use Rattle.osc_board.specs.declared.last.Last.{Last}
use Rattle.osc_board.specs.declared.note.Note.{Note}
use Rattle.osc_board.specs.Sights.{Sight, note_of, last_of, count_of, others, noted, all_noted, calls_of, seen, seen_all}

-- What is found among those that pass a test.

skipped : {X : Type 0} (test : X → Bool) (x : X) (xs : List X) (b : Bool) → test x ≡ false → find test (cond b (x ∷ xs) xs) ≡ find test xs
skipped test x xs true is = rw is refl
skipped test x xs false is = refl

find_passing : {X : Type 0} (test p : X → Bool) → ((x : X) → test x ≡ true → p x ≡ true) → (xs : List X) → find test (filter p xs) ≡ find test xs
find_passing test p pass [] = refl
find_passing test p pass (x ∷ xs) = go (test x) refl (find_passing test p pass xs) where
  go : (t : Bool) → test x ≡ t → find test (filter p xs) ≡ find test xs → find test (cond (p x) (x ∷ filter p xs) (filter p xs)) ≡ cond (test x) (Some x) (find test xs)
  go true is more = rw (pass x is) rw is refl
  go false is more = skipped test x (filter p xs) (p x) is ∙ more ∙ sym (ap (λ (b : Bool). cond b (Some x) (find test xs)) is)

find_failing : {X : Type 0} (test p : X → Bool) → ((x : X) → test x ≡ true → p x ≡ false) → (xs : List X) → find test (filter p xs) ≡ None
find_failing test p fail [] = refl
find_failing test p fail (x ∷ xs) = go (test x) refl (find_failing test p fail xs) where
  go : (t : Bool) → test x ≡ t → find test (filter p xs) ≡ None → find test (cond (p x) (x ∷ filter p xs) (filter p xs)) ≡ None
  go true is more = rw (fail x is) more
  go false is more = skipped test x (filter p xs) (p x) is ∙ more

or_none : {X : Type 0} (o : Option X) → option_or o None ≡ o
or_none None = refl
or_none (Some x) = refl

-- One call more.

other_id : (last id note : ℕ) → last ≡ id → (note == id) ≡ false → not (last == note) ≡ true
other_id last id note same differ = go (last == note) refl where
  go : (b : Bool) → (last == note) ≡ b → not b ≡ true
  go true is =
      let e : (note == id) ≡ true = eq-eqb note id (sym (eqb-true last note is) ∙ same) in absurd (cc)
  go false is = refl

abbrev pub newest : ℕ → Note → List Last → Last
newest at note lasts = record { id = note.id; count = more (count_of lasts note.id) 1; at = at; words = note.words }

pub last_noted : (at : ℕ) (note : Note) (lasts : List Last) (id : ℕ) → last_of (noted at note lasts) id ≡ cond (note.id == id) (Some (newest at note lasts)) (last_of lasts id)
last_noted at note lasts id = go (note.id == id) refl where
  test : Last → Bool
  test last = last.id == id

  both : last_of (noted at note lasts) id ≡ option_or (last_of (others lasts note.id) id) (cond (note.id == id) (Some (newest at note lasts)) None)
  both = find-append test (others lasts note.id) (newest at note lasts ∷ [])

  go : (b : Bool) → (note.id == id) ≡ b → last_of (noted at note lasts) id ≡ cond b (Some (newest at note lasts)) (last_of lasts id)
  go true is =
      let same : note.id ≡ id = eqb-true note.id id is in
      let none : last_of (others lasts note.id) id ≡ None =
      find_failing test (λ (last : Last). not (last.id == note.id)) (λ last here. ap not (eq-eqb last.id note.id (eqb-true last.id id here ∙ sym same))) lasts
      in
      both ∙ ap (λ (o : Option Last). option_or o (cond (note.id == id) (Some (newest at note lasts)) None)) none
      ∙ ap (λ (b : Bool). cond b (Some (newest at note lasts)) None) is
  go false is =
      let kept : last_of (others lasts note.id) id ≡ last_of lasts id =
      find_passing test (λ (last : Last). not (last.id == note.id)) (λ last here. other_id last.id id note.id (eqb-true last.id id here) is) lasts
      in
      both ∙ ap (λ (o : Option Last). option_or o (cond (note.id == id) (Some (newest at note lasts)) None)) kept
      ∙ ap (λ (b : Bool). option_or (last_of lasts id) (cond b (Some (newest at note lasts)) None)) is ∙ or_none (last_of lasts id)

count_noted : (at : ℕ) (note : Note) (lasts : List Last) (id : ℕ) → count_of (noted at note lasts) id ≡ cond (note.id == id) (more (count_of lasts id) 1) (count_of lasts id)
count_noted at note lasts id = go (note.id == id) refl (last_noted at note lasts id) where
  go : (b : Bool) → (note.id == id) ≡ b → last_of (noted at note lasts) id ≡ cond b (Some (newest at note lasts)) (last_of lasts id)
      → count_of (noted at note lasts) id ≡ cond b (more (count_of lasts id) 1) (count_of lasts id)
  go true is found =
      ap (λ (o : Option Last). option_map_or (λ last. last.count) o 0) found ∙ ap (λ (n : ℕ). more (count_of lasts n) 1) (eqb-true note.id id is)
  go false is found = ap (λ (o : Option Last). option_map_or (λ last. last.count) o 0) found

-- a count that stays at its greatest
abbrev capped : ℕ → ℕ
capped n = min n (2 ^ 64 - 1)

one_capped : (c : ℕ) → more (capped c) 1 ≡ capped (c + 1)
one_capped c = omega arith

count_all : (at : ℕ) (notes : List Note) (lasts : List Last) (id c : ℕ) → count_of lasts id ≡ capped c
    → count_of (all_noted at notes lasts) id ≡ capped (c + length (filter (λ (n : Note). n.id == id) notes))
count_all at [] lasts id c is = is ∙ ap capped (omega arith)
count_all at (note ∷ notes) lasts id c is = go (note.id == id) refl (count_all at notes (noted at note lasts) id) where
  rest : List Note
  rest = filter (λ (n : Note). n.id == id) notes

  go : (b : Bool) → (note.id == id) ≡ b
      → ((n : ℕ) → count_of (noted at note lasts) id ≡ capped n → count_of (all_noted at notes (noted at note lasts)) id ≡ capped (n + length rest))
      → count_of (all_noted at notes (noted at note lasts)) id ≡ capped (c + length (cond (note.id == id) (note ∷ rest) rest))
  go true is_it others =
      let one : count_of (noted at note lasts) id ≡ capped (c + 1) =
      count_noted at note lasts id ∙ ap (λ (b : Bool). cond b (more (count_of lasts id) 1) (count_of lasts id)) is_it
      ∙ ap (λ (n : ℕ). more n 1) is ∙ one_capped c
      in
      others (c + 1) one
      ∙ ap capped (omega (arith, ap (λ (b : Bool). length (cond b (note ∷ rest) rest)) is_it))
  go false is_it others =
      let one : count_of (noted at note lasts) id ≡ capped c =
      count_noted at note lasts id ∙ ap (λ (b : Bool). cond b (more (count_of lasts id) 1) (count_of lasts id)) is_it ∙ is
      in
      others c one
      ∙ ap capped (omega (arith, ap (λ (b : Bool). length (cond b (note ∷ rest) rest)) is_it))

-- Entry by entry.

told_calls : (unit : ℕ) (calls : List Call) (id : ℕ) → length (filter (λ (n : Note). n.id == id) (map note_of calls)) ≡ length (calls_of id (invocations_of unit calls))
told_calls unit [] id = refl
told_calls unit (call ∷ calls) id = go (call.id == id) (told_calls unit calls id) where
  notes : List Note
  notes = filter (λ (n : Note). n.id == id) (map note_of calls)

  more_calls : List Invocation
  more_calls = calls_of id (invocations_of unit calls)

  go : (b : Bool) → length notes ≡ length more_calls → length (cond b (note_of call ∷ notes) notes) ≡ length (cond b (record { unit = unit; call = call } ∷ more_calls) more_calls)
  go true same = ap suc same
  go false same = same

told_by : (standing : Standing) (answer : Answer) (id : ℕ) → length (filter (λ (n : Note). n.id == id) (map note_of (calls_told standing answer))) ≡ length (calls_of id (called standing answer))
told_by standing (released unit hits) id = told_calls unit (calls_told standing (released unit hits)) id
told_by standing _ id = refl

counted_on : (sight : Sight) (entries : List Entry) (id c : ℕ) → count_of sight.lasts id ≡ capped c
    → count_of (seen_all sight entries).lasts id ≡ capped (c + length (calls_of id (all_called sight.standing entries)))
counted_on sight [] id c is = is ∙ ap capped (omega arith)
counted_on sight (entry ∷ entries) id c is =
    let notes = map note_of (calls_told sight.standing entry.answer) in
    let here = called sight.standing entry.answer in
    let after = seen sight entry in
    let others = all_called after.standing entries in
    let one = count_all sight.standing.clock notes sight.lasts id c is in
    counted_on after entries id (c + length (filter (λ (n : Note). n.id == id) notes)) one
    ∙ ap capped (omega (
      arith,
      told_by sight.standing entry.answer id,
      ap length (filter-append (λ (one : Invocation). one.call.id == id) here others),
      length-append (calls_of id here) (calls_of id others),
    ))

pub counted : (sight : Sight) (entries : List Entry) (id : ℕ) → count_of sight.lasts id ≡ 0
    → count_of (seen_all sight entries).lasts id ≡ min (length (calls_of id (all_called sight.standing entries))) (2 ^ 64 - 1)
counted sight entries id none =
    counted_on sight entries id 0 none ∙ ap capped (omega arith)
