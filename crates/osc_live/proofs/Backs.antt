-- Boxes that are put back.
use Rattle.std.proofs.Common.{◌≢◌, ◌⊎◌, inl, inr, ◌≡◌, ℕ, zero, suc, ◌+◌, ◌<◌, ◌≤◌, List, [], ◌∷◌, ◌++◌, length, map, drop, get_or, remove}
use Rattle.std.proofs.Common.{Option, Some, None}
use Rattle.std.proofs.Common.{refl, sym, ap, subst, ◌∙◌, arith}
use Rattle.std.specs.Prelude.{slice_get, option_to_list}
use Rattle.std.specs.List.{AllByRecursion, Contains}
use Rattle.std.proofs.lemmas.List.{map-append}
use Rattle.std.proofs.lemmas.Simd.{map-map}
use Rattle.std.proofs.lemmas.List.Elements.{Contains-append_left, Contains-append_right, Contains-append_cases}
use Rattle.osc_method.specs.Heard.{Fixed}
use Rattle.osc_laws.proofs.Members.{sent_from}
use Rattle.osc_model.specs.Heard.{Told}
use Rattle.osc_core.specs.Redoing.{told_as}
use Rattle.osc_core.specs.Telling.{told}
use Rattle.osc_live.specs.Resuming.{HasMarkOf, marks}
use Rattle.osc_live.specs.Redone.{TakesOut, TakesEither, TellsMarkOf, IsOut, IsBack}
use Rattle.osc_live.proofs.PlayedAgain.{all_has}

-- All but the first elements.

pub all_dropped : {X : Type 0} (P : X → Type 0) (xs : List X) (n : ℕ) → length xs ≤ n → AllByRecursion P (drop n xs)
all_dropped P [] zero far = tt
all_dropped P [] (suc n) far = tt
all_dropped P (x ∷ xs) zero far = absurd (omega arith)
all_dropped P (x ∷ xs) (suc n) far = all_dropped P xs n (omega arith)

one_more : {X : Type 0} (P : X → Type 0) (xs : List X) (n : ℕ) (d : X) → n < length xs → P (get_or xs n d) → AllByRecursion P (drop (suc n) xs)
    → AllByRecursion P (drop n xs)
one_more P [] n d within this all = absurd (omega arith)
one_more P (x ∷ xs) zero d within this all = (this, all)
one_more P (x ∷ xs) (suc n) d within this all = one_more P xs n d (omega arith) this all

pub none_more : {X : Type 0} (P : X → Type 0) (xs : List X) (n m : ℕ) (d : X) → m ≡ n + 1 → n < length xs → P (get_or xs n d)
    → AllByRecursion P (drop m xs) → AllByRecursion P (drop n xs)
none_more P xs n m d is within this all =
    one_more P xs n d within this (subst (λ (k : ℕ). AllByRecursion P (drop k xs)) (let e : m ≡ suc n = omega arith in e) all)

-- A box in a place.

pub default_free : {X : Type 0} (xs : List X) (n : ℕ) (d e : X) → n < length xs → get_or xs n d ≡ get_or xs n e
default_free [] n d e within = absurd (omega arith)
default_free (x ∷ xs) zero d e within = refl
default_free (x ∷ xs) (suc n) d e within = default_free xs n d e (omega arith)

pub split_at : {X : Type 0} (xs : List X) (n : ℕ) (d : X) → n < length xs
    → (front : List X) × (back : List X) × (xs ≡ front ++ get_or xs n d ∷ back) × (remove xs n ≡ front ++ back)
split_at [] n d within = absurd (omega arith)
split_at (x ∷ xs) zero d within = ([], xs, refl, refl)
split_at {X} (x ∷ xs) (suc n) d within = let rest = split_at xs n d (omega arith) in
    (x ∷ rest.0, rest.1, ap (λ (l : List X). x ∷ l) rest.2, ap (λ (l : List X). x ∷ l) rest.3)

module _ {M : Type 0} where
  abbrev Ids : List (ℕ × M) → List ℕ
  Ids boxes = map (λ (one : ℕ × M). one.0) boxes

  pub taken_out : (id : ℕ) (old new : List (ℕ × M)) (place : ℕ) (one : ℕ × M) → place < length old → one ≡ get_or old place one → one.0 ≡ id
      → new ≡ remove old place → TakesOut id old new (Some one.1)
  taken_out id old new place one within at same left =
      let split = split_at old place one within in (
        split.0,
        split.1,
        split.2 ∙ ap (λ (x : ℕ × M). split.0 ++ x ∷ split.1) (sym at ∙ (λ i. (same i, one.1))),
        left ∙ split.3,
      )

  pub none_out : (id : ℕ) (boxes : List (ℕ × M)) → AllByRecursion (λ (one : ℕ × M). one.0 ≢ id) boxes → Contains (Ids boxes) id → ⊥
  none_out id boxes none held =
      let from = sent_from (λ (one : ℕ × M). one.0) boxes id held in all_has (λ (one : ℕ × M). one.0 ≢ id) boxes from.0 none from.1 from.2

  -- what holds of boxes holds of the one that is taken, and of the others
  split_all : (P : ℕ × M → Type 0) (front back : List (ℕ × M)) (one : ℕ × M) → AllByRecursion P (front ++ one ∷ back)
      → P one × AllByRecursion P (front ++ back)
  split_all P [] back one all = (all.0, all.1)
  split_all P (x ∷ front) back one all = let rest = split_all P front back one all.1 in (rest.0, (all.0, rest.1))

  split_held : (j : ℕ) (front back : List (ℕ × M)) (one : ℕ × M) → j ≢ one.0 → Contains (Ids (front ++ one ∷ back)) j → Contains (Ids (front ++ back)) j
  split_held j front back one apart held =
      subst (λ (l : List ℕ). Contains l j) (sym (map-append (λ (x : ℕ × M). x.0) front back))
      (go (Contains-append_cases (Ids front) (one.0 ∷ Ids back) j
      (subst (λ (l : List ℕ). Contains l j) (map-append (λ (x : ℕ × M). x.0) front (one ∷ back)) held)))
    where
      behind : Contains (one.0 ∷ Ids back) j → Contains (Ids back) j
      behind (zero, within, is) = absurd (apart (sym is))
      behind (suc k, within, is) = (k, omega arith, is)

      go : Contains (Ids front) j ⊎ Contains (one.0 ∷ Ids back) j → Contains (Ids front ++ Ids back) j
      go (inl there) = Contains-append_left (Ids front) (Ids back) j there
      go (inr there) = Contains-append_right (Ids front) (Ids back) j (behind there)

module _ {M : Type 0} (keep : M → Fixed) (heard : M → Option (List ℕ)) where
  kept_marks : (whole : List M) (kept : List (ℕ × M)) → AllByRecursion (TellsMarkOf keep heard whole) (told keep heard kept)
      → AllByRecursion (HasMarkOf keep heard whole) kept
  kept_marks whole [] all = tt
  kept_marks whole (one ∷ kept) all = (all.0, kept_marks whole kept all.1)

  nothing_behind : (whole : List M) → drop (length whole) whole ≡ []
  nothing_behind [] = refl
  nothing_behind (x ∷ whole) = nothing_behind whole

  pub back_none : (whole : List M) (boxes : List Told) (kept out : List (ℕ × M)) (bank : List M) (taken room : ℕ) → told keep heard kept ≡ boxes
      → IsOut keep heard whole boxes out bank taken room → IsBack keep heard whole taken kept out bank room
  back_none whole boxes kept out bank taken room are is = record {
    counted = is.counted;
    marks_are = ap (marks keep heard) is.rest_is;
    room_is = is.room_is;
    covers = λ j below. subst (λ (l : List ℕ). Contains l j ⊎ Contains (map (λ (one : ℕ × M). one.0) out) j)
        (ap (map (λ (t : Told). t.id)) (sym are) ∙ map-map (λ (t : Told). t.id) (λ (one : ℕ × M). told_as keep heard one.0 one.1) kept) (is.covers j below);
    kept_marks = kept_marks whole kept (subst (AllByRecursion (TellsMarkOf keep heard whole)) (sym are) is.marks);
    out_marks = is.out_marks;
  }

  placed : (k : ℕ) (xs : List M) (x : M) → slice_get xs k ≡ Some x → drop k xs ≡ x ∷ drop (suc k) xs
  placed k [] x e = absurd (cc)
  placed zero (y ∷ xs) x e = let same : y ≡ x = cc in ap (λ (z : M). z ∷ xs) same
  placed (suc k) (y ∷ xs) x e = placed k xs x e

  -- one box more is put back
  one_back : (whole : List M) (id : ℕ) (kept more out others : List (ℕ × M)) (bank next : List M) (room wide : ℕ) (method : M)
      → IsBack keep heard whole (suc id) kept out bank room → room ≤ wide → HasMarkOf keep heard whole (id, method)
      → AllByRecursion (HasMarkOf keep heard whole) more → AllByRecursion (HasMarkOf keep heard whole) others
      → ((j : ℕ) → j < id → Contains (map (λ (one : ℕ × M). one.0) more) j ⊎ Contains (map (λ (one : ℕ × M). one.0) others) j)
      → next ≡ method ∷ bank → IsBack keep heard whole id more others next wide
  one_back whole id kept more out others bank next room wide method is wider mark alls outs covers put = record {
    counted = omega (arith, is.counted, ap length put);
    marks_are = ap (marks keep heard) put ∙ (λ i. mark.2 i ∷ is.marks_are i)
        ∙ ap (marks keep heard) (sym (placed id whole mark.0 mark.1));
    room_is = let room_is = is.room_is in omega arith;
    covers = covers;
    kept_marks = alls;
    out_marks = outs;
  }

  pub back_more : (whole : List M) (id : ℕ) (kept more out others : List (ℕ × M)) (bank next : List M) (room wide : ℕ) (result : Option M)
      → IsBack keep heard whole (suc id) kept out bank room → room ≤ wide → TakesEither id kept more out others result
      → (length bank < room → next ≡ option_to_list result ++ bank) → IsBack keep heard whole id more others next wide
  back_more whole id kept more out others bank next room wide None is wider (inl (some, taken, same)) put = absurd (cc)
  back_more whole id kept more out others bank next room wide None is wider (inr (none, same, taken)) put = absurd (never (is.covers id (omega arith)))
    where
      never : Contains (map (λ (one : ℕ × M). one.0) kept) id ⊎ Contains (map (λ (one : ℕ × M). one.0) out) id → ⊥
      never (inl held) = none held
      never (inr held) = taken.0 held
  back_more whole id kept more out others bank next room wide (Some method) is wider (inl (some, (front, back, were, left), same)) put =
      let parts = split_all (HasMarkOf keep heard whole) front back (id, method) (subst (AllByRecursion (HasMarkOf keep heard whole)) were is.kept_marks) in
      let counted = is.counted in
      let room_is = is.room_is in
      one_back whole id kept more out others bank next room wide method is wider parts.0
      (subst (AllByRecursion (HasMarkOf keep heard whole)) (sym left) parts.1)
      (subst (AllByRecursion (HasMarkOf keep heard whole)) (sym same) is.out_marks)
      (λ j below. go j (λ e. absurd (omega arith)) (is.covers j (omega arith))) (put (omega arith))
    where
      go : (j : ℕ) → j ≢ id → Contains (map (λ (one : ℕ × M). one.0) kept) j ⊎ Contains (map (λ (one : ℕ × M). one.0) out) j
          → Contains (map (λ (one : ℕ × M). one.0) more) j ⊎ Contains (map (λ (one : ℕ × M). one.0) others) j
      go j apart (inl held) = inl (subst (λ (l : List (ℕ × M)). Contains (map (λ (one : ℕ × M). one.0) l) j) (sym left)
          (split_held j front back (id, method) apart (subst (λ (l : List (ℕ × M)). Contains (map (λ (one : ℕ × M). one.0) l) j) were held)))
      go j apart (inr held) = inr (subst (λ (l : List (ℕ × M)). Contains (map (λ (one : ℕ × M). one.0) l) j) (sym same) held)
  back_more whole id kept more out others bank next room wide (Some method) is wider (inr (none, same, (front, back, were, left))) put =
      let parts = split_all (HasMarkOf keep heard whole) front back (id, method) (subst (AllByRecursion (HasMarkOf keep heard whole)) were is.out_marks) in
      let counted = is.counted in
      let room_is = is.room_is in
      one_back whole id kept more out others bank next room wide method is wider parts.0
      (subst (AllByRecursion (HasMarkOf keep heard whole)) (sym same) is.kept_marks)
      (subst (AllByRecursion (HasMarkOf keep heard whole)) (sym left) parts.1)
      (λ j below. go j (λ e. absurd (omega arith)) (is.covers j (omega arith))) (put (omega arith))
    where
      go : (j : ℕ) → j ≢ id → Contains (map (λ (one : ℕ × M). one.0) kept) j ⊎ Contains (map (λ (one : ℕ × M). one.0) out) j
          → Contains (map (λ (one : ℕ × M). one.0) more) j ⊎ Contains (map (λ (one : ℕ × M). one.0) others) j
      go j apart (inl held) = inl (subst (λ (l : List (ℕ × M)). Contains (map (λ (one : ℕ × M). one.0) l) j) (sym same) held)
      go j apart (inr held) = inr (subst (λ (l : List (ℕ × M)). Contains (map (λ (one : ℕ × M). one.0) l) j) (sym left)
          (split_held j front back (id, method) apart (subst (λ (l : List (ℕ × M)). Contains (map (λ (one : ℕ × M). one.0) l) j) were held)))

  pub back_all : (whole : List M) (kept out : List (ℕ × M)) (bank : List M) (room : ℕ) → IsBack keep heard whole 0 kept out bank room
      → marks keep heard bank ≡ marks keep heard whole
  back_all whole kept out bank room is = is.marks_are
