-- A text without odd bytes that begins with a slash is a pattern.
use Rattle.std.proofs.Common.{◌≡◌, inl, inr, ℕ, zero, suc, ◌+◌, ◌*◌, ◌≤◌, Bool, true, false, cond, ◌||◌, ◌==◌, ltb, Result, Ok, Err, List, [], ◌∷◌}
use Rattle.std.proofs.Common.{length, take, drop, map, not, eqb, ◌-◌, length-drop, refl, arith, sym, ap, subst, ◌∙◌, None}
use Rattle.std.specs.Prelude.{All}
use Rattle.std.specs.List.{list_any, flat_map, slice_split, onto_first}
use Rattle.std.specs.Simd.Lanes.{mask_l, chunk}
use Rattle.std.proofs.lemmas.Bool.{or_parts}
use Rattle.std.proofs.lemmas.Bool.Decides.{nat_tests}
use Rattle.std.proofs.lemmas.List.Elements.{All-cons, All-nil, All-head, All-tail}
use Rattle.std.proofs.lemmas.List.{take_all}
use Rattle.std.proofs.lemmas.List.Folds.{list_any-append}
use Rattle.osc_pattern.specs.Items.{Item, item_text, is_slash}
use Rattle.osc_pattern.specs.Parts.{IsLawfulPart}
use Rattle.osc_pattern.specs.Reading.{read_part}
use Rattle.osc_pattern.specs.Patterns.{begins_with_slash, parts_of, is_outside, pattern_fault}
use Rattle.osc_pattern.specs.Bare.{is_odd}
use Rattle.osc_pattern.proofs.Readings.{FirstItem, IsRead, IsStuck, first_item-found, read_part-read}
use Rattle.osc_pattern.proofs.PatternLaws.{HasNoSlash, parts_of-no_slash, IsPattern-read}

-- a byte that opens a bracket
abbrev opens : ℕ → Bool
opens byte = byte == 91 || byte == 123

abbrev OpensNone : List ℕ → Type 0
OpensNone part = list_any opens part ≡ false

even_opens : (x : ℕ) → is_odd x ≡ false → opens x ≡ false
even_opens x even = (or_parts (is_outside x) (opens x) even).1

even_inside : (x : ℕ) → is_odd x ≡ false → is_outside x ≡ false
even_inside x even = (or_parts (is_outside x) (opens x) even).0

none_of : (p q : ℕ → Bool) → ((x : ℕ) → p x ≡ false → q x ≡ false) → (xs : List ℕ) → list_any p xs ≡ false → list_any q xs ≡ false
none_of p q less [] none = refl
none_of p q less (x ∷ xs) none =
    let both = or_parts (p x) (list_any p xs) none in rw (less x both.0) (none_of p q less xs both.1)

not_open : (x : ℕ) → x ≡ 91 → opens x ≡ false → false ≡ true
not_open x e none = grind (arith, nat_tests)

not_set : (x : ℕ) → x ≡ 123 → opens x ≡ false → false ≡ true
not_set x e none = grind (arith, nat_tests)

-- a part that begins with no item begins with a bracket or a slash
stuck_opens : (rest : List ℕ) → IsStuck rest → 1 ≤ length rest → list_any opens rest ≡ false → list_any is_slash rest ≡ false → false ≡ true
stuck_opens [] stuck long none slash = absurd (omega arith)
stuck_opens (x ∷ xs) (inl (inl (e, shut))) long none slash =
    let one = (or_parts (opens x) (list_any opens xs) none).0 in not_open x e one
stuck_opens (x ∷ xs) (inl (inr (e, shut))) long none slash =
    let one = (or_parts (opens x) (list_any opens xs) none).0 in not_set x e one
stuck_opens (x ∷ xs) (inr e) long none slash =
    let one = (or_parts (is_slash x) (list_any is_slash xs) slash).0 in absurd (cc)

lawful_part : (part : List ℕ) → OpensNone part → HasNoSlash part → IsLawfulPart part
lawful_part part none slash = go (read_part part) (read_part-read part) where
  go : (r : Result (List Item) ℕ) → IsRead part r → IsLawfulPart part
  go (Ok items) read = (items, read)
  go (Err at) (items, rest, spelled, lawful, place, stuck, long) =
      let found : IsStuck rest = subst (FirstItem rest) stuck (first_item-found rest) in
      let opened = sym (list_any-append opens (flat_map item_text items) rest) ∙ ap (list_any opens) (sym spelled) ∙ none in
      let slashed = sym (list_any-append is_slash (flat_map item_text items) rest) ∙ ap (list_any is_slash) (sym spelled) ∙ slash in
      let clash = stuck_opens rest found long (or_parts (list_any opens (flat_map item_text items)) (list_any opens rest) opened).1
      (or_parts (list_any is_slash (flat_map item_text items)) (list_any is_slash rest) slashed).1 in
      absurd (cc)

each_lawful : (parts : List (List ℕ)) → All OpensNone parts → All HasNoSlash parts → All IsLawfulPart parts
each_lawful [] none slash = All-nil IsLawfulPart
each_lawful (part ∷ parts) none slash =
    All-cons IsLawfulPart part parts (lawful_part part (All-head OpensNone part parts none) (All-head HasNoSlash part parts slash))
    (each_lawful parts (All-tail OpensNone part parts none) (All-tail HasNoSlash part parts slash))

onto_opens : (x : ℕ) (parts : List (List ℕ)) → opens x ≡ false → All OpensNone parts → All OpensNone (onto_first x parts)
onto_opens x [] one all = All-cons OpensNone (x ∷ []) [] (rw one refl) (All-nil OpensNone)
onto_opens x (part ∷ parts) one all =
    All-cons OpensNone (x ∷ part) parts (rw one (All-head OpensNone part parts all)) (All-tail OpensNone part parts all)

split_opens : (xs : List ℕ) → list_any opens xs ≡ false → All OpensNone (slice_split is_slash xs)
split_opens [] none = All-cons OpensNone [] [] refl (All-nil OpensNone)
split_opens (x ∷ xs) none =
    let both = or_parts (opens x) (list_any opens xs) none in go (is_slash x) both.0 (split_opens xs both.1) where
      go : (t : Bool) → opens x ≡ false → All OpensNone (slice_split is_slash xs)
          → All OpensNone (cond t ([] ∷ slice_split is_slash xs) (onto_first x (slice_split is_slash xs)))
      go true one all = All-cons OpensNone [] (slice_split is_slash xs) refl all
      go false one all = onto_opens x (slice_split is_slash xs) one all

parts_open : (bytes : List ℕ) → list_any opens bytes ≡ false → All OpensNone (parts_of bytes)
parts_open [] none = All-nil OpensNone
parts_open (x ∷ xs) none = split_opens xs (or_parts (opens x) (list_any opens xs) none).1

pub bare_pattern : (bytes : List ℕ) → begins_with_slash bytes ≡ true → list_any is_odd bytes ≡ false → pattern_fault bytes ≡ None
bare_pattern bytes slash even = IsPattern-read bytes (record {
  slash = slash;
  inside = none_of is_odd is_outside even_inside bytes even;
  parts = each_lawful (parts_of bytes) (parts_open bytes (none_of is_odd opens even_opens bytes even)) (parts_of-no_slash bytes);
})

pub empty_mask : (n : ℕ) → not (eqb n 0) ≡ false → n ≡ 0
empty_mask n none = grind (arith, nat_tests)

-- what no lane is whose mask is empty
pub mask_none : (p : ℕ → Bool) (xs : List ℕ) → mask_l (map p xs) ≡ 0 → list_any p xs ≡ false
mask_none p [] none = refl
mask_none p (x ∷ xs) none = go (p x) none (mask_none p xs) where
  go : (t : Bool) → cond t 1 0 + 2 * mask_l (map p xs) ≡ 0 → (mask_l (map p xs) ≡ 0 → list_any p xs ≡ false) → (t || list_any p xs) ≡ false
  go true none more = absurd (omega arith)
  go false none more = more (omega arith)

-- no byte is odd of which each test says no
pub even_lanes : (xs : List ℕ) → list_any (λ x. ltb x 32) xs ≡ false → list_any (λ x. ltb 126 x) xs ≡ false → list_any (λ x. x == 91) xs ≡ false
    → list_any (λ x. x == 123) xs ≡ false → list_any is_odd xs ≡ false
even_lanes [] below above lists choices = refl
even_lanes (x ∷ xs) below above lists choices =
    let a = or_parts (ltb x 32) (list_any (λ x. ltb x 32) xs) below in
    let b = or_parts (ltb 126 x) (list_any (λ x. ltb 126 x) xs) above in
    let c = or_parts (x == 91) (list_any (λ x. x == 91) xs) lists in
    let d = or_parts (x == 123) (list_any (λ x. x == 123) xs) choices in
    rw (even_byte x a.0 b.0 c.0 d.0) (even_lanes xs a.1 b.1 c.1 d.1)
  where
    even_byte : (x : ℕ) → ltb x 32 ≡ false → ltb 126 x ≡ false → (x == 91) ≡ false → (x == 123) ≡ false → is_odd x ≡ false
    even_byte x a b c d = grind (arith, nat_tests)

-- a beginning and an end that overlap are all
pub none_around : (p : ℕ → Bool) (a b : ℕ) (xs : List ℕ) → b ≤ a → list_any p (take a xs) ≡ false → list_any p (drop b xs) ≡ false → list_any p xs ≡ false
none_around p a zero xs le front back = back
none_around p zero (suc b) xs le front back = absurd (omega arith)
none_around p (suc a) (suc b) [] le front back = refl
none_around p (suc a) (suc b) (x ∷ xs) le front back =
    let both = or_parts (p x) (list_any p (take a xs)) front in rw both.0 (none_around p a b xs (omega arith) both.1 back)

-- the last lanes are all that is left
pub last_chunk : (n : ℕ) (xs : List ℕ) → n ≤ length xs → chunk (length xs - n) n xs ≡ drop (length xs - n) xs
last_chunk n xs le = take_all n (drop (length xs - n) xs) (omega (arith, length-drop (length xs - n) xs))
