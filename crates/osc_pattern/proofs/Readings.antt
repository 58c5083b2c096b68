-- Parts read as items.
use Rattle.std.proofs.Common.{◌≡◌, ◌⊎◌, inl, inr, ℕ, zero, suc, ◌+◌, ◌<◌, ◌≤◌, Bool, true, false, ◌&&◌, ◌||◌, ◌==◌, not, Option, Some, None, Result, Ok, Err}
use Rattle.std.proofs.Common.{List, [], ◌∷◌, ◌++◌, length, refl, arith, sym, ap, subst, ◌∙◌}
use Rattle.std.specs.Prelude.{◌↔◌, option_map, if◌then◌else◌, IsTrue}
use Rattle.std.specs.List.{list_all, flat_map}
use Rattle.std.proofs.Math.ListN.{length-append}
use Rattle.std.proofs.lemmas.List.{append_assoc}
use Rattle.std.proofs.lemmas.Bool.{eqb-true, not-true}
use Rattle.osc_pattern.specs.Items.{Item, any, star, set, choice, plain, item_text, is_item, is_slash, is_list_end, is_choice_end}
use Rattle.osc_pattern.specs.Parts.{IsPart}
use Rattle.osc_pattern.specs.Patterns.{IsUnclosed}
use Rattle.osc_pattern.specs.Reading.{cut_at, first_item, with_first, read_within, read_part}
use Rattle.osc_pattern.proofs.Cutting.{CutAt, cut_at-cuts, cut_at-first}

-- a part that begins with no item is empty, or begins with a bracket that isn't closed, or with a slash
abbrev pub IsStuck : List ℕ → Type 0
IsStuck [] = Unit {0}
IsStuck (first ∷ rest) = IsUnclosed first rest ⊎ (is_slash first ≡ true)

-- the first item of a part is written before what follows it
abbrev pub FirstItem : List ℕ → Option (Item × List ℕ) → Type 0
FirstItem part None = IsStuck part
FirstItem part (Some found) = (part ≡ item_text found.0 ++ found.1) × (is_item found.0 ≡ true)

pub first_item-found : (part : List ℕ) → FirstItem part (first_item part)
first_item-found [] = tt
first_item-found (x ∷ xs) = by_any (x == 63) refl where
  by_set : (o : Option (List ℕ × List ℕ)) → CutAt is_list_end xs o → x ≡ 91 → FirstItem (x ∷ xs) (option_map (λ cut. (set cut.0, cut.1)) o)
  by_set None none e = inl (inl (e, none))
  by_set (Some (list, rest)) (byte, spelled, at, none) e =
      let b : byte ≡ 93 = eqb-true byte 93 at in
      (rw (e, spelled, b) (ap (λ t. 91 ∷ t) (sym (append_assoc list (93 ∷ []) rest))), ap not none)

  by_choice : (o : Option (List ℕ × List ℕ)) → CutAt is_choice_end xs o → x ≡ 123 → FirstItem (x ∷ xs) (option_map (λ cut. (choice cut.0, cut.1)) o)
  by_choice None none e = inl (inr (e, none))
  by_choice (Some (texts, rest)) (byte, spelled, at, none) e =
      let b : byte ≡ 125 = eqb-true byte 125 at in
      (rw (e, spelled, b) (ap (λ t. 123 ∷ t) (sym (append_assoc texts (125 ∷ []) rest))), ap not none)

  by_slash : (t : Bool) → is_slash x ≡ t → (x == 63) ≡ false → (x == 42) ≡ false → (x == 91) ≡ false → (x == 123) ≡ false
      → FirstItem (x ∷ xs) (if t then None else Some (plain x, xs))
  by_slash true s a b c d = inr s
  by_slash false s a b c d = (refl, rw (a, b, c, d, s) refl)

  by_brace : (t : Bool) → (x == 123) ≡ t → (x == 63) ≡ false → (x == 42) ≡ false → (x == 91) ≡ false
      → FirstItem (x ∷ xs) (if t then option_map (λ cut. (choice cut.0, cut.1)) (cut_at is_choice_end xs)
      else (if is_slash x then None else Some (plain x, xs)))
  by_brace true d a b c = by_choice (cut_at is_choice_end xs) (cut_at-cuts is_choice_end xs) (eqb-true x 123 d)
  by_brace false d a b c = by_slash (is_slash x) refl a b c d

  by_bracket : (t : Bool) → (x == 91) ≡ t → (x == 63) ≡ false → (x == 42) ≡ false
      → FirstItem (x ∷ xs) (if t then option_map (λ cut. (set cut.0, cut.1)) (cut_at is_list_end xs)
      else (if x == 123 then option_map (λ cut. (choice cut.0, cut.1)) (cut_at is_choice_end xs) else (if is_slash x then None else Some (plain x, xs))))
  by_bracket true c a b = by_set (cut_at is_list_end xs) (cut_at-cuts is_list_end xs) (eqb-true x 91 c)
  by_bracket false c a b = by_brace (x == 123) refl a b c

  by_star : (t : Bool) → (x == 42) ≡ t → (x == 63) ≡ false
      → FirstItem (x ∷ xs)
      (if t then Some (star, xs)
      else (if x == 91 then option_map (λ cut. (set cut.0, cut.1)) (cut_at is_list_end xs)
      else (if x == 123 then option_map (λ cut. (choice cut.0, cut.1)) (cut_at is_choice_end xs) else (if is_slash x then None else Some (plain x, xs)))))
  by_star true b a = (ap (λ y. y ∷ xs) (eqb-true x 42 b), refl)
  by_star false b a = by_bracket (x == 91) refl a b

  by_any : (t : Bool) → (x == 63) ≡ t
      → FirstItem (x ∷ xs)
      (if t then Some (any, xs)
      else (if x == 42 then Some (star, xs)
      else (if x == 91 then option_map (λ cut. (set cut.0, cut.1)) (cut_at is_list_end xs)
      else (if x == 123 then option_map (λ cut. (choice cut.0, cut.1)) (cut_at is_choice_end xs) else (if is_slash x then None else Some (plain x, xs))))))
  by_any true a = (ap (λ y. y ∷ xs) (eqb-true x 63 a), refl)
  by_any false a = by_star (x == 42) refl a

none_of : (a b c d e : Bool) → not (a || b || c || d || e) ≡ true → (a ≡ false) × (b ≡ false) × (c ≡ false) × (d ≡ false) × (e ≡ false)
none_of true b c d e h = absurd (cc)
none_of false true c d e h = absurd (cc)
none_of false false true d e h = absurd (cc)
none_of false false false true e h = absurd (cc)
none_of false false false false true h = absurd (cc)
none_of false false false false false h = (refl, refl, refl, refl, refl)

-- a part that is written as an item and more begins with that item
pub first_item-written : (item : Item) (rest : List ℕ) → is_item item ≡ true → first_item (item_text item ++ rest) ≡ Some (item, rest)
first_item-written any rest lawful = refl
first_item-written star rest lawful = refl
first_item-written (set list) rest lawful =
    rw (append_assoc list (93 ∷ []) rest) (ap (option_map (λ cut. (set cut.0, cut.1))) (cut_at-first is_list_end list 93 rest (not-true _ lawful) refl))
first_item-written (choice texts) rest lawful =
    rw (append_assoc texts (125 ∷ []) rest) (ap (option_map (λ cut. (choice cut.0, cut.1)))
    (cut_at-first is_choice_end texts 125 rest (not-true _ lawful) refl))
first_item-written (plain byte) rest lawful =
    let none = none_of (byte == 63) (byte == 42) (byte == 91) (byte == 123) (is_slash byte) lawful in
    rw (none.0, none.1, none.2, none.3, none.4) refl

pub item_text-long : (item : Item) → 1 ≤ length (item_text item)
item_text-long any = omega arith
item_text-long star = omega arith
item_text-long (set list) = omega arith
item_text-long (choice texts) = omega arith
item_text-long (plain byte) = omega arith

-- what follows an item is shorter
abbrev pub Shorter : ℕ → Option (Item × List ℕ) → Type 0
Shorter size None = Unit {0}
Shorter size (Some found) = length found.1 < size

pub first_item-shorter : (part : List ℕ) → Shorter (length part) (first_item part)
first_item-shorter part = go (first_item part) (first_item-found part) where
  go : (o : Option (Item × List ℕ)) → FirstItem part o → Shorter (length part) o
  go None stuck = tt
  go (Some (item, rest)) found = rw found.0 (omega (arith, length-append (item_text item) rest, item_text-long item))

read_within-enough : (m n : ℕ) (part : List ℕ) → length part ≤ m → length part ≤ n → read_within m part ≡ read_within n part
read_within-enough m n [] l h = refl
read_within-enough zero n (x ∷ xs) l h = absurd (omega arith)
read_within-enough (suc m) zero (x ∷ xs) l h = absurd (omega arith)
read_within-enough (suc m) (suc n) (x ∷ xs) l h =
    ap with_first (go (first_item (x ∷ xs)) (first_item-shorter (x ∷ xs)) (λ part. read_within-enough m n part)) where
      go : (o : Option (Item × List ℕ)) → Shorter (length (x ∷ xs)) o
          → ((part : List ℕ) → length part ≤ m → length part ≤ n → read_within m part ≡ read_within n part)
          → option_map {U = Item × Result (List Item) ℕ} (λ cut. (cut.0, read_within m cut.1)) o ≡ option_map (λ cut. (cut.0, read_within n cut.1)) o
      go None short same = refl
      go (Some (item, rest)) short same = ap (λ r. Some (item, r)) (same rest (omega arith) (omega arith))

pub read_part-nil : read_part [] ≡ Ok []
unfolding read_part
read_part-nil = refl

-- a part is read item by item
pub read_part-first : (x : ℕ) (xs : List ℕ) → read_part (x ∷ xs) ≡ with_first (option_map (λ cut. (cut.0, read_part cut.1)) (first_item (x ∷ xs)))
unfolding read_part
read_part-first x xs = ap with_first (go (first_item (x ∷ xs)) (first_item-shorter (x ∷ xs))) where
  go : (o : Option (Item × List ℕ)) → Shorter (length (x ∷ xs)) o
      → option_map {U = Item × Result (List Item) ℕ} (λ cut. (cut.0, read_within (length xs) cut.1)) o
      ≡ option_map (λ cut. (cut.0, read_within (length cut.1) cut.1)) o
  go None short = refl
  go (Some (item, rest)) short = ap (λ r. Some (item, r)) (read_within-enough (length xs) (length rest) rest (omega arith) (omega arith))

pub read_part-item : (part : List ℕ) (item : Item) (rest : List ℕ) → first_item part ≡ Some (item, rest)
    → read_part part ≡ with_first (Some (item, read_part rest))
read_part-item [] item rest e = absurd (cc)
read_part-item (x ∷ xs) item rest e = read_part-first x xs ∙ ap (λ o. with_first (option_map (λ cut. (cut.0, read_part cut.1)) o)) e

pub read_part-stuck : (x : ℕ) (xs : List ℕ) → first_item (x ∷ xs) ≡ None → read_part (x ∷ xs) ≡ Err 0
read_part-stuck x xs e = read_part-first x xs ∙ ap (λ o. with_first (option_map (λ cut. (cut.0, read_part cut.1)) o)) e

-- a part that is written as lawful items is read as these
pub read_part-written : (items : List Item) → list_all is_item items ≡ true → read_part (flat_map item_text items) ≡ Ok items
read_part-written [] lawful = read_part-nil
read_part-written (item ∷ items) lawful =
    let both = both_true (is_item item) (list_all is_item items) lawful in
    read_part-item _ item _ (first_item-written item (flat_map item_text items) both.0) ∙ ap (λ r. with_first (Some (item, r))) (read_part-written items both.1)
  where
    both_true : (a b : Bool) → (a && b) ≡ true → (a ≡ true) × (b ≡ true)
    both_true true b e = (refl, e)
    both_true false b e = absurd (cc)

pub IsPart-read : (part : List ℕ) (items : List Item) → IsPart part items → read_part part ≡ Ok items
IsPart-read part items lawful = ap read_part lawful.spelled ∙ read_part-written items lawful.lawful

-- what the reading of a part says: its items, or items before a bracket that isn't closed
abbrev pub IsRead : List ℕ → Result (List Item) ℕ → Type 0
IsRead part (Ok items) = IsPart part items
IsRead part (Err at) = (items : List Item) × (rest : List ℕ) × (part ≡ flat_map item_text items ++ rest) × IsTrue (list_all is_item items)
    × (at ≡ length (flat_map item_text items)) × (first_item rest ≡ None) × (1 ≤ length rest)

read_first : (part : List ℕ) (item : Item) (rest : List ℕ) → part ≡ item_text item ++ rest → is_item item ≡ true → (r : Result (List Item) ℕ) → IsRead rest r
    → IsRead part (with_first (Some (item, r)))
read_first part item rest spelled lawful (Ok items) read = record {
  spelled = spelled ∙ ap (λ t. item_text item ++ t) read.spelled;
  lawful = rw lawful read.lawful;
}
read_first part item rest spelled lawful (Err at) (items, after, more, all, place, stuck, long) = (
  item ∷ items,
  after,
  spelled ∙ ap (λ t. item_text item ++ t) more ∙ sym (append_assoc (item_text item) (flat_map item_text items) after),
  rw lawful all,
  ap (λ n. length (item_text item) + n) place ∙ sym (length-append (item_text item) (flat_map item_text items)),
  stuck,
  long,
)

read_within-read : (most : ℕ) (part : List ℕ) → length part ≤ most → IsRead part (read_within most part)
read_within-read most [] short = record { spelled = refl; lawful = refl }
read_within-read zero (x ∷ xs) short = absurd (omega arith)
read_within-read (suc most) (x ∷ xs) short =
    go (first_item (x ∷ xs)) refl (first_item-found (x ∷ xs)) (first_item-shorter (x ∷ xs)) (read_within-read most) where
      go : (o : Option (Item × List ℕ)) → first_item (x ∷ xs) ≡ o → FirstItem (x ∷ xs) o → Shorter (length (x ∷ xs)) o
          → ((part : List ℕ) → length part ≤ most → IsRead part (read_within most part))
          → IsRead (x ∷ xs) (with_first (option_map {U = Item × Result (List Item) ℕ} (λ cut. (cut.0, read_within most cut.1)) o))
      go None stuck found shorter more = ([], x ∷ xs, refl, refl, refl, stuck, omega arith)
      go (Some (item, rest)) e found shorter more = read_first (x ∷ xs) item rest found.0 found.1 (read_within most rest) (more rest (omega arith))

pub read_part-read : (part : List ℕ) → IsRead part (read_part part)
unfolding read_part
read_part-read part = read_within-read (length part) part (omega arith)

ok_same : (a b : List Item) (r : Result (List Item) ℕ) → r ≡ Ok a → r ≡ Ok b → a ≡ b
ok_same a b r e f = cc

-- a part has at most one reading
pub one_reading : (part : List ℕ) (first second : List Item) → IsPart part first → IsPart part second → first ≡ second
one_reading part first second a b = ok_same first second (read_part part) (IsPart-read part first a) (IsPart-read part second b)

-- reading a part finds the items that it is made of
pub read_part-exact : (part : List ℕ) → (items : List Item) → ((read_part part ≡ Ok items) ↔ IsPart part items)
read_part-exact part items = (λ e. subst (IsRead part) e (read_part-read part), IsPart-read part items)
