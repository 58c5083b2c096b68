-- What is left of a name at the places that a pattern's items reach.
use Rattle.std.proofs.Common.{◌≡◌, ℕ, ◌+◌, ◌*◌, ◌-◌, ◌^◌, ◌%◌, ◌<◌, ◌≤◌, Bool, true, false, ◌||◌, ◌&&◌, ◌==◌, Some, None, List, [], ◌∷◌, ◌++◌}
use Rattle.std.proofs.Common.{length, take, drop, refl, arith, sym, ap, subst, ◌∙◌, w64}
use Rattle.std.specs.Prelude.{if◌then◌else◌}
use Rattle.std.specs.Int.{bit_at}
use Rattle.std.specs.Int.RustNames.{bit_or}
use Rattle.std.specs.List.{list_any}
use Rattle.std.proofs.Math.ListN.{get_or, length-append}
use Rattle.std.proofs.lemmas.List.{length-take-le, take-append-drop, take_rest, drop-drop}
use native.Mathlib.Nat.{add-mul, mul-add}
use Rattle.std.proofs.lemmas.Nat.Bits.{bit_at_set_same, bit_at_set_other}
use Rattle.std.proofs.lemmas.Bool.Decides.{nat_tests}
use Rattle.osc_pattern.specs.Items.{Item, item_text}
use Rattle.osc_pattern.specs.Cuts.{after_item, any_rest}
use Rattle.osc_pattern.specs.Reading.{first_item, match_part}
use Rattle.osc_pattern.proofs.Readings.{FirstItem, first_item-found}
use Rattle.osc_pattern.proofs.Matches.{match_part-item, match_part-stuck}

-- one place is added
abbrev pub Added : ℕ → (ℕ → Bool) → (ℕ → Bool) → Type 0
Added place old new = (other : ℕ) → new other ≡ (other == place || old other)

pub bits-added : (bits place : ℕ) → place < 64
    → Added place (λ other. bit_at bits other == 1) (λ other. bit_at (bit_or bits (1 * 2 ^ place % 2 ^ 64)) other == 1)
bits-added bits place within other = go (other == place) refl where
  go : (t : Bool) → (other == place) ≡ t → (bit_at (bit_or bits (1 * 2 ^ place % 2 ^ 64)) other == 1) ≡ (t || bit_at bits other == 1)
  go true e =
      let same : other ≡ place = grind (arith, nat_tests) in
      rw same (rw (bit_at_set_same w64 bits place within) refl)
  go false e = ap (λ bit. bit == 1) (bit_at_set_other w64 bits place within other (λ same. (let h : (other == place) ≡ true = grind (arith, nat_tests) in cc)))

other_place : (old new : ℕ → Bool) (place other : ℕ) → Added place old new → (other == place) ≡ false → new other ≡ old other
other_place old new place other added e = added other ∙ ap (λ t. t || old other) e

own_place : (old new : ℕ → Bool) (place : ℕ) → Added place old new → new place ≡ true
own_place old new place added = added place ∙ (let e : (place == place) ≡ true = grind (arith, nat_tests) in ap (λ t. t || old place) e)

or_assoc : (a b c : Bool) → (a || (b || c)) ≡ ((a || b) || c)
or_assoc true b c = refl
or_assoc false b c = refl

own_end : (o t : Bool) → t ≡ ((o && t) || t)
own_end true true = refl
own_end true false = refl
own_end false t = refl

own_more : (o t m : Bool) → (t || m) ≡ (((o && t) || m) || t)
own_more true true m = refl
own_more true false true = refl
own_more true false false = refl
own_more false true true = refl
own_more false true false = refl
own_more false false true = refl
own_more false false false = refl

pub any_rest-none : (test : List ℕ → Bool) (places : ℕ → Bool) → ((place : ℕ) → places place ≡ false) → (at : ℕ) (name : List ℕ)
    → any_rest test places at name ≡ false
any_rest-none test places none at [] = rw (none at) refl
any_rest-none test places none at (byte ∷ name) = rw (none at, any_rest-none test places none (at + 1) name) refl

-- a place before these changes nothing
any_rest-before : (test : List ℕ → Bool) (old new : ℕ → Bool) (place : ℕ) → Added place old new → (at : ℕ) (name : List ℕ) → place < at
    → any_rest test new at name ≡ any_rest test old at name
any_rest-before test old new place added at [] before =
    let apart : (at == place) ≡ false = grind (arith, nat_tests) in rw (other_place old new place at added apart) refl
any_rest-before test old new place added at (byte ∷ name) before =
    let apart : (at == place) ≡ false = grind (arith, nat_tests) in
    rw (other_place old new place at added apart, any_rest-before test old new place added (at + 1) name (omega arith)) refl

any_rest-within : (test : List ℕ → Bool) (old new : ℕ → Bool) (place : ℕ) → Added place old new → (front rest : List ℕ) (at : ℕ) → place ≡ at + length front
    → any_rest test new at (front ++ rest) ≡ (any_rest test old at (front ++ rest) || test rest)
any_rest-within test old new place added [] rest at e = go rest where
  here : new at ≡ true
  here = (let same : at ≡ place = omega arith in rw same (own_place old new place added))

  go : (rest : List ℕ) → any_rest test new at rest ≡ (any_rest test old at rest || test rest)
  go [] = rw here (own_end (old at) (test []))
  go (byte ∷ rest) =
      rw (here, any_rest-before test old new place added (at + 1) rest (omega arith)) (own_more (old at) (test (byte ∷ rest)) (any_rest test old (at + 1) rest))
any_rest-within test old new place added (byte ∷ front) rest at e =
    let apart : (at == place) ≡ false = grind (arith, nat_tests) in
    rw (other_place old new place at added apart, any_rest-within test old new place added front rest (at + 1) (omega arith))
    (or_assoc (old at && test (byte ∷ front ++ rest)) (any_rest test old (at + 1) (front ++ rest)) (test rest))

-- what is left at the added place is one more
pub any_rest-added : (test : List ℕ → Bool) (old new : ℕ → Bool) (place : ℕ) (name : List ℕ) → Added place old new → place ≤ length name
    → any_rest test new 0 name ≡ (any_rest test old 0 name || test (drop place name))
any_rest-added test old new place name added within =
    subst (λ whole. any_rest test new 0 whole ≡ (any_rest test old 0 whole || test (drop place name))) (take-append-drop place name)
    (any_rest-within test old new place added (take place name) (drop place name) 0 (omega (arith, length-take-le place name within)))

-- tests that agree
pub any_rest-same : (f g : List ℕ → Bool) → ((rest : List ℕ) → f rest ≡ g rest) → (places : ℕ → Bool) (at : ℕ) (name : List ℕ)
    → any_rest f places at name ≡ any_rest g places at name
any_rest-same f g same places at [] = rw (same []) refl
any_rest-same f g same places at (byte ∷ name) = rw (same (byte ∷ name), any_rest-same f g same places (at + 1) name) refl

-- the start: the first place alone
pub any_rest-first : (test : List ℕ → Bool) (none first : ℕ → Bool) → ((place : ℕ) → none place ≡ false) → Added 0 none first → (name : List ℕ)
    → any_rest test first 0 name ≡ test name
any_rest-first test none first empty added name = any_rest-added test none first 0 name added (omega arith)
    ∙ ap (λ t. t || test name) (any_rest-none test none empty 0 name)

-- the end: the last place
and_true : (t : Bool) → (t && true) ≡ t
and_true true = refl
and_true false = refl

and_false : (t : Bool) → (t && false) ≡ false
and_false true = refl
and_false false = refl

pub any_rest-never : (places : ℕ → Bool) (at : ℕ) (name : List ℕ) → any_rest (λ rest. false) places at name ≡ false
any_rest-never places at [] = and_false (places at)
any_rest-never places at (byte ∷ name) = rw (and_false (places at)) (any_rest-never places (at + 1) name)

any_rest-last : (places : ℕ → Bool) (at : ℕ) (name : List ℕ) → any_rest (λ rest. length rest == 0) places at name ≡ places (at + length name)
any_rest-last places at [] = and_true (places at) ∙ (let e : at ≡ at + 0 = omega arith in ap places e)
any_rest-last places at (byte ∷ name) =
    let filled : (length (byte ∷ name) == 0) ≡ false = grind (arith, nat_tests) in
    rw filled (rw (and_false (places at))
    (any_rest-last places (at + 1) name ∙ (let e : at + 1 + length name ≡ at + length (byte ∷ name) = omega arith in ap places e)))

-- where a part begins with no item, the last place decides
pub any_rest-end : (part : List ℕ) (places : ℕ → Bool) (name : List ℕ) → first_item part ≡ None
    → any_rest (match_part part) places 0 name ≡ (length part == 0 && places (length name))
any_rest-end part places name e =
    any_rest-same (match_part part) (λ rest. length part == 0 && length rest == 0) (λ rest. match_part-stuck part rest e) places 0 name
    ∙ go (length part == 0) where
      go : (t : Bool) → any_rest (λ rest. t && length rest == 0) places 0 name ≡ (t && places (length name))
      go true = any_rest-last places 0 name ∙ (let e : 0 + length name ≡ length name = omega arith in ap places e)
      go false = any_rest-never places 0 name

-- one item of a part
pub any_rest-item : (part : List ℕ) (item : Item) (others : List ℕ) (places : ℕ → Bool) (name : List ℕ) → first_item part ≡ Some (item, others)
    → any_rest (match_part part) places 0 name ≡ any_rest (λ rest. list_any (match_part others) (after_item item rest)) places 0 name
any_rest-item part item others places name e =
    any_rest-same (match_part part) (λ rest. list_any (match_part others) (after_item item rest))
    (λ rest. match_part-item part item others rest e) places 0 name

pub first_item-size : (part : List ℕ) (item : Item) (others : List ℕ) → first_item part ≡ Some (item, others)
    → length (item_text item) + length others ≡ length part
first_item-size part item others e =
    let found = subst (FirstItem part) e (first_item-found part) in
    sym (ap length found.0 ∙ length-append (item_text item) others)

-- what is left one byte on
pub drop-next : (place : ℕ) (name : List ℕ) (byte : ℕ) (after : List ℕ) → drop place name ≡ byte ∷ after → drop (place + 1) name ≡ after
drop-next place name byte after e = sym (drop-drop 1 place name) ∙ ap (drop 1) e

-- one place has been gone through, and the rest of the name is next
pub any_rest-next : (test : List ℕ → Bool) (places : ℕ → Bool) (at : ℕ) (rest : List ℕ) (byte : ℕ) (after : List ℕ) (done more whole : Bool)
    → rest ≡ byte ∷ after → (done || any_rest test places at rest) ≡ whole → more ≡ (done || (places at && test (byte ∷ after)))
    → (more || any_rest test places (at + 1) after) ≡ whole
any_rest-next test places at rest byte after done more whole spelled so_far e =
    ap (λ t. t || any_rest test places (at + 1) after) e
    ∙ sym (or_assoc done (places at && test (byte ∷ after)) (any_rest test places (at + 1) after))
    ∙ sym (ap (λ left. done || any_rest test places at left) spelled)
    ∙ so_far

pub not_reached : (done here test : Bool) → here ≡ false → done ≡ (done || (here && test))
not_reached true here test e = refl
not_reached false here test e = rw e refl

or_false : (t : Bool) → (t || false) ≡ t
or_false true = refl
or_false false = refl

-- a byte that passes a test
pub any_rest-byte : (has : Bool) (test : List ℕ → Bool) (old new : ℕ → Bool) (here : Bool) (place : ℕ) (name after : List ℕ)
    → drop (place + 1) name ≡ after → place + 1 ≤ length name
    → here ≡ true → has ≡ true → Added (place + 1) old new
    → any_rest test new 0 name ≡ (any_rest test old 0 name || (here && list_any test (if has then after ∷ [] else [])))
any_rest-byte has test old new here place name after left within reached is added =
    any_rest-added test old new (place + 1) name added within
    ∙ rw (reached, is, left) (ap (λ t. any_rest test old 0 name || t) (sym (or_false (test after))))

pub other_byte : (has : Bool) (test : List ℕ → Bool) (done here : Bool) (after : List ℕ) → has ≡ false
    → done ≡ (done || (here && list_any test (if has then after ∷ [] else [])))
other_byte has test true here after e = refl
other_byte has test false true after e = rw e refl
other_byte has test false false after e = refl

pub next_row : (place size : ℕ) → (place + 1) * size ≡ place * size + size
next_row place size = omega (arith, add-mul place 1 size)

-- a text with a first byte is that byte and the rest
pub first_and_rest : (xs : List ℕ) (d : ℕ) → 1 ≤ length xs → xs ≡ get_or xs 0 d ∷ take (length xs - 1) (drop 1 xs)
first_and_rest [] d some = absurd (omega arith)
first_and_rest (x ∷ xs) d some = ap (λ rest. x ∷ rest) (sym (take_rest (x ∷ xs) 1))

pub by_star : (n t l m b r : Bool) → ((n || ((b || r) && t)) || (((b || r) && l) || m)) ≡ (n || ((b && (t || l)) || ((r && (t || l)) || m)))
by_star true t l m b r = refl
by_star false true l m true r = refl
by_star false true l m false true = refl
by_star false true l m false false = refl
by_star false false true m true r = refl
by_star false false false m true true = refl
by_star false false false m true false = refl
by_star false false true m false true = refl
by_star false false false m false true = refl
by_star false false l m false false = refl

pub reached : (n n' here more : Bool) → here ≡ true → n' ≡ (n || more) → n' ≡ (n || (here && more))
reached n n' here more there e = rw there e

-- the steps of an item and those of the others
pub rows_split : (places size others all : ℕ) → size + others ≡ all → places * all ≡ places * size + places * others
rows_split places size others all e = ap (λ n. places * n) (sym e) ∙ mul-add places size others

pub no_rest : (xs : List ℕ) → length xs < 1 → xs ≡ []
no_rest [] none = refl
no_rest (x ∷ xs) none = absurd (omega arith)

pub row_step : (places size others all : ℕ) → size + others ≡ all → size + places * others ≤ (places + 1) * all
row_step places size others all e = omega (arith, rows_split (places + 1) size others all e, next_row places size, next_row places others)
