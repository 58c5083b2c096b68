-- Sets of places as bits: two joined, one moved on by a byte, and the places that a choice or a run of stars reaches.
use Rattle.std.proofs.Common.{◌≡◌, ℕ, zero, suc, ◌+◌, ◌-◌, ◌*◌, ◌/◌, ◌%◌, ◌^◌, ◌<◌, ◌≤◌, max, min, Bool, true, false, ◌||◌, ◌&&◌, ◌==◌, nat_lt, List, [], ◌∷◌}
use Rattle.std.proofs.Common.{length, take, drop, refl, arith, sym, ap, subst, ◌∙◌}
use Rattle.std.specs.Prelude.{if◌then◌else◌, set, replicate}
use Rattle.std.specs.Int.{bit_at}
use Rattle.std.specs.Int.RustNames.{bit_or, bit_and}
use Rattle.std.specs.List.{list_any, flat_map}
use Rattle.std.proofs.Math.ListN.{get_or}
use Rattle.std.proofs.lemmas.List.{get_or-set_same, get_or-set_other, get_or-replicate, take_rest}
use Rattle.std.proofs.lemmas.List.Folds.{list_any-append}
use Rattle.std.proofs.lemmas.Nat.Bits.{bit_at_or, bit_at_and, bit_at-suc, bit_at-zero, bit_at-lt, bit_at_cat_low}
use Rattle.std.proofs.lemmas.Bool.{and_parts}
use Rattle.std.proofs.lemmas.Bool.Decides.{nat_tests}
use Rattle.osc_pattern.specs.Items.{Item, star, plain, choice, is_comma, is_choice_end}
use Rattle.osc_pattern.specs.Cuts.{rests, has_byte, after_byte, after_text, any_rest}
use Rattle.osc_pattern.specs.Reading.{match_part}
use Rattle.osc_pattern.specs.Views.{idle_bytes, begins_empty, texts_left}
use Rattle.std.specs.Prelude.{option_map}
use Rattle.std.specs.List.{slice_split, onto_first}
use Rattle.std.proofs.lemmas.List.Splits.{slice_split_none, slice_split-cons_yes, slice_split-cons_no, length-slice_split}
use Rattle.osc_pattern.proofs.Cutting.{cut_at-first}
use Rattle.osc_pattern.proofs.Matches.{match_part-item}
use Rattle.osc_pattern.proofs.Reaches.{bits-added, any_rest-same, any_rest-never, rows_split}

or_false : (t : Bool) → (t || false) ≡ (t)
or_false true = refl
or_false false = refl

and_false : (t : Bool) → (t && false) ≡ (false)
and_false true = refl
and_false false = refl

or_assoc : (a b c : Bool) → ((a || b) || c) ≡ (a || (b || c))
or_assoc true true true = refl
or_assoc true true false = refl
or_assoc true false true = refl
or_assoc true false false = refl
or_assoc false true true = refl
or_assoc false true false = refl
or_assoc false false true = refl
or_assoc false false false = refl

or_again : (a b : Bool) → ((a || b) || b) ≡ (a || b)
or_again true true = refl
or_again true false = refl
or_again false true = refl
or_again false false = refl

or_row : (p a b x y : Bool) → ((p && (a || b)) || (x || y)) ≡ (((p && a) || x) || ((p && b) || y))
or_row true true true true true = refl
or_row true true true true false = refl
or_row true true true false true = refl
or_row true true true false false = refl
or_row true true false true true = refl
or_row true true false true false = refl
or_row true true false false true = refl
or_row true true false false false = refl
or_row true false true true true = refl
or_row true false true true false = refl
or_row true false true false true = refl
or_row true false true false false = refl
or_row true false false true true = refl
or_row true false false true false = refl
or_row true false false false true = refl
or_row true false false false false = refl
or_row false true true true true = refl
or_row false true true true false = refl
or_row false true true false true = refl
or_row false true true false false = refl
or_row false true false true true = refl
or_row false true false true false = refl
or_row false true false false true = refl
or_row false true false false false = refl
or_row false false true true true = refl
or_row false false true true false = refl
or_row false false true false true = refl
or_row false false true false false = refl
or_row false false false true true = refl
or_row false false false true false = refl
or_row false false false false true = refl
or_row false false false false false = refl

join_row : (m o t x y : Bool) → (((m || o) && t) || (x || y)) ≡ (((o && t) || x) || ((m && t) || y))
join_row true true true true true = refl
join_row true true true true false = refl
join_row true true true false true = refl
join_row true true true false false = refl
join_row true true false true true = refl
join_row true true false true false = refl
join_row true true false false true = refl
join_row true true false false false = refl
join_row true false true true true = refl
join_row true false true true false = refl
join_row true false true false true = refl
join_row true false true false false = refl
join_row true false false true true = refl
join_row true false false true false = refl
join_row true false false false true = refl
join_row true false false false false = refl
join_row false true true true true = refl
join_row false true true true false = refl
join_row false true true false true = refl
join_row false true true false false = refl
join_row false true false true true = refl
join_row false true false true false = refl
join_row false true false false true = refl
join_row false true false false false = refl
join_row false false true true true = refl
join_row false false true true false = refl
join_row false false true false true = refl
join_row false false true false false = refl
join_row false false false true true = refl
join_row false false false true false = refl
join_row false false false false true = refl
join_row false false false false false = refl

-- ---- bits

or_bits : (x y : ℕ) → x < 2 → y < 2 → (max x y == 1) ≡ (y == 1 || x == 1)
or_bits zero zero a b = refl
or_bits zero (suc zero) a b = refl
or_bits (suc zero) zero a b = refl
or_bits (suc zero) (suc zero) a b = refl
or_bits (suc (suc x)) y a b = absurd (omega arith)
or_bits x (suc (suc y)) a b = absurd (omega arith)

and_bits : (x y : ℕ) → x < 2 → y < 2 → (min x y == 1) ≡ (x == 1 && y == 1)
and_bits zero zero a b = refl
and_bits zero (suc zero) a b = refl
and_bits (suc zero) zero a b = refl
and_bits (suc zero) (suc zero) a b = refl
and_bits (suc (suc x)) y a b = absurd (omega arith)
and_bits x (suc (suc y)) a b = absurd (omega arith)

pub bits-joined : (a b place : ℕ) → (bit_at (bit_or a b) place == 1) ≡ (bit_at b place == 1 || bit_at a place == 1)
bits-joined a b place = ap (λ bit. bit == 1) (bit_at_or a b place) ∙ or_bits (bit_at a place) (bit_at b place) (bit_at-lt a place) (bit_at-lt b place)

pub low_bit : (n i : ℕ) → i < 64 → bit_at (n % 2 ^ 64) i ≡ bit_at n i
low_bit n i within =
    let whole : n / 2 ^ 64 * 2 ^ 64 + n % 2 ^ 64 ≡ n = omega arith in
    sym (bit_at_cat_low (n / 2 ^ 64) 64 (n % 2 ^ 64) i within) ∙ ap (λ x. bit_at x i) whole

twice_bit : (n i : ℕ) → bit_at (n * 2) (i + 1) ≡ bit_at n i
twice_bit n i =
    let e : i + 1 ≡ suc i = omega arith in
    let half : n * 2 / 2 ≡ n = omega arith in
    ap (bit_at (n * 2)) e ∙ bit_at-suc (n * 2) i ∙ ap (λ x. bit_at x i) half

pub bits-after : (a marks place : ℕ) → place < 63
    → (bit_at (bit_and a marks * 2 % 2 ^ 64) (place + 1) == 1) ≡ (bit_at a place == 1 && bit_at marks place == 1)
bits-after a marks place within =
    ap (λ bit. bit == 1) (low_bit (bit_and a marks * 2) (place + 1) (omega arith) ∙ twice_bit (bit_and a marks) place ∙ bit_at_and a marks place)
    ∙ and_bits (bit_at a place) (bit_at marks place) (bit_at-lt a place) (bit_at-lt marks place)

-- ---- marks

-- the bytes before a place are marked
abbrev pub MarkedTo : List ℕ → List ℕ → ℕ → Type 0
MarkedTo marks name end = (byte place : ℕ) → byte < 256 → (bit_at (get_or marks byte 0) place == 1) ≡ (nat_lt place end && get_or name place 0 == byte)

one_more : (place end n byte : ℕ) → (place ≡ end → n ≡ byte) → (place == end || (nat_lt place end && n == byte)) ≡ (nat_lt place (end + 1) && n == byte)
one_more place end n byte h = go (place == end) refl where
  go : (t : Bool) → (place == end) ≡ t → (t || (nat_lt place end && n == byte)) ≡ (nat_lt place (end + 1) && n == byte)
  go true e =
      let same : place ≡ end = grind (arith, nat_tests) in
      let is : n ≡ byte = h same in
      let below : nat_lt place (end + 1) ≡ true = grind (arith, nat_tests) in
      let own : (n == byte) ≡ true = grind (arith, nat_tests) in
      rw (below, own) refl
  go false e =
      let below : nat_lt place (end + 1) ≡ nat_lt place end = grind (arith, nat_tests) in
      ap (λ t. t && n == byte) (sym below)

no_more : (place end n byte own : ℕ) → (place ≡ end → n ≡ own) → (byte == own) ≡ false
    → (nat_lt place end && n == byte) ≡ (nat_lt place (end + 1) && n == byte)
no_more place end n byte own h other = go (place == end) refl where
  go : (t : Bool) → (place == end) ≡ t → (nat_lt place end && n == byte) ≡ (nat_lt place (end + 1) && n == byte)
  go true e =
      let same : place ≡ end = grind (arith, nat_tests) in
      let is : n ≡ own = h same in
      let apart : (n == byte) ≡ false = grind (arith, nat_tests) in
      rw apart (and_false (nat_lt place end) ∙ sym (and_false (nat_lt place (end + 1))))
  go false e =
      let below : nat_lt place (end + 1) ≡ nat_lt place end = grind (arith, nat_tests) in
      ap (λ t. t && n == byte) (sym below)

pub marked-next : (marks name : List ℕ) (own end : ℕ) → length marks ≡ 256 → own < 256 → end < 64 → get_or name end 0 ≡ own → MarkedTo marks name end
    → MarkedTo (set marks own (bit_or (get_or marks own 0) (1 * 2 ^ end % 2 ^ 64))) name (end + 1)
marked-next marks name own end size small within is so_far byte place below = go (byte == own) refl where
  new : ℕ
  new = bit_or (get_or marks own 0) (1 * 2 ^ end % 2 ^ 64)

  here : place ≡ end → get_or name place 0 ≡ own
  here e = ap (λ k. get_or name k 0) e ∙ is

  go : (t : Bool) → (byte == own) ≡ t
      → (bit_at (get_or (set marks own (bit_or (get_or marks own 0) (1 * 2 ^ end % 2 ^ 64))) byte 0) place == 1)
      ≡ (nat_lt place (end + 1) && get_or name place 0 == byte)
  go true e =
      let same : byte ≡ own = grind (arith, nat_tests) in
      rw same (ap (λ n. bit_at n place == 1) (get_or-set_same marks own new 0 (omega arith)) ∙ bits-added (get_or marks own 0) end within place
      ∙ ap (λ t. place == end || t) (so_far own place small) ∙ one_more place end (get_or name place 0) own here)
  go false e =
      ap (λ n. bit_at n place == 1) (get_or-set_other marks own byte new 0 (λ same. (let h : (byte == own) ≡ true = grind (arith, nat_tests) in cc)))
      ∙ so_far byte place below ∙ no_more place end (get_or name place 0) byte own here e

pub marked-none : (name : List ℕ) → MarkedTo (replicate 256 0) name 0
marked-none name byte place below =
    let none : nat_lt place 0 ≡ false = grind (arith, nat_tests) in
    ap (λ n. bit_at n place == 1) (get_or-replicate 256 byte 0 0 below) ∙ ap (λ n. n == 1) (bit_at-zero place) ∙ rw none refl

-- ---- places

pub any_rest-or : (f g : List ℕ → Bool) (places : ℕ → Bool) (at : ℕ) (name : List ℕ)
    → any_rest (λ rest. f rest || g rest) places at name ≡ (any_rest f places at name || any_rest g places at name)
any_rest-or f g places at [] = end (places at) (f []) (g []) where
  end : (p a b : Bool) → (p && (a || b)) ≡ ((p && a) || (p && b))
  end true a b = refl
  end false a b = refl
any_rest-or f g places at (byte ∷ name) =
    rw (any_rest-or f g places (at + 1) name)
    (or_row (places at) (f (byte ∷ name)) (g (byte ∷ name)) (any_rest f places (at + 1) name) (any_rest g places (at + 1) name))

pub any_rest-joined : (test : List ℕ → Bool) (more old new : ℕ → Bool) → ((place : ℕ) → new place ≡ (more place || old place)) → (at : ℕ) (name : List ℕ)
    → any_rest test new at name ≡ (any_rest test old at name || any_rest test more at name)
any_rest-joined test more old new joined at [] = rw (joined at) (end (more at) (old at) (test [])) where
  end : (m o t : Bool) → ((m || o) && t) ≡ ((o && t) || (m && t))
  end true true true = refl
  end true true false = refl
  end true false true = refl
  end true false false = refl
  end false true true = refl
  end false true false = refl
  end false false true = refl
  end false false false = refl
any_rest-joined test more old new joined at (byte ∷ name) =
    rw (joined at, any_rest-joined test more old new joined (at + 1) name)
    (join_row (more at) (old at) (test (byte ∷ name)) (any_rest test old (at + 1) name) (any_rest test more (at + 1) name))

one_byte : (o t : Bool) (test : List ℕ → Bool) (name : List ℕ) → ((o && t) && test name) ≡ (o && list_any test (if t then name ∷ [] else []))
one_byte true true test name = sym (or_false (test name))
one_byte true false test name = refl
one_byte false t test name = refl

moved : (item : Item) (test : List ℕ → Bool) (old new : ℕ → Bool) (at : ℕ) (name : List ℕ)
    → ((k : ℕ) → k < length name → new (at + k + 1) ≡ (old (at + k) && has_byte item (get_or name k 0)))
    → any_rest test new at name ≡ ((new at && test name) || any_rest (λ rest. list_any test (after_byte item rest)) old at name)
moved item test old new at [] h = rw (and_false (old at)) (sym (or_false (new at && test [])))
moved item test old new at (byte ∷ name) h =
    let none : at + 0 ≡ at = omega arith in
    let first : new (at + 1) ≡ (old at && has_byte item byte) = subst (λ n. new (n + 1) ≡ (old n && has_byte item byte)) none (h 0 (omega arith)) in
    let others : (k : ℕ) → k < length name → new (at + 1 + k + 1) ≡ (old (at + 1 + k) && has_byte item (get_or name k 0)) =
    λ k below. (let e : at + suc k ≡ at + 1 + k = omega arith
    in subst (λ n. new (n + 1) ≡ (old n && has_byte item (get_or name k 0))) e (h (suc k) (omega arith))) in
    ap (λ r. (new at && test (byte ∷ name)) || r)
    (moved item test old new (at + 1) name others
    ∙ ap (λ t. t || any_rest (λ rest. list_any test (after_byte item rest)) old (at + 1) name)
    (ap (λ n. n && test name) first ∙ one_byte (old at) (has_byte item byte) test name))

-- the places right after a byte that is a text of the item
pub any_rest-after : (item : Item) (test : List ℕ → Bool) (old new : ℕ → Bool) (name : List ℕ) → new 0 ≡ false
    → ((k : ℕ) → k < length name → new (k + 1) ≡ (old k && has_byte item (get_or name k 0)))
    → any_rest test new 0 name ≡ any_rest (λ rest. list_any test (after_byte item rest)) old 0 name
any_rest-after item test old new name none h =
    moved item test old new 0 name
    (λ k below. (let e : k ≡ 0 + k = omega arith in subst (λ n. new (n + 1) ≡ (old n && has_byte item (get_or name k 0))) e (h k below)))
    ∙ rw none refl

-- a text: its first byte, and then the others
pub text_byte : (test : List ℕ → Bool) (byte : ℕ) (text rest : List ℕ)
    → list_any test (after_text rest (byte ∷ text)) ≡ list_any (λ left. list_any test (after_text left text)) (after_byte (plain byte) rest)
text_byte test byte text [] = refl
text_byte test byte text (x ∷ rest) = go (x == byte) refl where
  go : (t : Bool) → (x == byte) ≡ t → list_any test (after_text (x ∷ rest) (byte ∷ text))
      ≡ list_any (λ left. list_any test (after_text left text)) (if t then rest ∷ [] else [])
  go true e = rw e (sym (or_false (list_any test (after_text rest text))))
  go false e = rw e refl

pub text_end : (test : List ℕ → Bool) (rest : List ℕ) → list_any test (after_text rest []) ≡ test rest
text_end test rest = or_false (test rest)

-- the texts of a choice: the first, and then the others
pub choice_texts : (test : List ℕ → Bool) (places : ℕ → Bool) (name text : List ℕ) (texts more : List (List ℕ)) → texts ≡ text ∷ more
    → any_rest (λ rest. list_any test (flat_map (after_text rest) texts)) places 0 name
    ≡ (any_rest (λ rest. list_any test (after_text rest text)) places 0 name
    || any_rest (λ rest. list_any test (flat_map (after_text rest) more)) places 0 name)
choice_texts test places name text texts more cut =
    any_rest-same (λ rest. list_any test (flat_map (after_text rest) texts))
    (λ rest. list_any test (after_text rest text) || list_any test (flat_map (after_text rest) more))
    (λ rest. ap (λ all. list_any test (flat_map (after_text rest) all)) cut
    ∙ list_any-append test (after_text rest text) (flat_map (after_text rest) more)) places 0 name
    ∙ any_rest-or (λ rest. list_any test (after_text rest text)) (λ rest. list_any test (flat_map (after_text rest) more)) places 0 name

some_text : (xs : List ℕ) → 1 ≤ length (slice_split is_comma xs)
some_text xs = omega (arith, length-slice_split is_comma xs)

all_texts : (test : List ℕ → Bool) (all : ℕ → Bool) (texts : List (List ℕ)) (name : List ℕ) → 1 ≤ length texts
    → texts_left test all all texts name ≡ any_rest (λ rest. list_any test (flat_map (after_text rest) texts)) all 0 name
all_texts test all [] name some = absurd (omega arith)
all_texts test all (text ∷ more) name some = sym (choice_texts test all name text (text ∷ more) more refl)

-- the start of a choice
pub choice_start : (test : List ℕ → Bool) (all : ℕ → Bool) (texts name : List ℕ) (n : Bool) → n ≡ false
    → (n || texts_left test all all (slice_split is_comma texts) name)
    ≡ any_rest (λ rest. list_any test (flat_map (after_text rest) (slice_split is_comma texts))) all 0 name
choice_start test all texts name n none =
    ap (λ t. t || texts_left test all all (slice_split is_comma texts) name) none ∙ all_texts test all (slice_split is_comma texts) name (some_text texts)

no_text : (test : List ℕ → Bool) (places : ℕ → Bool) (name : List ℕ)
    → any_rest (λ rest. list_any test (after_text rest [])) places 0 name ≡ any_rest test places 0 name
no_text test places name = any_rest-same (λ rest. list_any test (after_text rest [])) test (λ rest. text_end test rest) places 0 name

-- a comma ends a text
pub choice_comma : (test : List ℕ → Bool) (places all : ℕ → Bool) (rest others name : List ℕ) (byte : ℕ) (n more whole : Bool) → rest ≡ byte ∷ others
    → byte ≡ 44 → more ≡ (n || any_rest test places 0 name)
    → (n || texts_left test places all (slice_split is_comma rest) name) ≡ whole
    → (more || texts_left test all all (slice_split is_comma others) name) ≡ whole
choice_comma test places all rest others name byte n more whole spelled is e so_far =
    let comma : (byte == 44) ≡ true = grind (arith, nat_tests, is) in
    let texts = slice_split is_comma others in
    let ended = any_rest test places 0 name in
    let cut : slice_split is_comma rest ≡ [] ∷ texts = ap (slice_split is_comma) spelled ∙ slice_split-cons_yes is_comma byte others comma in
    ap (λ t. t || texts_left test all all texts name) e
    ∙ or_assoc n ended (texts_left test all all texts name)
    ∙ ap (λ t. n || (ended || t)) (all_texts test all texts name (some_text others))
    ∙ ap (λ t. n || (t || any_rest (λ left. list_any test (flat_map (after_text left) texts)) all 0 name)) (sym (no_text test places name))
    ∙ sym (ap (λ xs. n || texts_left test places all xs name) cut)
    ∙ so_far

byte_left : (test : List ℕ → Bool) (old new all : ℕ → Bool) (byte : ℕ) (texts : List (List ℕ)) (name : List ℕ) → 1 ≤ length texts → new 0 ≡ false
    → ((k : ℕ) → k < length name → new (k + 1) ≡ (old k && get_or name k 0 == byte))
    → texts_left test new all texts name ≡ texts_left test old all (onto_first byte texts) name
byte_left test old new all byte [] name some none moves = absurd (omega arith)
byte_left test old new all byte (text ∷ more) name some none moves =
    ap (λ t. t || any_rest (λ rest. list_any test (flat_map (after_text rest) more)) all 0 name)
    (any_rest-after (plain byte) (λ rest. list_any test (after_text rest text)) old new name none moves
    ∙ sym (any_rest-same (λ rest. list_any test (after_text rest (byte ∷ text)))
    (λ rest. list_any (λ left. list_any test (after_text left text)) (after_byte (plain byte) rest)) (λ rest. text_byte test byte text rest) old 0 name))

pub no_comma : (byte : ℕ) → (byte ≡ 44 → ⊥) → (byte == 44) ≡ false
no_comma byte differs = go (byte == 44) refl where
  go : (t : Bool) → (byte == 44) ≡ t → t ≡ false
  go true e = absurd (differs (grind (arith, nat_tests, e)))
  go false e = refl

-- another byte takes the places of the text on
pub choice_byte : (test : List ℕ → Bool) (old new all : ℕ → Bool) (rest others name : List ℕ) (byte : ℕ) (n whole : Bool) → rest ≡ byte ∷ others
    → (byte ≡ 44 → ⊥) → new 0 ≡ false → ((k : ℕ) → k < length name → new (k + 1) ≡ (old k && get_or name k 0 == byte))
    → (n || texts_left test old all (slice_split is_comma rest) name) ≡ whole
    → (n || texts_left test new all (slice_split is_comma others) name) ≡ whole
choice_byte test old new all rest others name byte n whole spelled differs none moves so_far =
    let other : (byte == 44) ≡ false = no_comma byte differs in
    let texts = slice_split is_comma others in
    let cut : slice_split is_comma rest ≡ onto_first byte texts = ap (slice_split is_comma) spelled ∙ slice_split-cons_no is_comma byte others other in
    ap (λ t. n || t) (byte_left test old new all byte texts name (some_text others) none moves)
    ∙ sym (ap (λ xs. n || texts_left test old all xs name) cut)
    ∙ so_far

-- the end of a choice ends its last text
pub choice_end : (test : List ℕ → Bool) (places all : ℕ → Bool) (rest name : List ℕ) (n more whole : Bool) → rest ≡ []
    → more ≡ (n || any_rest test places 0 name)
    → (n || texts_left test places all (slice_split is_comma rest) name) ≡ whole → more ≡ whole
choice_end test places all rest name n more whole spelled e so_far =
    e
    ∙ ap (λ t. n || t) (sym (no_text test places name) ∙ sym (or_false (any_rest (λ left. list_any test (after_text left [])) places 0 name))
    ∙ ap (λ t. any_rest (λ left. list_any test (after_text left [])) places 0 name || t) (sym (any_rest-never all 0 name)))
    ∙ sym (ap (λ xs. n || texts_left test places all (slice_split is_comma xs) name) spelled)
    ∙ so_far

-- ---- stars

pub same_any : (f g : List ℕ → Bool) → ((x : List ℕ) → f x ≡ g x) → (xs : List (List ℕ)) → list_any f xs ≡ list_any g xs
same_any f g same [] = refl
same_any f g same (x ∷ xs) = rw (same x, same_any f g same xs) refl

rests_again : (f : List ℕ → Bool) (name : List ℕ) → list_any (λ left. list_any f (rests left)) (rests name) ≡ list_any f (rests name)
rests_again f [] = or_false (f [] || false)
rests_again f (byte ∷ name) = rw (rests_again f name) (or_again (f (byte ∷ name)) (list_any f (rests name)))

-- a star right after a star adds nothing
pub star_again : (more name : List ℕ) → match_part (42 ∷ more) name ≡ match_part (42 ∷ 42 ∷ more) name
star_again more name =
    match_part-item (42 ∷ more) star more name refl
    ∙ sym (rests_again (match_part more) name)
    ∙ sym (same_any (match_part (42 ∷ more)) (λ left. list_any (match_part more) (rests left))
    (λ left. match_part-item (42 ∷ more) star more left refl) (rests name))
    ∙ sym (match_part-item (42 ∷ 42 ∷ more) star (42 ∷ more) name refl)

pub rows_less : (places some more : ℕ) → some ≤ more → places * some ≤ places * more
rows_less places some more h =
    let e : some + (more - some) ≡ more = omega arith in
    omega (arith, rows_split places some (more - some) more e)

-- a choice of nothing but the empty text adds nothing
pub empty_choice : (more name : List ℕ) → match_part more name ≡ match_part (123 ∷ 125 ∷ more) name
empty_choice more name = sym
    (match_part-item (123 ∷ 125 ∷ more) (choice []) more name
    (ap (option_map (λ cut. (choice cut.0, cut.1))) (cut_at-first is_choice_end [] 125 more refl refl))
    ∙ ap (λ texts. list_any (match_part more) (flat_map (after_text name) texts)) (slice_split_none is_comma [] (λ k d below. absurd (omega arith)))
    ∙ or_false (match_part more name))

pub empty_twice : (part name : List ℕ) → begins_empty part ≡ true → match_part (take (length part - 2) (drop 2 part)) name ≡ match_part part name
empty_twice [] name e = cc
empty_twice (a ∷ []) name e = cc
empty_twice (a ∷ b ∷ more) name e =
    let both = and_parts (a == 123) (b == 125) e in
    let first : a ≡ 123 = grind (arith, nat_tests, both.0) in
    let second : b ≡ 125 = grind (arith, nat_tests, both.1) in
    ap (λ xs. match_part xs name) (take_rest (a ∷ b ∷ more) 2) ∙ rw (first, second) (empty_choice more name)

-- after a star, a choice of nothing but the empty text adds nothing
star_empty : (more name : List ℕ) → match_part (42 ∷ more) name ≡ match_part (42 ∷ 123 ∷ 125 ∷ more) name
star_empty more name =
    match_part-item (42 ∷ more) star more name refl
    ∙ same_any (match_part more) (match_part (123 ∷ 125 ∷ more)) (empty_choice more) (rests name)
    ∙ sym (match_part-item (42 ∷ 123 ∷ 125 ∷ more) star (123 ∷ 125 ∷ more) name refl)

-- after a star, stars and empty choices add nothing
pub star_idle : (part name : List ℕ) → match_part (42 ∷ drop (idle_bytes part) part) name ≡ match_part (42 ∷ part) name
star_idle [] name = refl
star_idle (a ∷ []) name = go (a == 42) refl where
  go : (t : Bool) → (a == 42) ≡ t → match_part (42 ∷ drop (if t then 1 else 0) (a ∷ [])) name ≡ match_part (42 ∷ a ∷ []) name
  go true e = (let first : a ≡ 42 = grind (arith, nat_tests) in rw first (star_again [] name))
  go false e = refl
star_idle (a ∷ b ∷ more) name = go (a == 42) refl where
  other : (t : Bool) → (a == 123 && b == 125) ≡ t → match_part (42 ∷ drop (if t then 2 else 0) (a ∷ b ∷ more)) name ≡ match_part (42 ∷ a ∷ b ∷ more) name
  other true e =
      let both = and_parts (a == 123) (b == 125) e in
      let first : a ≡ 123 = grind (arith, nat_tests, both.0) in
      let second : b ≡ 125 = grind (arith, nat_tests, both.1) in
      rw (first, second) (star_empty more name)
  other false e = refl

  go : (t : Bool) → (a == 42) ≡ t
      → match_part (42 ∷ drop (if t then 1 else if a == 123 && b == 125 then 2 else 0) (a ∷ b ∷ more)) name ≡ match_part (42 ∷ a ∷ b ∷ more) name
  go true e = (let first : a ≡ 42 = grind (arith, nat_tests) in rw first (star_again (b ∷ more) name))
  go false e = other (a == 123 && b == 125) refl

-- what follows an item, shortened
pub star_after : (short others name : List ℕ) → match_part (42 ∷ short) name ≡ match_part (42 ∷ others) name
    → list_any (match_part short) (rests name) ≡ list_any (match_part others) (rests name)
star_after short others name same =
    sym (match_part-item (42 ∷ short) star short name refl) ∙ same ∙ match_part-item (42 ∷ others) star others name refl

pub idle_rest : (part : List ℕ) (idle : ℕ) (name : List ℕ) → idle ≡ idle_bytes part
    → match_part (42 ∷ take (length part - idle) (drop idle part)) name ≡ match_part (42 ∷ part) name
idle_rest part idle name e =
    ap (λ xs. match_part (42 ∷ xs) name) (take_rest part idle) ∙ ap (λ n. match_part (42 ∷ drop n part) name) e ∙ star_idle part name
