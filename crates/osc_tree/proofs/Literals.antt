-- An address that a pattern matches begins with what the pattern has before its first special byte.
use Rattle.std.proofs.Common.{◌≡◌, ℕ, ◌+◌, Bool, true, false, cond, ◌||◌, ◌==◌, not, length, List, [], ◌∷◌, ◌++◌, take, position, Some, None, Option}
use Rattle.std.proofs.Common.{refl, arith, sym, ap, subst, ◌∙◌, one-add, nat_eq}
use Rattle.std.specs.Prelude.{Result, Ok, Err}
use Rattle.std.specs.List.{list_any, slice_split, onto_first, before_first, position_or_len, starts_with}
use Rattle.std.specs.Option.{option_map}
use Rattle.std.proofs.lemmas.Bool.Decides.{nat_tests}
use Rattle.std.proofs.lemmas.Bool.{both_ways, and_parts, eq-eqb}
use Rattle.osc_pattern.specs.Items.{Item, any, star, set, choice, plain, is_slash, is_list_end, is_choice_end}
use Rattle.osc_pattern.specs.Cuts.{match_items}
use Rattle.osc_pattern.specs.Reading.{cut_at, first_item, read_part, read_within, match_read, match_part, with_first}
use Rattle.osc_pattern.specs.Patterns.{begins_with_slash, is_special, matches, match_parts}
use Rattle.osc_pattern.proofs.Parts.{split-cons}
use Rattle.osc_tree.proofs.Lists.{position-some}

-- a part without bytes matches the name without bytes alone
pub empty_part : (x : ℕ) (name : List ℕ) → match_part [] (x ∷ name) ≡ false
unfolding read_part
empty_part x name = refl

pub first_plain : (byte : ℕ) (rest : List ℕ) → is_special byte ≡ false → is_slash byte ≡ false → first_item (byte ∷ rest) ≡ Some (plain byte, rest)
first_plain byte rest special slash =
    go (byte == 63) (byte == 42) (byte == 91) (byte == 123) (is_slash byte) (Some (any, rest)) (Some (star, rest))
    (option_map (λ cut. (set cut.0, cut.1)) (cut_at is_list_end rest)) (option_map (λ cut. (choice cut.0, cut.1)) (cut_at is_choice_end rest)) special slash
  where
    go : (a b c d e : Bool) (p q r s : Option (Item × List ℕ)) → (a || b || c || d) ≡ false → e ≡ false
        → cond a p (cond b q (cond c r (cond d s (cond e None (Some (plain byte, rest)))))) ≡ Some (plain byte, rest)
    go true b c d e p q r s others more = absurd (cc)
    go false true c d e p q r s others more = absurd (cc)
    go false false true d e p q r s others more = absurd (cc)
    go false false false true e p q r s others more = absurd (cc)
    go false false false false true p q r s others more = absurd (cc)
    go false false false false false p q r s others more = refl

pub part_plain : (byte : ℕ) (part name : List ℕ) → is_special byte ≡ false → is_slash byte ≡ false
    → match_part (byte ∷ part) name ≡ match_read (with_first (Some (plain byte, read_part part))) name
unfolding read_part
part_plain byte part name special slash =
    ap (λ found. match_read (with_first (option_map (λ cut. (cut.0, read_within (length part) cut.1)) found)) name) (first_plain byte part special slash)

after_plain : (byte x : ℕ) (items : Result (List Item) ℕ) (name : List ℕ) → match_read (with_first (Some (plain byte, items))) (x ∷ name) ≡ true
    → (x ≡ byte) × (match_read items name ≡ true)
after_plain byte x (Err at) name e = absurd (cc)
after_plain byte x (Ok items) name e = go (x == byte) refl e where
  go : (t : Bool) → (x == byte) ≡ t → list_any (match_items items) (cond t (name ∷ []) []) ≡ true → (x ≡ byte) × (match_items items name ≡ true)
  go true is e = ((let h : (x == byte) ≡ true = is in grind (arith, nat_tests)), last (match_items items name) e) where
    last : (b : Bool) → (b || false) ≡ true → b ≡ true
    last true e = refl
    last false e = absurd (cc)
  go false is e = absurd (cc)

no_name : (byte : ℕ) (items : Result (List Item) ℕ) → match_read (with_first (Some (plain byte, items))) [] ≡ false
no_name byte (Err at) = refl
no_name byte (Ok items) = refl

own_first : (byte : ℕ) (items : Result (List Item) ℕ) (name : List ℕ) → match_read (with_first (Some (plain byte, items))) (byte ∷ name) ≡ match_read items name
own_first byte (Err at) name = refl
own_first byte (Ok items) name = go (byte == byte) (eq-eqb byte byte refl) where
  last : (b : Bool) → (b || false) ≡ b
  last true = refl
  last false = refl

  go : (t : Bool) → t ≡ true → list_any (match_items items) (cond t (name ∷ []) []) ≡ match_items items name
  go true e = last (match_items items name)
  go false e = absurd (cc)

-- a plain byte that both begin with decides nothing
pub plain_same : (byte : ℕ) (part name : List ℕ) → is_special byte ≡ false → is_slash byte ≡ false
    → match_part (byte ∷ part) (byte ∷ name) ≡ match_part part name
plain_same byte part name special slash = part_plain byte part (byte ∷ name) special slash ∙ own_first byte (read_part part) name

-- a part that begins with a plain byte matches names that begin with that byte
pub plain_first : (byte x : ℕ) (part name : List ℕ) → is_special byte ≡ false → is_slash byte ≡ false → match_part (byte ∷ part) (x ∷ name) ≡ true
    → (x ≡ byte) × (match_part part name ≡ true)
plain_first byte x part name special slash e = after_plain byte x (read_part part) name (sym (part_plain byte part (x ∷ name) special slash) ∙ e)

pub plain_none : (byte : ℕ) (part : List ℕ) → is_special byte ≡ false → is_slash byte ≡ false → match_part (byte ∷ part) [] ≡ false
plain_none byte part special slash = part_plain byte part [] special slash ∙ no_name byte (read_part part)

abbrev Splits : List ℕ → List ℕ → Type 0
Splits pattern address = match_parts (slice_split is_slash pattern) (slice_split is_slash address) ≡ true

-- what is matched after a slash, and after a plain byte
after_slash : (pattern address : List ℕ) → match_parts ([] ∷ slice_split is_slash pattern) (slice_split is_slash address) ≡ true
    → (rest : List ℕ) × (address ≡ 47 ∷ rest) × Splits pattern rest
after_slash pattern [] e =
    let found = split-cons pattern in
    let no : match_parts ([] ∷ found.0 ∷ found.1) ([] ∷ []) ≡ true = subst (λ parts. match_parts ([] ∷ parts) ([] ∷ []) ≡ true) found.2 e in
    absurd (both_ways false refl (and_parts (match_part [] []) false no).1)
after_slash pattern (x ∷ address) e = go (is_slash x) refl e where
  go : (t : Bool) → is_slash x ≡ t
      → match_parts ([] ∷ slice_split is_slash pattern) (cond t ([] ∷ slice_split is_slash address) (onto_first x (slice_split is_slash address))) ≡ true
      → (rest : List ℕ) × (x ∷ address ≡ 47 ∷ rest) × Splits pattern rest
  go true is e = (
    address,
    ap (λ b. b ∷ address) (let h : (x == 47) ≡ true = is in grind (arith, nat_tests)),
    (and_parts (match_part [] []) (match_parts (slice_split is_slash pattern) (slice_split is_slash address)) e).1,
  )
  go false is e =
      let found = split-cons address in
      let no : match_parts ([] ∷ slice_split is_slash pattern) ((x ∷ found.0) ∷ found.1) ≡ true =
      subst (λ names. match_parts ([] ∷ slice_split is_slash pattern) (onto_first x names) ≡ true) found.2 e in
      absurd (both_ways (match_part [] (x ∷ found.0)) (empty_part x found.0)
      (and_parts (match_part [] (x ∷ found.0)) (match_parts (slice_split is_slash pattern) found.1) no).0)

not_empty : (byte : ℕ) (part : List ℕ) (parts names : List (List ℕ)) → is_special byte ≡ false → is_slash byte ≡ false
    → match_parts ((byte ∷ part) ∷ parts) ([] ∷ names) ≡ true → ⊥
not_empty byte part parts names special slash e =
    both_ways (match_part (byte ∷ part) []) (plain_none byte part special slash) (and_parts (match_part (byte ∷ part) []) (match_parts parts names) e).0

first_names : (byte x : ℕ) (part name : List ℕ) (parts names : List (List ℕ)) → is_special byte ≡ false → is_slash byte ≡ false
    → match_parts ((byte ∷ part) ∷ parts) ((x ∷ name) ∷ names) ≡ true → (x ≡ byte) × (match_parts (part ∷ parts) (name ∷ names) ≡ true)
first_names byte x part name parts names special slash e =
    let two = and_parts (match_part (byte ∷ part) (x ∷ name)) (match_parts parts names) e in
    let first = plain_first byte x part name special slash two.0 in
    (first.0, rw (first.1, two.1) refl)

after_byte : (byte : ℕ) (pattern address : List ℕ) → is_special byte ≡ false → is_slash byte ≡ false
    → match_parts (onto_first byte (slice_split is_slash pattern)) (slice_split is_slash address) ≡ true
    → (rest : List ℕ) × (address ≡ byte ∷ rest) × Splits pattern rest
after_byte byte pattern address special slash e = go address (split-cons pattern) e where
  go : (address : List ℕ) → (part : List ℕ) × (parts : List (List ℕ)) × (slice_split is_slash pattern ≡ part ∷ parts)
      → match_parts (onto_first byte (slice_split is_slash pattern)) (slice_split is_slash address) ≡ true
      → (rest : List ℕ) × (address ≡ byte ∷ rest) × Splits pattern rest
  go [] (part, parts, is) e = absurd (not_empty byte part parts [] special slash (subst (λ l. match_parts (onto_first byte l) ([] ∷ []) ≡ true) is e))
  go (x ∷ address) (part, parts, is) e =
      further (is_slash x) refl (split-cons address) (subst (λ l. match_parts (onto_first byte l) (slice_split is_slash (x ∷ address)) ≡ true) is e) where
        further : (t : Bool) → is_slash x ≡ t → (name : List ℕ) × (names : List (List ℕ)) × (slice_split is_slash address ≡ name ∷ names)
            → match_parts ((byte ∷ part) ∷ parts) (cond t ([] ∷ slice_split is_slash address) (onto_first x (slice_split is_slash address))) ≡ true
            → (rest : List ℕ) × (x ∷ address ≡ byte ∷ rest) × Splits pattern rest
        further true slashed found e = absurd (not_empty byte part parts (slice_split is_slash address) special slash e)
        further false slashed (name, names, there) e =
            let more = first_names byte x part name parts names special slash
            (subst (λ l. match_parts ((byte ∷ part) ∷ parts) (onto_first x l) ≡ true) there e) in (
              address,
              ap (λ b. b ∷ address) more.0,
              subst (λ l. match_parts l (slice_split is_slash address) ≡ true) (sym is)
                  (subst (λ l. match_parts (part ∷ parts) l ≡ true) (sym there) more.1),
            )

-- the bytes before the first special one
abbrev pub literal : List ℕ → List ℕ
literal pattern = before_first is_special pattern

literal_begins : (pattern address : List ℕ) → Splits pattern address → (rest : List ℕ) × (address ≡ literal pattern ++ rest)
literal_begins [] address e = (address, refl)
literal_begins (byte ∷ pattern) address e = go (is_special byte) (is_slash byte) refl refl e (literal_begins pattern) where
  go : (s t : Bool) → is_special byte ≡ s → is_slash byte ≡ t
      → match_parts (cond t ([] ∷ slice_split is_slash pattern) (onto_first byte (slice_split is_slash pattern))) (slice_split is_slash address) ≡ true
      → ((address : List ℕ) → Splits pattern address → (rest : List ℕ) × (address ≡ literal pattern ++ rest))
      → (rest : List ℕ) × (address ≡ take (cond (not s) (1 + position_or_len is_special pattern) 0) (byte ∷ pattern) ++ rest)
  go true t special slash e more = (address, refl)
  go false true special slash e more =
      let after = after_slash pattern address e in
      let found = more after.0 after.2 in
      let same : 47 ≡ byte = (let h : (byte == 47) ≡ true = slash in grind (arith, nat_tests)) in
      (found.0, after.1 ∙ ap (λ l. 47 ∷ l) found.1 ∙ ap (λ b. b ∷ (literal pattern ++ found.0)) same ∙ rw one-add refl)
  go false false special slash e more =
      let after = after_byte byte pattern address special slash e in
      let found = more after.0 after.2 in
      (found.0, after.1 ∙ ap (λ l. byte ∷ l) found.1 ∙ rw one-add refl)

-- an address that a pattern matches is what the pattern has before its first special byte, and more
pub matched_begins : (pattern address : List ℕ) → begins_with_slash pattern ≡ true → begins_with_slash address ≡ true → matches pattern address ≡ true
    → (rest : List ℕ) × (address ≡ literal pattern ++ rest)
matched_begins [] address p a e = absurd (both_ways false refl p)
matched_begins (x ∷ pattern) [] p a e = absurd (both_ways false refl a)
matched_begins (x ∷ pattern) (y ∷ address) p a e =
    let first : x ≡ 47 = (let h : (x == 47) ≡ true = p in grind (arith, nat_tests)) in
    let second : y ≡ 47 = (let h : (y == 47) ≡ true = a in grind (arith, nat_tests)) in
    let found = literal_begins pattern address e in
    (found.0, ap (λ b. b ∷ address) second ∙ ap (λ l. 47 ∷ l) found.1 ∙ rw (first, one-add) refl)

pub own_beginning : (text rest : List ℕ) → starts_with nat_eq (text ++ rest) text ≡ true
own_beginning [] rest = refl
own_beginning (x ∷ text) rest = let more = own_beginning text rest in grind (arith, nat_tests)

pub matched_starts : (pattern address : List ℕ) → begins_with_slash pattern ≡ true → begins_with_slash address ≡ true → matches pattern address ≡ true
    → starts_with nat_eq address (literal pattern) ≡ true
matched_starts pattern address p a e = let found = matched_begins pattern address p a e in
    subst (λ l. starts_with nat_eq l (literal pattern) ≡ true) (sym found.1) (own_beginning (literal pattern) found.0)

-- what the code cuts off
pub front_found : (pattern : List ℕ) (k : ℕ) → position is_special pattern ≡ Some k → take k pattern ≡ before_first is_special pattern
front_found pattern k e = ap (λ n. take n pattern) (position-some is_special pattern k e).0
