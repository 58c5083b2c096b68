-- Patterns are lawful exactly where they have no fault, and a fault is the first.
use Rattle.std.proofs.Common.{◌≡◌, inl, inr, ℕ, ◌+◌, ◌≤◌, Bool, true, false, cond, nat_lt, Option, Some, None, Result, Ok, Err, List, [], ◌∷◌, ◌++◌}
use Rattle.std.proofs.Common.{length, refl, arith, sym, ap, subst, ◌∙◌}
use Rattle.std.proofs.lemmas.List.Splits.{length-slice_split}
use Rattle.std.specs.Prelude.{All, ◌↔◌, count_by, IsTrue, option_map, position, is_none, if◌then◌else◌}
use Rattle.std.specs.List.{list_any, list_all, flat_map, slice_split, onto_first, position_or_len}
use Rattle.std.proofs.Math.ListN.{length-append}
use Rattle.std.proofs.lemmas.List.{append_assoc}
use Rattle.std.proofs.lemmas.List.Elements.{All-cons, All-nil, All-head, All-tail}
use Rattle.std.proofs.lemmas.List.Folds.{list_any-append, list_any_at}
use Rattle.std.proofs.lemmas.List.Sums.{passes_at_first, sum_by-cons}
use Rattle.std.proofs.lemmas.Bool.{ltb-true, ltb-false, and_parts, or_parts}
use Rattle.osc_pattern.specs.Items.{Item, set, choice, item_text, is_item, is_slash, is_list_end, is_choice_end}
use Rattle.osc_pattern.specs.Parts.{IsLawfulPart, MatchesName}
use Rattle.osc_pattern.specs.Reading.{cut_at, first_item, read_part, match_part, match_read, with_first}
use Rattle.osc_pattern.specs.Patterns.{IsPattern, IsUnclosed, IsOpenAt, IsFault, start, byte, unclosed, begins_with_slash, parts_of, is_outside, open_in}
use Rattle.osc_pattern.specs.Patterns.{open_place, fault_after, pattern_fault, is_pattern, MatchParts, match_parts, Match, matches}
use Rattle.osc_pattern.specs.declared.faults.PatternFault.{PatternFault}
use Rattle.osc_pattern.proofs.Cutting.{CutAt, cut_at-cuts, none_past}
use Rattle.osc_pattern.proofs.Readings.{FirstItem, IsStuck, first_item-found, first_item-written, read_part-item, read_part-stuck, IsPart-read, IsRead}
use Rattle.osc_pattern.proofs.Readings.{read_part-read}
use Rattle.osc_pattern.proofs.Cuts.{match_items-sound, match_items-complete}

map-None : (f : ℕ → ℕ) (o : Option ℕ) → option_map f o ≡ None → o ≡ None
map-None f None e = refl
map-None f (Some n) e = absurd (cc)

open_place-none : (parts : List (List ℕ)) → open_place parts ≡ None → All IsLawfulPart parts
open_place-none [] e = All-nil IsLawfulPart
open_place-none (part ∷ parts) e = go (read_part part) (read_part-read part) e (open_place-none parts) where
  go : (r : Result (List Item) ℕ) → IsRead part r → open_in r (length part) (open_place parts) ≡ None → (open_place parts ≡ None → All IsLawfulPart parts)
      → All IsLawfulPart (part ∷ parts)
  go (Ok items) read e more = All-cons IsLawfulPart part parts (items, read) (more (map-None _ (open_place parts) e))
  go (Err at) read e more = absurd (cc)

open_place-lawful : (parts : List (List ℕ)) → All IsLawfulPart parts → open_place parts ≡ None
open_place-lawful [] all = refl
open_place-lawful (part ∷ parts) all =
    let first = All-head IsLawfulPart part parts all in
    rw (IsPart-read part first.0 first.1, open_place-lawful parts (All-tail IsLawfulPart part parts all)) refl

-- the parts that a text is cut into at its slashes have none
abbrev pub HasNoSlash : List ℕ → Type 0
HasNoSlash part = list_any is_slash part ≡ false

onto_no_slash : (x : ℕ) (parts : List (List ℕ)) → is_slash x ≡ false → All HasNoSlash parts → All HasNoSlash (onto_first x parts)
onto_no_slash x [] other all = let alone : HasNoSlash (x ∷ []) = rw other refl in All-cons HasNoSlash (x ∷ []) [] alone all
onto_no_slash x (part ∷ parts) other all =
    let first : HasNoSlash (x ∷ part) = rw other (All-head HasNoSlash part parts all) in
    All-cons HasNoSlash (x ∷ part) parts first (All-tail HasNoSlash part parts all)

split_no_slash : (bytes : List ℕ) → All HasNoSlash (slice_split is_slash bytes)
split_no_slash [] = All-cons HasNoSlash [] [] refl (All-nil HasNoSlash)
split_no_slash (x ∷ xs) = go (is_slash x) refl (split_no_slash xs) where
  go : (t : Bool) → is_slash x ≡ t → All HasNoSlash (slice_split is_slash xs)
      → All HasNoSlash (cond t ([] ∷ slice_split is_slash xs) (onto_first x (slice_split is_slash xs)))
  go true e all = All-cons HasNoSlash [] (slice_split is_slash xs) refl all
  go false e all = onto_no_slash x (slice_split is_slash xs) e all

pub parts_of-no_slash : (bytes : List ℕ) → All HasNoSlash (parts_of bytes)
parts_of-no_slash [] = All-nil HasNoSlash
parts_of-no_slash (x ∷ xs) = split_no_slash xs

some_same : (at n : ℕ) → Some at ≡ Some n → at ≡ n
some_same at n e = cc

map-Some : (f : ℕ → ℕ) (o : Option ℕ) (at : ℕ) → option_map f o ≡ Some at → (n : ℕ) × (o ≡ Some n) × (at ≡ f n)
map-Some f None at e = absurd (cc)
map-Some f (Some n) at e = (n, refl, some_same _ _ (sym e))

-- the place that is read is that of a bracket that isn't closed
open_place-some : (parts : List (List ℕ)) (at : ℕ) → All HasNoSlash parts → open_place parts ≡ Some at → IsOpenAt parts at
open_place-some [] at clean e = absurd (cc)
open_place-some (part ∷ parts) at clean e =
    go (read_part part) (read_part-read part) e (λ n. open_place-some parts n (All-tail HasNoSlash part parts clean)) where
      opened : (items : List Item) (rest : List ℕ) → part ≡ flat_map item_text items ++ rest → IsTrue (list_all is_item items) → first_item rest ≡ None
          → 1 ≤ length rest → IsStuck rest → at ≡ 1 + length (flat_map item_text items) → IsOpenAt (part ∷ parts) at
      opened items [] spelled lawful none long stuck place = absurd (omega arith)
      opened items (first ∷ rest) spelled lawful none long (inl unshut) place = record {
        before = [];
        items = items;
        first = first;
        rest = rest;
        after = parts;
        cut = ap (λ p. p ∷ parts) spelled;
        whole = All-nil IsLawfulPart;
        lawful = lawful;
        unclosed = unshut;
        place = omega arith;
      }
      opened items (first ∷ rest) spelled lawful none long (inr slash) place =
          let clear = sym (list_any-append is_slash (flat_map item_text items) (first ∷ rest)) ∙ ap (list_any is_slash) (sym spelled)
          ∙ All-head HasNoSlash part parts clean in
          let none = (or_parts (is_slash first) (list_any is_slash rest)
          (or_parts (list_any is_slash (flat_map item_text items)) (list_any is_slash (first ∷ rest)) clear).1).0 in
          absurd (cc)

      go : (r : Result (List Item) ℕ) → IsRead part r → open_in r (length part) (open_place parts) ≡ Some at
          → ((n : ℕ) → open_place parts ≡ Some n → IsOpenAt parts n) → IsOpenAt (part ∷ parts) at
      go (Ok items) read e more =
          let found = map-Some _ (open_place parts) at e in
          let there = more found.0 found.1 in
          let place = there.place in
          record {
            before = part ∷ there.before;
            items = there.items;
            first = there.first;
            rest = there.rest;
            after = there.after;
            cut = ap (λ p. part ∷ p) there.cut;
            whole = All-cons IsLawfulPart part there.before (items, read) there.whole;
            lawful = there.lawful;
            unclosed = there.unclosed;
            place = omega (arith, found.2, length-append part (flat_map (λ part. 47 ∷ part) there.before));
          }
      go (Err k) (items, rest, spelled, lawful, place, stuck, long) e more =
          let found : IsStuck rest = subst (FirstItem rest) stuck (first_item-found rest) in
          let here = some_same _ _ e in
          opened items rest spelled lawful stuck long found (omega arith)

first_item-unclosed : (first : ℕ) (rest : List ℕ) → IsUnclosed first rest → first_item (first ∷ rest) ≡ None
first_item-unclosed first rest (inl (e, none)) = rw e (go (cut_at is_list_end rest) (cut_at-cuts is_list_end rest)) where
  go : (o : Option (List ℕ × List ℕ)) → CutAt is_list_end rest o → option_map {U = Item × List ℕ} (λ cut. (set cut.0, cut.1)) o ≡ None
  go None h = refl
  go (Some cut) (b, spelled, at, before) =
      let has = ap (list_any is_list_end) spelled ∙ list_any-append is_list_end cut.0 (b ∷ cut.1) in absurd (cc)
first_item-unclosed first rest (inr (e, none)) = rw e (go (cut_at is_choice_end rest) (cut_at-cuts is_choice_end rest)) where
  go : (o : Option (List ℕ × List ℕ)) → CutAt is_choice_end rest o → option_map {U = Item × List ℕ} (λ cut. (choice cut.0, cut.1)) o ≡ None
  go None h = refl
  go (Some cut) (b, spelled, at, before) =
      let has = ap (list_any is_choice_end) spelled ∙ list_any-append is_choice_end cut.0 (b ∷ cut.1) in absurd (cc)

read_part-open : (items : List Item) (first : ℕ) (rest : List ℕ) → list_all is_item items ≡ true → IsUnclosed first rest
    → read_part (flat_map item_text items ++ first ∷ rest) ≡ Err (length (flat_map item_text items))
read_part-open [] first rest lawful unshut = read_part-stuck first rest (first_item-unclosed first rest unshut)
read_part-open (item ∷ items) first rest lawful unshut =
    let both = and_parts (is_item item) (list_all is_item items) lawful in
    let more = read_part-open items first rest both.1 unshut in
    let left = flat_map item_text items ++ first ∷ rest in
    ap read_part (append_assoc (item_text item) (flat_map item_text items) (first ∷ rest))
    ∙ read_part-item (item_text item ++ left) item left (first_item-written item left both.0)
    ∙ ap (λ r. with_first (Some (item, r))) more
    ∙ ap Err (sym (length-append (item_text item) (flat_map item_text items)))

-- a bracket that isn't closed is read at its place
open_place-open : (before : List (List ℕ)) (items : List Item) (first : ℕ) (rest : List ℕ) (after : List (List ℕ)) → All IsLawfulPart before
    → list_all is_item items ≡ true → IsUnclosed first rest
    → open_place (before ++ (flat_map item_text items ++ first ∷ rest) ∷ after)
    ≡ Some (length (flat_map (λ part. 47 ∷ part) before) + (1 + length (flat_map item_text items)))
open_place-open [] items first rest after whole lawful unshut = rw (read_part-open items first rest lawful unshut) (ap Some (omega arith))
open_place-open (part ∷ before) items first rest after whole lawful unshut =
    let head = All-head IsLawfulPart part before whole in
    rw (IsPart-read part head.0 head.1, open_place-open before items first rest after (All-tail IsLawfulPart part before whole) lawful unshut)
    (ap Some (omega (arith, length-append part (flat_map (λ part. 47 ∷ part) before))))

IsOpenAt-read : (parts : List (List ℕ)) (at : ℕ) → IsOpenAt parts at → open_place parts ≡ Some at
IsOpenAt-read parts at there =
    ap open_place there.cut ∙ open_place-open there.before there.items there.first there.rest there.after there.whole there.lawful there.unclosed
    ∙ ap Some (sym there.place)

position-None : (p : ℕ → Bool) (xs : List ℕ) → list_any p xs ≡ false → position p xs ≡ None
position-None p xs none = go (nat_lt (position_or_len p xs) (length xs)) refl where
  go : (t : Bool) → nat_lt (position_or_len p xs) (length xs) ≡ t → cond t (Some (position_or_len p xs)) None ≡ None
  go true e =
      let below = ltb-true _ _ e in
      let has = list_any_at p xs (position_or_len p xs) 0 below (passes_at_first p xs 0 below) in absurd (cc)
  go false e = refl

None-position : (p : ℕ → Bool) (xs : List ℕ) → position p xs ≡ None → list_any p xs ≡ false
None-position p xs none = go (nat_lt (position_or_len p xs) (length xs)) refl none where
  go : (t : Bool) → nat_lt (position_or_len p xs) (length xs) ≡ t → cond t (Some (position_or_len p xs)) None ≡ None → list_any p xs ≡ false
  go true e none = absurd (cc)
  go false e none = none_past p xs (ltb-false _ _ e)

-- a fault is the one that is read
pub IsFault-read : (bytes : List ℕ) (kind at : ℕ) → IsFault bytes kind at → pattern_fault bytes ≡ Some (record { kind = kind; at = at })
IsFault-read bytes kind at (start e) = rw e refl
IsFault-read bytes kind at (byte place e outside) = rw (e, outside) refl
IsFault-read bytes kind at (unclosed place e inside there) = rw (e, position-None is_outside bytes inside, IsOpenAt-read (parts_of bytes) place there) refl

-- what the reading of a pattern says
abbrev pub IsFound : List ℕ → Option PatternFault → Type 0
IsFound bytes None = IsPattern bytes
IsFound bytes (Some fault) = IsFault bytes fault.kind fault.at

pub pattern_fault-found : (bytes : List ℕ) → IsFound bytes (pattern_fault bytes)
pattern_fault-found bytes = by_slash (begins_with_slash bytes) refl where
  by_open : (o : Option ℕ) → open_place (parts_of bytes) ≡ o → begins_with_slash bytes ≡ true → list_any is_outside bytes ≡ false
      → IsFound bytes (option_map (λ at. record { kind = 11; at = at }) o)
  by_open None e slash inside = record { slash = slash; inside = inside; parts = open_place-none (parts_of bytes) e }
  by_open (Some at) e slash inside = unclosed at slash inside (open_place-some (parts_of bytes) at (parts_of-no_slash bytes) e)

  by_byte : (o : Option ℕ) → position is_outside bytes ≡ o → begins_with_slash bytes ≡ true → IsFound bytes (fault_after o (open_place (parts_of bytes)))
  by_byte None e slash = by_open (open_place (parts_of bytes)) refl slash (None-position is_outside bytes e)
  by_byte (Some at) e slash = byte at slash e

  by_slash : (t : Bool) → begins_with_slash bytes ≡ t
      → IsFound bytes (if t then fault_after (position is_outside bytes) (open_place (parts_of bytes)) else Some (record { kind = 4; at = 0 }))
  by_slash true e = by_byte (position is_outside bytes) refl e
  by_slash false e = start e

pub IsPattern-read : (bytes : List ℕ) → IsPattern bytes → pattern_fault bytes ≡ None
IsPattern-read bytes lawful = rw (lawful.slash, position-None is_outside bytes lawful.inside, open_place-lawful (parts_of bytes) lawful.parts) refl

-- a part matches a name exactly where the matcher says so
pub match_part-sound : (part name : List ℕ) → match_part part name ≡ true → MatchesName part name
match_part-sound part name h = go (read_part part) (read_part-read part) h where
  go : (r : Result (List Item) ℕ) → IsRead part r → match_read r name ≡ true → MatchesName part name
  go (Ok items) read h = record { items = items; read = read; cut = match_items-sound items name h }
  go (Err at) read h = absurd (cc)

pub match_part-complete : (part name : List ℕ) → MatchesName part name → match_part part name ≡ true
match_part-complete part name m = rw (IsPart-read part m.items m.read) (match_items-complete m.items name m.cut)

match_parts-sound : (parts names : List (List ℕ)) → match_parts parts names ≡ true → MatchParts parts names
match_parts-sound [] [] h = tt
match_parts-sound [] (name ∷ names) h = absurd (cc)
match_parts-sound (part ∷ parts) [] h = absurd (cc)
match_parts-sound (part ∷ parts) (name ∷ names) h =
    let both = and_parts (match_part part name) (match_parts parts names) h in
    (match_part-sound part name both.0, match_parts-sound parts names both.1)

match_parts-complete : (parts names : List (List ℕ)) → MatchParts parts names → match_parts parts names ≡ true
match_parts-complete [] [] m = refl
match_parts-complete [] (name ∷ names) m = absurd m
match_parts-complete (part ∷ parts) [] m = absurd m
match_parts-complete (part ∷ parts) (name ∷ names) m = rw (match_part-complete part name m.0) (match_parts-complete parts names m.1)

-- a pattern matches an address exactly where the matcher says so
pub matches-sound : (pattern address : List ℕ) → matches pattern address ≡ true → Match pattern address
matches-sound pattern address = match_parts-sound (parts_of pattern) (parts_of address)

pub matches-complete : (pattern address : List ℕ) → Match pattern address → matches pattern address ≡ true
matches-complete pattern address = match_parts-complete (parts_of pattern) (parts_of address)

-- a text without a fault is a pattern
pub pattern_fault-none : (bytes : List ℕ) → pattern_fault bytes ≡ None → IsPattern bytes
pattern_fault-none bytes e = subst (IsFound bytes) e (pattern_fault-found bytes)

pub is_pattern-sound : (bytes : List ℕ) → is_pattern bytes ≡ true → IsPattern bytes
is_pattern-sound bytes h = go (pattern_fault bytes) (pattern_fault-found bytes) h where
  go : (o : Option PatternFault) → IsFound bytes o → is_none o ≡ true → IsPattern bytes
  go None found h = found
  go (Some fault) found h = absurd (cc)

pub is_pattern-exact : (bytes : List ℕ) → (IsTrue (is_pattern bytes) ↔ IsPattern bytes)
is_pattern-exact bytes = (is_pattern-sound bytes, λ lawful. ap is_none (IsPattern-read bytes lawful))

-- how many parts there are
parts_of-length : (bytes : List ℕ) → begins_with_slash bytes ≡ true → length (parts_of bytes) ≡ count_by is_slash bytes
parts_of-length [] e = absurd (cc)
parts_of-length (x ∷ xs) e =
    length-slice_split is_slash xs
    ∙ (let one : cond {A = ℕ} (is_slash x) 1 0 ≡ 1 = rw e refl in omega (arith, sum_by-cons (λ y. cond {A = ℕ} (is_slash y) 1 0) x xs))

pub parts_of-count : (bytes : List ℕ) → is_pattern bytes ≡ true → length (parts_of bytes) ≡ count_by is_slash bytes
parts_of-count bytes h = parts_of-length bytes (is_pattern-sound bytes h).slash

-- the answer of the matcher as a fact
pub match_part-decides : (r : Bool) (part name : List ℕ) → r ≡ match_part part name → (IsTrue r ↔ MatchesName part name)
match_part-decides r part name e = (λ yes. match_part-sound part name (sym e ∙ yes), λ m. e ∙ match_part-complete part name m)

pub matches-decides : (r : Bool) (pattern address : List ℕ) → r ≡ matches pattern address → (IsTrue r ↔ Match pattern address)
matches-decides r pattern address e = (λ yes. matches-sound pattern address (sym e ∙ yes), λ m. e ∙ matches-complete pattern address m)

pub ruleset laws = (is_pattern-sound, parts_of-count, match_part-decides, matches-decides)
