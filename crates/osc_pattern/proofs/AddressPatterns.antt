-- An address is a pattern that has no special bytes.
use Rattle.std.proofs.Common.{◌≡◌, ℕ, Bool, true, false, cond, List, [], ◌∷◌, refl, arith, subst}
use Rattle.std.specs.Prelude.{◌↔◌, All}
use Rattle.std.specs.List.{list_any, slice_split, onto_first}
use Rattle.std.proofs.lemmas.Bool.Decides.{nat_tests}
use Rattle.std.proofs.lemmas.Bool.{or_parts}
use Rattle.std.proofs.lemmas.List.Elements.{All-cons, All-nil, All-head, All-tail}
use Rattle.osc_pattern.specs.Items.{is_slash}
use Rattle.osc_pattern.specs.Parts.{IsLawfulPart}
use Rattle.osc_pattern.specs.Patterns.{IsPattern, Match, begins_with_slash, parts_of, is_special, is_outside}
use Rattle.osc_pattern.specs.Addresses.{IsAddress, is_bad_byte}
use Rattle.osc_pattern.proofs.PatternLaws.{HasNoSlash, parts_of-no_slash}
use Rattle.osc_pattern.proofs.PlainPatterns.{HasNoSpecial, plain_part, plain_parts, own_parts, same_bytes}

abbrev HasNoBad : List ℕ → Type 0
HasNoBad part = list_any is_bad_byte part ≡ false

abbrev IsInside : List ℕ → Type 0
IsInside part = list_any is_outside part ≡ false

good_special : (x : ℕ) → is_bad_byte x ≡ false → is_special x ≡ false
good_special x good = grind (arith, nat_tests)

good_inside : (x : ℕ) → is_bad_byte x ≡ false → is_outside x ≡ false
good_inside x good = grind (arith, nat_tests)

slash_inside : (x : ℕ) → is_slash x ≡ true → is_outside x ≡ false
slash_inside x slash = grind (arith, nat_tests)

-- what no byte of a list is, where another test says no of each
none_of : (p q : ℕ → Bool) → ((x : ℕ) → p x ≡ false → q x ≡ false) → (xs : List ℕ) → list_any p xs ≡ false → list_any q xs ≡ false
none_of p q less [] none = refl
none_of p q less (x ∷ xs) none =
    let both = or_parts (p x) (list_any p xs) none in rw (less x both.0) (none_of p q less xs both.1)

each_none : (p q : ℕ → Bool) → ((x : ℕ) → p x ≡ false → q x ≡ false) → (parts : List (List ℕ)) → All (λ part. list_any p part ≡ false) parts
    → All (λ part. list_any q part ≡ false) parts
each_none p q less [] all = All-nil (λ part. list_any q part ≡ false)
each_none p q less (part ∷ parts) all =
    All-cons (λ part. list_any q part ≡ false) part parts (none_of p q less part (All-head (λ part. list_any p part ≡ false) part parts all))
    (each_none p q less parts (All-tail (λ part. list_any p part ≡ false) part parts all))

first_inside : (x : ℕ) (parts : List (List ℕ)) (rest : List ℕ) → (All IsInside parts → IsInside rest) → All IsInside (onto_first x parts) → IsInside (x ∷ rest)
first_inside x [] rest more all =
    let one = or_parts (is_outside x) false (All-head IsInside (x ∷ []) [] all) in rw one.0 (more (All-nil IsInside))
first_inside x (part ∷ parts) rest more all =
    let both = or_parts (is_outside x) (list_any is_outside part) (All-head IsInside (x ∷ part) parts all) in
    rw both.0 (more (All-cons IsInside part parts both.1 (All-tail IsInside (x ∷ part) parts all)))

-- a text is inside where the parts between its slashes are
joined_inside : (xs : List ℕ) → All IsInside (slice_split is_slash xs) → IsInside xs
joined_inside [] all = refl
joined_inside (x ∷ xs) all = go (is_slash x) refl (joined_inside xs) all where
  go : (t : Bool) → is_slash x ≡ t → (All IsInside (slice_split is_slash xs) → IsInside xs)
      → All IsInside (cond t ([] ∷ slice_split is_slash xs) (onto_first x (slice_split is_slash xs))) → IsInside (x ∷ xs)
  go true slash more all = rw (slash_inside x slash) (more (All-tail IsInside [] (slice_split is_slash xs) all))
  go false other more all = first_inside x (slice_split is_slash xs) xs more all

address_inside : (bytes : List ℕ) → begins_with_slash bytes ≡ true → All IsInside (parts_of bytes) → IsInside bytes
address_inside [] slash all = refl
address_inside (x ∷ xs) slash all = rw (slash_inside x slash) (joined_inside xs all)

each_lawful : (parts : List (List ℕ)) → All HasNoSpecial parts → All HasNoSlash parts → All IsLawfulPart parts
each_lawful [] special slash = All-nil IsLawfulPart
each_lawful (part ∷ parts) special slash =
    All-cons IsLawfulPart part parts (_, plain_part part (All-head HasNoSpecial part parts special) (All-head HasNoSlash part parts slash))
    (each_lawful parts (All-tail HasNoSpecial part parts special) (All-tail HasNoSlash part parts slash))

without_special : (address : List ℕ) → IsAddress address → All HasNoSpecial (parts_of address)
without_special address lawful = each_none is_bad_byte is_special good_special (parts_of address) lawful.spelled

pub address_pattern : (address : List ℕ) → IsAddress address → IsPattern address
address_pattern address lawful = record {
  slash = lawful.slash;
  inside = address_inside address lawful.slash (each_none is_bad_byte is_outside good_inside (parts_of address) lawful.spelled);
  parts = each_lawful (parts_of address) (without_special address lawful) (parts_of-no_slash address);
}

pub matches_itself : (address other : List ℕ) → IsAddress address → IsAddress other → (Match address other ↔ (address ≡ other))
matches_itself address other lawful there =
    let special = without_special address lawful in
    let slash = parts_of-no_slash address in (
      λ m. same_bytes address other lawful.slash there.slash (plain_parts (parts_of address) (parts_of other) special slash m),
      λ e. subst (λ a. Match address a) e (own_parts (parts_of address) special slash),
    )
