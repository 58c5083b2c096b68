-- A pattern without special bytes matches its own address alone.
use Rattle.std.proofs.Common.{◌≡◌, ℕ, Bool, true, false, cond, ◌||◌, ◌==◌, not, List, [], ◌∷◌, ◌++◌, map, refl, arith, sym, ap, subst, ◌∙◌}
use Rattle.std.specs.Prelude.{◌↔◌, All}
use Rattle.std.specs.List.{list_any, list_all, flat_map, slice_split, onto_first, join_with_byte}
use Rattle.std.proofs.lemmas.Bool.Decides.{nat_tests}
use Rattle.std.proofs.lemmas.Bool.{or_parts}
use Rattle.std.proofs.lemmas.List.Elements.{All-cons, All-nil, All-head, All-tail}
use Rattle.std.proofs.lemmas.List.Splits.{join_with_byte-slice_split}
use Rattle.osc_pattern.specs.Items.{plain, item_text, is_item, is_plain, is_slash}
use Rattle.osc_pattern.specs.Parts.{IsPart, MatchesName, MatchPart}
use Rattle.osc_pattern.specs.Patterns.{IsPattern, Match, MatchParts, begins_with_slash, parts_of, is_special}
use Rattle.osc_pattern.specs.Addresses.{IsAddress}
use Rattle.osc_pattern.proofs.Readings.{one_reading}
use Rattle.osc_pattern.proofs.PatternLaws.{HasNoSlash, parts_of-no_slash}

abbrev pub HasNoSpecial : List ℕ → Type 0
HasNoSpecial part = list_any is_special part ≡ false

plain_byte : (x : ℕ) → is_special x ≡ false → is_slash x ≡ false → is_plain x ≡ true
plain_byte x special slash = go (x == 63) (x == 42) (x == 91) (x == 123) (is_slash x) special slash where
  go : (a b c d e : Bool) → (a || b || c || d) ≡ false → e ≡ false → not (a || b || c || d || e) ≡ true
  go a b c d e s f = rw (s, f) refl

plain_spelled : (part : List ℕ) → part ≡ flat_map item_text (map plain part)
plain_spelled [] = refl
plain_spelled (x ∷ xs) = ap (λ t. x ∷ t) (plain_spelled xs)

plain_lawful : (part : List ℕ) → HasNoSpecial part → HasNoSlash part → list_all is_item (map plain part) ≡ true
plain_lawful [] special slash = refl
plain_lawful (x ∷ xs) special slash =
    let s = or_parts (is_special x) (list_any is_special xs) special in
    let t = or_parts (is_slash x) (list_any is_slash xs) slash in
    rw (plain_byte x s.0 t.0) (plain_lawful xs s.1 t.1)

pub plain_part : (part : List ℕ) → HasNoSpecial part → HasNoSlash part → IsPart part (map plain part)
plain_part part special slash = record { spelled = plain_spelled part; lawful = plain_lawful part special slash }

plain_cut : (part name : List ℕ) → MatchPart (map plain part) name → part ≡ name
plain_cut [] name m = sym m
plain_cut (x ∷ xs) name (piece, rest, cut, text, more) = ap (λ t. x ∷ t) (plain_cut xs rest more) ∙ sym (cut ∙ ap (λ p. p ++ rest) text)

own_cut : (part : List ℕ) → MatchPart (map plain part) part
own_cut [] = refl
own_cut (x ∷ xs) = (x ∷ [], xs, refl, refl, own_cut xs)

plain_name : (part name : List ℕ) → HasNoSpecial part → HasNoSlash part → MatchesName part name → part ≡ name
plain_name part name special slash m =
    let items = one_reading part m.items (map plain part) m.read (plain_part part special slash) in
    plain_cut part name (subst (λ items. MatchPart items name) items m.cut)

own_name : (part : List ℕ) → HasNoSpecial part → HasNoSlash part → MatchesName part part
own_name part special slash = record { items = map plain part; read = plain_part part special slash; cut = own_cut part }

pub plain_parts : (parts names : List (List ℕ)) → All HasNoSpecial parts → All HasNoSlash parts → MatchParts parts names → parts ≡ names
plain_parts [] [] special slash m = refl
plain_parts [] (name ∷ names) special slash m = absurd m
plain_parts (part ∷ parts) [] special slash m = absurd m
plain_parts (part ∷ parts) (name ∷ names) special slash m =
    let first = plain_name part name (All-head HasNoSpecial part parts special) (All-head HasNoSlash part parts slash) m.0 in
    let more = plain_parts parts names (All-tail HasNoSpecial part parts special) (All-tail HasNoSlash part parts slash) m.1 in
    rw (first, more) refl

pub own_parts : (parts : List (List ℕ)) → All HasNoSpecial parts → All HasNoSlash parts → MatchParts parts parts
own_parts [] special slash = tt
own_parts (part ∷ parts) special slash = (
  own_name part (All-head HasNoSpecial part parts special) (All-head HasNoSlash part parts slash),
  own_parts parts (All-tail HasNoSpecial part parts special)
      (All-tail HasNoSlash part parts slash),
)

onto_no_special : (x : ℕ) (parts : List (List ℕ)) → is_special x ≡ false → All HasNoSpecial parts → All HasNoSpecial (onto_first x parts)
onto_no_special x [] other all = let alone : HasNoSpecial (x ∷ []) = rw other refl in All-cons HasNoSpecial (x ∷ []) [] alone all
onto_no_special x (part ∷ parts) other all =
    let first : HasNoSpecial (x ∷ part) = rw other (All-head HasNoSpecial part parts all) in
    All-cons HasNoSpecial (x ∷ part) parts first (All-tail HasNoSpecial part parts all)

split_no_special : (bytes : List ℕ) → HasNoSpecial bytes → All HasNoSpecial (slice_split is_slash bytes)
split_no_special [] none = All-cons HasNoSpecial [] [] refl (All-nil HasNoSpecial)
split_no_special (x ∷ xs) none =
    let both = or_parts (is_special x) (list_any is_special xs) none in go (is_slash x) both.0 (split_no_special xs both.1) where
      go : (t : Bool) → is_special x ≡ false → All HasNoSpecial (slice_split is_slash xs)
          → All HasNoSpecial (cond t ([] ∷ slice_split is_slash xs) (onto_first x (slice_split is_slash xs)))
      go true other all = All-cons HasNoSpecial [] (slice_split is_slash xs) refl all
      go false other all = onto_no_special x (slice_split is_slash xs) other all

parts_of-no_special : (bytes : List ℕ) → HasNoSpecial bytes → All HasNoSpecial (parts_of bytes)
parts_of-no_special [] none = All-nil HasNoSpecial
parts_of-no_special (x ∷ xs) none = split_no_special xs (or_parts (is_special x) (list_any is_special xs) none).1

pub same_bytes : (first second : List ℕ) → begins_with_slash first ≡ true → begins_with_slash second ≡ true → parts_of first ≡ parts_of second → first ≡ second
same_bytes [] second a b e = absurd (cc)
same_bytes (x ∷ xs) [] a b e = absurd (cc)
same_bytes (x ∷ xs) (y ∷ ys) a b e =
    let p : x ≡ 47 = grind (arith, nat_tests) in
    let q : y ≡ 47 = grind (arith, nat_tests) in
    let rest : xs ≡ ys = sym (join_with_byte-slice_split 47 xs) ∙ ap (join_with_byte 47) e ∙ join_with_byte-slice_split 47 ys in
    rw (p, q, rest) refl

pub plain_pattern : (pattern address : List ℕ) → IsPattern pattern → IsAddress address → list_any is_special pattern ≡ false
    → (Match pattern address ↔ (pattern ≡ address))
plain_pattern pattern address lawful there none =
    let special = parts_of-no_special pattern none in
    let slash = parts_of-no_slash pattern in (
      λ m. same_bytes pattern address lawful.slash there.slash (plain_parts (parts_of pattern) (parts_of address) special slash m),
      λ e. subst (λ a. Match pattern a) e (own_parts (parts_of pattern) special slash),
    )
