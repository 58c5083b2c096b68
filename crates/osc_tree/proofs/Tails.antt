-- A star and a plain tail match the names that end with the tail.
use Rattle.std.proofs.Common.{◌≡◌, ℕ, suc, ◌-◌, Bool, true, false, not, cond, ◌&&◌, ◌||◌, List, [], ◌∷◌, length, drop}
use Rattle.std.proofs.Common.{nat_eq, nat_lt, refl, sym, ap, ◌∙◌, arith}
use Rattle.std.specs.List.{list_any, slice_split, onto_first, ends_with}
use Rattle.std.specs.Cmp.Lexicographic.{pointwise, unequal}
use Rattle.std.proofs.Math.Bool.{and-true, and-false}
use Rattle.std.proofs.lemmas.Bool.{or_parts, both_ways, ltb-true, ltb-false}
use Rattle.std.proofs.lemmas.Bool.Decides.{nat_tests}
use Rattle.osc_pattern.specs.Items.{is_slash, star}
use Rattle.osc_pattern.specs.Patterns.{is_special, match_parts}
use Rattle.osc_pattern.specs.Cuts.{rests}
use Rattle.osc_pattern.specs.Reading.{match_part}
use Rattle.osc_pattern.proofs.Parts.{split-cons}
use Rattle.osc_pattern.proofs.Matches.{match_part-item}
use Rattle.osc_tree.specs.Choosing.{is_odd}
use Rattle.osc_tree.proofs.Literals.{empty_part, plain_first, plain_none, plain_same}
use Rattle.osc_tree.proofs.Onward.{one_piece}

pub nothing_alone : match_part [] [] ≡ true
unfolding Rattle.osc_pattern.specs.Reading.read_part
nothing_alone = refl

-- a plain part matches itself alone
plain_is : (part name : List ℕ) → list_any is_odd part ≡ false → match_part part name ≡ pointwise nat_eq part name
plain_is [] [] none = nothing_alone
plain_is [] (x ∷ name) none = empty_part x name
plain_is (byte ∷ part) [] none =
    let both = or_parts (is_odd byte) (list_any is_odd part) none in
    let even = or_parts (is_special byte) (is_slash byte) both.0 in
    plain_none byte part even.0 even.1
plain_is (byte ∷ part) (x ∷ name) none =
    let both = or_parts (is_odd byte) (list_any is_odd part) none in
    let even = or_parts (is_special byte) (is_slash byte) both.0 in
    go even.0 even.1 (nat_eq byte x) refl (plain_is part name both.1) where
      go : is_special byte ≡ false → is_slash byte ≡ false → (t : Bool) → nat_eq byte x ≡ t → match_part part name ≡ pointwise nat_eq part name
          → match_part (byte ∷ part) (x ∷ name) ≡ (t && pointwise nat_eq part name)
      go special slash true e more =
          let same : x ≡ byte = grind (arith, nat_tests) in
          ap (λ y. match_part (byte ∷ part) (y ∷ name)) same ∙ plain_same byte part name special slash ∙ more
      go special slash false e more = differs (match_part (byte ∷ part) (x ∷ name)) refl where
        differs : (m : Bool) → match_part (byte ∷ part) (x ∷ name) ≡ m → m ≡ false
        differs false h = refl
        differs true h =
            let same = (plain_first byte x part name special slash h).0 in
            let yes : nat_eq byte x ≡ true = grind (arith, nat_tests) in
            absurd (both_ways (nat_eq byte x) e yes)

any_same : {X : Type 0} (p q : X → Bool) (xs : List X) → ((x : X) → p x ≡ q x) → list_any p xs ≡ list_any q xs
any_same p q [] same = refl
any_same p q (x ∷ xs) same = ap (λ t. t || list_any p xs) (same x) ∙ ap (λ t. q x || t) (any_same p q xs same)

-- what is left of a name is the tail for one place at most
tail_left : (tail name : List ℕ) → list_any (pointwise nat_eq tail) (rests name) ≡ ends_with nat_eq name tail
tail_left [] [] = refl
tail_left (t ∷ tail) [] = let at : 0 - suc (length tail) ≡ 0 = omega arith in sym (ap (λ n. pointwise nat_eq (t ∷ tail) (drop n [])) at)
tail_left tail (x ∷ name) = go (nat_lt (length name) (length tail)) refl (tail_left tail name) where
  go : (t : Bool) → nat_lt (length name) (length tail) ≡ t → list_any (pointwise nat_eq tail) (rests name) ≡ ends_with nat_eq name tail
      → (pointwise nat_eq tail (x ∷ name) || list_any (pointwise nat_eq tail) (rests name)) ≡ ends_with nat_eq (x ∷ name) tail
  go false is more =
      let le = ltb-false (length name) (length tail) is in
      let at : suc (length name) - length tail ≡ suc (length name - length tail) = omega arith in
      ap (λ t. t || list_any (pointwise nat_eq tail) (rests name)) (unequal nat_eq tail (x ∷ name) (λ e. absurd (omega arith)))
      ∙ more ∙ sym (ap (λ n. pointwise nat_eq tail (drop n (x ∷ name))) at)
  go true is more =
      let lt = ltb-true (length name) (length tail) is in
      let here : length name - length tail ≡ 0 = omega arith in
      let at : suc (length name) - length tail ≡ 0 = omega arith in
      let none : list_any (pointwise nat_eq tail) (rests name) ≡ false =
      more ∙ ap (λ n. pointwise nat_eq tail (drop n name)) here ∙ unequal nat_eq tail name (λ e. absurd (omega arith)) in
      ap (λ t. pointwise nat_eq tail (x ∷ name) || t) none
      ∙ alone (pointwise nat_eq tail (x ∷ name))
      ∙ sym (ap (λ n. pointwise nat_eq tail (drop n (x ∷ name))) at)
    where
      alone : (t : Bool) → (t || false) ≡ t
      alone true = refl
      alone false = refl

-- a star and a plain tail match the names that end with the tail
star_tail : (tail name : List ℕ) → list_any is_odd tail ≡ false → match_part (42 ∷ tail) name ≡ ends_with nat_eq name tail
star_tail tail name none =
    match_part-item (42 ∷ tail) star tail name refl
    ∙ any_same (match_part tail) (pointwise nat_eq tail) (rests name) (λ left. plain_is tail left none)
    ∙ tail_left tail name

-- a text with a slash has two parts
two_pieces : (text : List ℕ) → list_any is_slash text ≡ true → (one two : List ℕ) × (more : List (List ℕ)) × (slice_split is_slash text ≡ one ∷ two ∷ more)
two_pieces [] e = absurd (cc)
two_pieces (x ∷ text) e = go (is_slash x) e (split-cons text) (two_pieces text) where
  go : (t : Bool) → (t || list_any is_slash text) ≡ true → (part : List ℕ) × (parts : List (List ℕ)) × (slice_split is_slash text ≡ part ∷ parts)
      → (list_any is_slash text ≡ true → (one two : List ℕ) × (more : List (List ℕ)) × (slice_split is_slash text ≡ one ∷ two ∷ more))
      → (one two : List ℕ) × (more : List (List ℕ)) × (cond t ([] ∷ slice_split is_slash text) (onto_first x (slice_split is_slash text)) ≡ one ∷ two ∷ more)
  go true e (part, parts, f) more = ([], part, parts, ap (λ l. [] ∷ l) f)
  go false e found more = let there = more e in (x ∷ there.0, there.1, there.2, ap (onto_first x) there.3)

-- one part matches one name
one_name : (part rest : List ℕ) → match_parts (part ∷ []) (slice_split is_slash rest) ≡ (not (list_any is_slash rest) && match_part part rest)
one_name part rest = go (list_any is_slash rest) refl where
  go : (t : Bool) → list_any is_slash rest ≡ t → match_parts (part ∷ []) (slice_split is_slash rest) ≡ (not t && match_part part rest)
  go true e =
      let found = two_pieces rest e in
      ap (match_parts (part ∷ [])) found.3 ∙ and-false (match_part part found.0)
  go false e = ap (match_parts (part ∷ [])) (one_piece rest e) ∙ and-true (match_part part rest)

no_slash : (tail : List ℕ) → list_any is_odd tail ≡ false → list_any is_slash tail ≡ false
no_slash [] none = refl
no_slash (x ∷ tail) none =
    let both = or_parts (is_odd x) (list_any is_odd tail) none in
    ap (λ t. t || list_any is_slash tail) (or_parts (is_special x) (is_slash x) both.0).1 ∙ no_slash tail both.1

-- a star and a plain tail match one name that ends with the tail
pub tail_name : (tail rest : List ℕ) → list_any is_odd tail ≡ false
    → match_parts (slice_split is_slash (42 ∷ tail)) (slice_split is_slash rest) ≡ (not (list_any is_slash rest) && ends_with nat_eq rest tail)
tail_name tail rest none =
    ap (λ parts. match_parts parts (slice_split is_slash rest)) (one_piece (42 ∷ tail) (no_slash tail none))
    ∙ one_name (42 ∷ tail) rest
    ∙ ap (λ t. not (list_any is_slash rest) && t) (star_tail tail rest none)
