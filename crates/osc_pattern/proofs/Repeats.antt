-- Repeats of a text: its items one after another, and that what leaves all as it was may be left out.
use Rattle.std.proofs.Common.{◌≡◌, ℕ, zero, suc, ◌-◌, ◌≤◌, Bool, true, false, ◌||◌, ◌==◌, ◌++◌, Option, Some, None, Result, Ok, Err, List, [], ◌∷◌}
use Rattle.std.proofs.Common.{length, take, drop, refl, arith, sym, ap, ◌∙◌}
use Rattle.std.proofs.Math.ListN.{get_or}
use Rattle.std.proofs.lemmas.List.{take_rest}
use Rattle.std.specs.List.{list_any, flat_map}
use Rattle.std.proofs.lemmas.List.Folds.{list_any-append}
use Rattle.std.proofs.lemmas.Bool.Decides.{nat_tests}
use Rattle.osc_pattern.specs.Items.{Item, choice, is_choice_end}
use Rattle.osc_pattern.specs.Cuts.{after_item, any_rest}
use Rattle.osc_pattern.specs.Reading.{cut_at, first_item, with_first, read_part, match_part}
use Rattle.osc_pattern.specs.Repeats.{after_items, after_read, after_part, after_times}
use Rattle.std.specs.Prelude.{option_map}
use Rattle.osc_pattern.proofs.Cutting.{CutAt, cut_at-cuts, cut_at-first}
use Rattle.osc_pattern.proofs.Readings.{read_part-item, read_part-nil, read_part-stuck}
use Rattle.osc_pattern.proofs.Matches.{never}
use Rattle.osc_pattern.proofs.Moves.{same_any}
use Rattle.osc_pattern.proofs.Reaches.{any_rest-same}

or_false : (t : Bool) → (t || false) ≡ t
or_false true = refl
or_false false = refl

-- what passes among what many names leave
pub any_of_all : (test : List ℕ → Bool) (f : List ℕ → List (List ℕ)) (xs : List (List ℕ))
    → list_any test (flat_map f xs) ≡ list_any (λ x. list_any test (f x)) xs
any_of_all test f [] = refl
any_of_all test f (x ∷ xs) = list_any-append test (f x) (flat_map f xs) ∙ ap (λ t. list_any test (f x) || t) (any_of_all test f xs)

read_first : (test : List ℕ → Bool) (item : Item) (r : Result (List Item) ℕ) (name : List ℕ)
    → list_any test (after_read (with_first (Some (item, r))) name) ≡ list_any (λ left. list_any test (after_read r left)) (after_item item name)
read_first test item (Ok items) name = any_of_all test (after_items items) (after_item item name)
read_first test item (Err at) name = sym (never (after_item item name))

-- after a part: after its first item, and then the others
pub part_first : (test : List ℕ → Bool) (part : List ℕ) (item : Item) (others name : List ℕ) → first_item part ≡ Some (item, others)
    → list_any test (after_part part name) ≡ list_any (λ left. list_any test (after_part others left)) (after_item item name)
part_first test part item others name found =
    ap (λ r. list_any test (after_read r name)) (read_part-item part item others found) ∙ read_first test item (read_part others) name

pub part_end : (test : List ℕ → Bool) (part name : List ℕ) → (length part == 0) ≡ true → list_any test (after_part part name) ≡ test name
part_end test [] name e = ap (λ r. list_any test (after_read r name)) read_part-nil ∙ or_false (test name)
part_end test (x ∷ xs) name e = (let t : (length (x ∷ xs) == 0) ≡ false = grind (arith, nat_tests) in cc)

pub part_stuck : (test : List ℕ → Bool) (part name : List ℕ) → first_item part ≡ None → (length part == 0) ≡ false
    → list_any test (after_part part name) ≡ false
part_stuck test [] name e filled = cc
part_stuck test (x ∷ xs) name e filled = ap (λ r. list_any test (after_read r name)) (read_part-stuck x xs e)

-- one repeat more at the end
pub times_more : (times : ℕ) (unit rest left : List ℕ)
    → ((name : List ℕ) → list_any (match_part left) (after_part unit name) ≡ match_part rest name)
    → (name : List ℕ) → list_any (match_part left) (after_times (suc times) unit name) ≡ list_any (match_part rest) (after_times times unit name)
times_more zero unit rest left same name =
    any_of_all (match_part left) (after_times zero unit) (after_part unit name)
    ∙ same_any (λ x. list_any (match_part left) (after_times zero unit x)) (match_part left) (λ x. or_false (match_part left x)) (after_part unit name)
    ∙ same name ∙ sym (or_false (match_part rest name))
times_more (suc times) unit rest left same name =
    any_of_all (match_part left) (after_times (suc times) unit) (after_part unit name)
    ∙ same_any (λ x. list_any (match_part left) (after_times (suc times) unit x)) (λ x. list_any (match_part rest) (after_times times unit x))
    (λ x. times_more times unit rest left same x) (after_part unit name)
    ∙ sym (any_of_all (match_part rest) (after_times times unit) (after_part unit name))

-- the places after one repeat, and then the others
pub times_first : (test : List ℕ → Bool) (times : ℕ) (unit : List ℕ) (places : ℕ → Bool) (name : List ℕ)
    → any_rest (λ rest. list_any (λ left. list_any test (after_times times unit left)) (after_part unit rest)) places 0 name
    ≡ any_rest (λ rest. list_any test (after_times (suc times) unit rest)) places 0 name
times_first test times unit places name =
    any_rest-same (λ rest. list_any (λ left. list_any test (after_times times unit left)) (after_part unit rest))
    (λ rest. list_any test (after_times (suc times) unit rest))
    (λ rest. sym (any_of_all test (after_times times unit) (after_part unit rest))) places 0 name

-- no repeat
pub times_none : (test : List ℕ → Bool) (unit : List ℕ) (places : ℕ → Bool) (name : List ℕ)
    → any_rest (λ rest. list_any test (after_times zero unit rest)) places 0 name ≡ any_rest test places 0 name
times_none test unit places name =
    any_rest-same (λ rest. list_any test (after_times zero unit rest)) test (λ rest. or_false (test rest)) places 0 name

-- places that a repeat leaves as they are, more repeats leave as they are
pub times_steady : (unit : List ℕ) (places : ℕ → Bool) (name : List ℕ)
    → ((test : List ℕ → Bool) → any_rest test places 0 name ≡ any_rest (λ rest. list_any test (after_part unit rest)) places 0 name)
    → (times : ℕ) (test : List ℕ → Bool) → any_rest test places 0 name ≡ any_rest (λ rest. list_any test (after_times times unit rest)) places 0 name
times_steady unit places name steady zero test = sym (times_none test unit places name)
times_steady unit places name steady (suc times) test =
    times_steady unit places name steady times test
    ∙ steady (λ rest. list_any test (after_times times unit rest))
    ∙ times_first test times unit places name

-- a text of eight bytes or more is these and the rest
pub eight_and_rest : (xs : List ℕ) → 8 ≤ length xs
    → xs ≡ get_or xs 0 0 ∷ get_or xs 1 0 ∷ get_or xs 2 0 ∷ get_or xs 3 0 ∷ get_or xs 4 0 ∷ get_or xs 5 0 ∷ get_or xs 6 0 ∷ get_or xs 7 0
    ∷ take (length xs - 8) (drop 8 xs)
eight_and_rest [] some = absurd (omega arith)
eight_and_rest (a ∷ []) some = absurd (omega arith)
eight_and_rest (a ∷ b ∷ []) some = absurd (omega arith)
eight_and_rest (a ∷ b ∷ c ∷ []) some = absurd (omega arith)
eight_and_rest (a ∷ b ∷ c ∷ d ∷ []) some = absurd (omega arith)
eight_and_rest (a ∷ b ∷ c ∷ d ∷ e ∷ []) some = absurd (omega arith)
eight_and_rest (a ∷ b ∷ c ∷ d ∷ e ∷ f ∷ []) some = absurd (omega arith)
eight_and_rest (a ∷ b ∷ c ∷ d ∷ e ∷ f ∷ g ∷ []) some = absurd (omega arith)
eight_and_rest (a ∷ b ∷ c ∷ d ∷ e ∷ f ∷ g ∷ h ∷ rest) some =
    ap (λ left. a ∷ b ∷ c ∷ d ∷ e ∷ f ∷ g ∷ h ∷ left) (sym (take_rest (a ∷ b ∷ c ∷ d ∷ e ∷ f ∷ g ∷ h ∷ rest) 8))

-- ---- the end of a choice, found on the way

cut_none : (p : ℕ → Bool) (xs : List ℕ) → list_any p xs ≡ false → cut_at p xs ≡ None
cut_none p xs none = go (cut_at p xs) (cut_at-cuts p xs) where
  go : (o : Option (List ℕ × List ℕ)) → CutAt p xs o → o ≡ None
  go None none = refl
  go (Some (before, after)) (byte, spelled, at, first) =
      let e : list_any p xs ≡ true = ap (list_any p) spelled ∙ list_any-append p before (byte ∷ after) ∙ rw (first, at) refl in cc

pub no_end : (texts front rest : List ℕ) → texts ≡ front ++ rest → rest ≡ [] → list_any is_choice_end front ≡ false
    → first_item (123 ∷ texts) ≡ None
no_end texts front rest spelled e none =
    ap (option_map (λ cut. (choice cut.0, cut.1)))
    (cut_none is_choice_end texts (ap (list_any is_choice_end) (spelled ∙ ap (λ r. front ++ r) e) ∙ list_any-append is_choice_end front [] ∙ rw none refl))

pub choice_found : (texts front rest others : List ℕ) (byte : ℕ) → texts ≡ front ++ rest → rest ≡ byte ∷ others → byte ≡ 125
    → list_any is_choice_end front ≡ false → first_item (123 ∷ texts) ≡ Some (choice front, others)
choice_found texts front rest others byte spelled first is none =
    ap (option_map (λ cut. (choice cut.0, cut.1)))
    (ap (cut_at is_choice_end) (spelled ∙ ap (λ r. front ++ r) (first ∙ ap (λ b. b ∷ others) is)) ∙ cut_at-first is_choice_end front 125 others none refl)

pub moved_on : (front : List ℕ) (byte : ℕ) (others : List ℕ) → front ++ byte ∷ others ≡ (front ++ byte ∷ []) ++ others
moved_on [] byte others = refl
moved_on (x ∷ front) byte others = ap (λ xs. x ∷ xs) (moved_on front byte others)

pub none_after : (front : List ℕ) → front ++ [] ≡ front
none_after [] = refl
none_after (x ∷ front) = ap (λ xs. x ∷ xs) (none_after front)

no_end_byte : (byte : ℕ) → (byte ≡ 125 → ⊥) → (byte == 125) ≡ false
no_end_byte byte differs = go (byte == 125) refl where
  go : (t : Bool) → (byte == 125) ≡ t → t ≡ false
  go true e = absurd (differs (grind (arith, nat_tests, e)))
  go false e = refl

pub still_none : (front : List ℕ) (byte : ℕ) → list_any is_choice_end front ≡ false → (byte ≡ 125 → ⊥)
    → list_any is_choice_end (front ++ byte ∷ []) ≡ false
still_none front byte none differs =
    let other : (byte == 125) ≡ false = no_end_byte byte differs in
    list_any-append is_choice_end front (byte ∷ []) ∙ rw (none, other) refl
