-- A pattern that is plain but for a choice of plain texts matches the addresses that the texts make.
use Rattle.std.proofs.Common.{◌≡◌, ℕ, Bool, true, false, cond, ◌||◌, ◌&&◌, ◌==◌, List, [], ◌∷◌, ◌++◌, length, take, drop}
use Rattle.std.proofs.Common.{get_or, All, refl, sym, ap, subst, ◌∙◌, arith}
use Rattle.std.specs.List.{list_any, slice_split, onto_first, flat_map}
use Rattle.std.specs.Str.{bytes_eq}
use Rattle.std.specs.Option.{option_map}
use Rattle.std.proofs.Math.Bool.{and_assoc}
use Rattle.std.proofs.lemmas.List.Concat.{flat_map-cons}
use Rattle.std.proofs.lemmas.List.Elements.{All-head, All-tail}
use Rattle.std.proofs.lemmas.List.Folds.{list_any-append}
use Rattle.std.proofs.lemmas.List.Splits.{slice_split-cons_no}
use Rattle.std.proofs.lemmas.Bool.{both_ways, or_parts}
use Rattle.std.proofs.lemmas.Bool.Decides.{nat_tests}
use Rattle.osc_pattern.specs.Cuts.{after_text}
use Rattle.osc_pattern.specs.Items.{choice, plain, is_comma, is_choice_end, is_slash}
use Rattle.osc_pattern.specs.Patterns.{begins_with_slash, is_special, match_parts, matches}
use Rattle.osc_pattern.specs.Reading.{first_item, match_part, read_part}
use Rattle.osc_pattern.proofs.Cutting.{cut_at-first}
use Rattle.osc_pattern.proofs.Matches.{match_part-item}
use Rattle.osc_pattern.proofs.Parts.{split-cons}
use Rattle.osc_tree.specs.Choosing.{is_odd, is_chosen, IsPlainChoice}
use Rattle.osc_tree.proofs.Choices.{pieces_none}
use Rattle.osc_tree.proofs.Literals.{empty_part, first_plain, plain_none}

and_false : (t : Bool) → (t && false) ≡ false
and_false true = refl
and_false false = refl

or_false : (t : Bool) → (t || false) ≡ t
or_false true = refl
or_false false = refl

no_bytes : match_part [] [] ≡ true
unfolding read_part
no_bytes = refl

-- a plain byte of a part, and the first of a name
plain_both : (b x : ℕ) (part name : List ℕ) → is_special b ≡ false → is_slash b ≡ false
    → match_part (b ∷ part) (x ∷ name) ≡ ((x == b) && match_part part name)
plain_both b x part name special slash =
    match_part-item (b ∷ part) (plain b) part (x ∷ name) (first_plain b part special slash) ∙ go (x == b)
  where
    go : (t : Bool) → list_any (match_part part) (cond t (name ∷ []) []) ≡ (t && match_part part name)
    go true = or_false (match_part part name)
    go false = refl

abbrev whole : List ℕ → List ℕ → Bool
whole pattern address = match_parts (slice_split is_slash pattern) (slice_split is_slash address)

no_address : (b : ℕ) (p : List ℕ) → is_special b ≡ false → whole (b ∷ p) [] ≡ false
no_address b p special = go (is_slash b) refl (split-cons p) where
  go : (t : Bool) → is_slash b ≡ t → (part : List ℕ) × (parts : List (List ℕ)) × (slice_split is_slash p ≡ part ∷ parts)
      → match_parts (cond t ([] ∷ slice_split is_slash p) (onto_first b (slice_split is_slash p))) ([] ∷ []) ≡ false
  go true is (part, parts, f) = ap (λ l. match_part [] [] && match_parts l []) f ∙ and_false (match_part [] [])
  go false is (part, parts, f) =
      ap (λ l. match_parts (onto_first b l) ([] ∷ [])) f ∙ ap (λ t. t && match_parts parts []) (plain_none b part special is)

-- a plain byte, and the first of an address after its slash
both_first : (b x : ℕ) (p a : List ℕ) → is_special b ≡ false → whole (b ∷ p) (x ∷ a) ≡ ((x == b) && whole p a)
both_first b x p a special = go (is_slash b) (is_slash x) refl refl (split-cons p) (split-cons a) where
  go : (s t : Bool) → is_slash b ≡ s → is_slash x ≡ t
      → (part : List ℕ) × (parts : List (List ℕ)) × (slice_split is_slash p ≡ part ∷ parts)
      → (name : List ℕ) × (names : List (List ℕ)) × (slice_split is_slash a ≡ name ∷ names)
      → match_parts (cond s ([] ∷ slice_split is_slash p) (onto_first b (slice_split is_slash p)))
      (cond t ([] ∷ slice_split is_slash a) (onto_first x (slice_split is_slash a)))
      ≡ ((x == b) && match_parts (slice_split is_slash p) (slice_split is_slash a))
  go true true e f those these =
      let same : (x == b) ≡ true = (let g : is_slash b ≡ true = e in let h : is_slash x ≡ true = f in grind (arith, nat_tests)) in
      ap (λ t. t && whole p a) no_bytes ∙ sym (ap (λ t. t && whole p a) same)
  go true false e f those (name, names, there) =
      let other : (x == b) ≡ false = (let g : is_slash b ≡ true = e in let h : is_slash x ≡ false = f in grind (arith, nat_tests)) in
      ap (λ l. match_parts ([] ∷ slice_split is_slash p) (onto_first x l)) there
      ∙ ap (λ t. t && match_parts (slice_split is_slash p) names) (empty_part x name) ∙ sym (ap (λ t. t && whole p a) other)
  go false true e f (part, parts, here) these =
      let other : (x == b) ≡ false = (let g : is_slash b ≡ false = e in let h : is_slash x ≡ true = f in grind (arith, nat_tests)) in
      ap (λ l. match_parts (onto_first b l) ([] ∷ slice_split is_slash a)) here
      ∙ ap (λ t. t && match_parts parts (slice_split is_slash a)) (plain_none b part special e) ∙ sym (ap (λ t. t && whole p a) other)
  go false false e f (part, parts, here) (name, names, there) =
      ap (λ l. match_parts (onto_first b l) (onto_first x (slice_split is_slash a))) here
      ∙ ap (λ l. match_parts ((b ∷ part) ∷ parts) (onto_first x l)) there
      ∙ ap (λ t. t && match_parts parts names) (plain_both b x part name special e)
      ∙ and_assoc (x == b) (match_part part name) (match_parts parts names)
      ∙ ap (λ l. (x == b) && match_parts l (name ∷ names)) (sym here)
      ∙ ap (λ l. (x == b) && match_parts (slice_split is_slash p) l) (sym there)

-- plain bytes match themselves
plain_whole : (p a : List ℕ) → list_any is_special p ≡ false → whole p a ≡ bytes_eq a p
plain_whole [] [] special = ap (λ t. t && true) no_bytes
plain_whole [] (x ∷ a) special = go (is_slash x) (split-cons a) where
  go : (t : Bool) → (name : List ℕ) × (names : List (List ℕ)) × (slice_split is_slash a ≡ name ∷ names)
      → match_parts ([] ∷ []) (cond t ([] ∷ slice_split is_slash a) (onto_first x (slice_split is_slash a))) ≡ false
  go true (name, names, f) = ap (λ l. match_part [] [] && match_parts [] l) f ∙ and_false (match_part [] [])
  go false (name, names, f) =
      ap (λ l. match_parts ([] ∷ []) (onto_first x l)) f ∙ ap (λ t. t && match_parts [] names) (empty_part x name)
plain_whole (b ∷ p) [] special = no_address b p (or_parts (is_special b) (list_any is_special p) special).0
plain_whole (b ∷ p) (x ∷ a) special =
    let both = or_parts (is_special b) (list_any is_special p) special in
    both_first b x p a both.0 ∙ ap (λ t. (x == b) && t) (plain_whole p a both.1)

pub odd_parts : (xs : List ℕ) → list_any is_odd xs ≡ false → (list_any is_special xs ≡ false) × (list_any is_slash xs ≡ false)
odd_parts [] e = (refl, refl)
odd_parts (x ∷ xs) e =
    let both = or_parts (is_odd x) (list_any is_odd xs) e in
    let first = or_parts (is_special x) (is_slash x) both.0 in
    let more = odd_parts xs both.1 in
    (rw (first.0, more.0) refl, rw (first.1, more.1) refl)

-- a text before more of a part
text_first : (text more name : List ℕ) → list_any is_odd text ≡ false → match_part (text ++ more) name ≡ list_any (match_part more) (after_text name text)
text_first [] more name odd = sym (or_false (match_part more name))
text_first (b ∷ text) more [] odd =
    let first = or_parts (is_special b) (is_slash b) (or_parts (is_odd b) (list_any is_odd text) odd).0 in
    plain_none b (text ++ more) first.0 first.1
text_first (b ∷ text) more (x ∷ name) odd =
    let both = or_parts (is_odd b) (list_any is_odd text) odd in
    let first = or_parts (is_special b) (is_slash b) both.0 in
    plain_both b x (text ++ more) name first.0 first.1
    ∙ ap (λ t. (x == b) && t) (text_first text more name both.1)
    ∙ go (x == b)
  where
    go : (t : Bool) → (t && list_any (match_part more) (after_text name text))
        ≡ list_any (match_part more) (cond (t && bytes_eq (take (length text) name) text) (drop (length text) name ∷ []) [])
    go true = refl
    go false = refl

abbrev fine : List ℕ → Type 0
fine text = list_any is_odd text ≡ false

both_or : (a b c : Bool) → ((a || b) && c) ≡ ((a && c) || (b && c))
both_or true b true = refl
both_or true true false = refl
both_or true false false = refl
both_or false b c = refl

any_text : (texts : List (List ℕ)) (more name : List ℕ) (c : Bool) → All fine texts
    → (list_any (match_part more) (flat_map (after_text name) texts) && c) ≡ list_any (λ text. match_part (text ++ more) name && c) texts
any_text [] more name c all = refl
any_text (text ∷ texts) more name c all =
    ap (λ l. list_any (match_part more) l && c) (flat_map-cons (after_text name) text texts)
    ∙ ap (λ t. t && c) (list_any-append (match_part more) (after_text name text) (flat_map (after_text name) texts))
    ∙ both_or (list_any (match_part more) (after_text name text)) (list_any (match_part more) (flat_map (after_text name) texts)) c
    ∙ ap (λ t. (t && c) || (list_any (match_part more) (flat_map (after_text name) texts) && c))
    (sym (text_first text more name (All-head fine text texts all)))
    ∙ ap (λ t. (match_part (text ++ more) name && c) || t) (any_text texts more name c (All-tail fine text texts all))

-- what has no slash stands before the first part of what follows it
no_slash_first : (text back part : List ℕ) (parts : List (List ℕ)) → list_any is_slash text ≡ false → slice_split is_slash back ≡ part ∷ parts
    → slice_split is_slash (text ++ back) ≡ (text ++ part) ∷ parts
no_slash_first [] back part parts none e = e
no_slash_first (x ∷ text) back part parts none e =
    let both = or_parts (is_slash x) (list_any is_slash text) none in
    slice_split-cons_no is_slash x (text ++ back) both.0 ∙ ap (onto_first x) (no_slash_first text back part parts both.1 e)

any_alike : (p q : List ℕ → Bool) (texts : List (List ℕ)) → All (λ text. p text ≡ q text) texts → list_any p texts ≡ list_any q texts
any_alike p q [] all = refl
any_alike p q (text ∷ texts) all =
    ap (λ t. t || list_any p texts) (All-head (λ text. p text ≡ q text) text texts all)
    ∙ ap (λ t. q text || t) (any_alike p q texts (All-tail (λ text. p text ≡ q text) text texts all))

none_joined : (test : ℕ → Bool) (xs ys : List ℕ) → list_any test xs ≡ false → list_any test ys ≡ false → list_any test (xs ++ ys) ≡ false
none_joined test xs ys e f = list_any-append test xs ys ∙ ap (λ t. t || list_any test ys) e ∙ f

-- a choice at the beginning
choice_first : (texts back a : List ℕ) → list_any is_choice_end texts ≡ false → list_any is_odd texts ≡ false → list_any is_special back ≡ false
    → whole (123 ∷ (texts ++ 125 ∷ back)) a ≡ list_any (λ text. bytes_eq a (text ++ back)) (slice_split is_comma texts)
choice_first texts back a closed odd special = go (split-cons back) (split-cons a) where
  pieces : All fine (slice_split is_comma texts)
  pieces = pieces_none is_odd texts odd

  go : (part : List ℕ) × (parts : List (List ℕ)) × (slice_split is_slash back ≡ part ∷ parts)
      → (name : List ℕ) × (names : List (List ℕ)) × (slice_split is_slash a ≡ name ∷ names)
      → whole (123 ∷ (texts ++ 125 ∷ back)) a ≡ list_any (λ text. bytes_eq a (text ++ back)) (slice_split is_comma texts)
  go (part, parts, here) (name, names, there) =
      let cut : slice_split is_slash (123 ∷ (texts ++ 125 ∷ back)) ≡ (123 ∷ (texts ++ 125 ∷ part)) ∷ parts =
      slice_split-cons_no is_slash 123 (texts ++ 125 ∷ back) refl
      ∙ ap (onto_first 123) (no_slash_first texts (125 ∷ back) (125 ∷ part) parts (odd_parts texts odd).1
      (slice_split-cons_no is_slash 125 back refl ∙ ap (onto_first 125) here)) in
      let item : first_item (123 ∷ (texts ++ 125 ∷ part)) ≡ _ = ap (option_map (λ cut. (choice cut.0, cut.1)))
      (cut_at-first is_choice_end texts 125 part closed refl) in
      ap (λ l. match_parts l (slice_split is_slash a)) cut
      ∙ ap (match_parts ((123 ∷ (texts ++ 125 ∷ part)) ∷ parts)) there
      ∙ ap (λ t. t && match_parts parts names) (match_part-item (123 ∷ (texts ++ 125 ∷ part)) (choice texts) part name item)
      ∙ any_text (slice_split is_comma texts) part name (match_parts parts names) pieces
      ∙ any_alike (λ text. match_part (text ++ part) name && match_parts parts names) (λ text. bytes_eq a (text ++ back)) (slice_split is_comma texts)
      (λ k d lt. each (get_or (slice_split is_comma texts) k d) (pieces k d lt))
    where
      each : (text : List ℕ) → list_any is_odd text ≡ false → (match_part (text ++ part) name && match_parts parts names) ≡ bytes_eq a (text ++ back)
      each text plain_text =
          let both = odd_parts text plain_text in
          sym (ap (λ l. match_parts l (slice_split is_slash a)) (no_slash_first text back part parts both.1 here)
          ∙ ap (match_parts ((text ++ part) ∷ parts)) there)
          ∙ plain_whole (text ++ back) a (none_joined is_special text back both.0 special)

none_of : (texts : List (List ℕ)) → list_any (λ text. false) texts ≡ false
none_of [] = refl
none_of (text ∷ texts) = none_of texts

any_and : (c : Bool) (p : List ℕ → Bool) (texts : List (List ℕ)) → (c && list_any p texts) ≡ list_any (λ text. c && p text) texts
any_and true p texts = refl
any_and false p texts = sym (none_of texts)

choice_whole : (front texts back a : List ℕ) → list_any is_special front ≡ false → list_any is_choice_end texts ≡ false → list_any is_odd texts ≡ false
    → list_any is_special back ≡ false → whole (front ++ 123 ∷ (texts ++ 125 ∷ back)) a ≡ is_chosen front back (slice_split is_comma texts) a
choice_whole [] texts back a front closed odd special = choice_first texts back a closed odd special
choice_whole (b ∷ front) texts back [] before closed odd special =
    no_address b (front ++ 123 ∷ (texts ++ 125 ∷ back)) (or_parts (is_special b) (list_any is_special front) before).0
    ∙ sym (none_of (slice_split is_comma texts))
choice_whole (b ∷ front) texts back (x ∷ a) before closed odd special =
    let both = or_parts (is_special b) (list_any is_special front) before in
    both_first b x (front ++ 123 ∷ (texts ++ 125 ∷ back)) a both.0
    ∙ ap (λ t. (x == b) && t) (choice_whole front texts back a both.1 closed odd special)
    ∙ any_and (x == b) (λ text. bytes_eq a (front ++ (text ++ back))) (slice_split is_comma texts)

-- the pattern matches the addresses that the texts make
pub choice_matches : (pattern front texts back address : List ℕ) → IsPlainChoice pattern front texts back → begins_with_slash pattern ≡ true
    → begins_with_slash address ≡ true → matches pattern address ≡ is_chosen front back (slice_split is_comma texts) address
choice_matches pattern front texts back address so p a =
    subst (λ l. matches l address ≡ is_chosen front back (slice_split is_comma texts) address) (sym so.is)
    (go front address so.before (subst (λ l. begins_with_slash l ≡ true) so.is p) a)
  where
    go : (front address : List ℕ) → list_any is_special front ≡ false → begins_with_slash (front ++ 123 ∷ (texts ++ 125 ∷ back)) ≡ true
        → begins_with_slash address ≡ true
        → matches (front ++ 123 ∷ (texts ++ 125 ∷ back)) address ≡ is_chosen front back (slice_split is_comma texts) address
    go [] address before p a = absurd (both_ways false refl p)
    go (b ∷ front) [] before p a = absurd (both_ways false refl a)
    go (b ∷ front) (x ∷ address) before p a =
        let same : (x == b) ≡ true = (let g : is_slash b ≡ true = p in let h : is_slash x ≡ true = a in grind (arith, nat_tests)) in
        let both = or_parts (is_special b) (list_any is_special front) before in
        choice_whole front texts back address both.1 so.closed so.plain so.behind
        ∙ sym (ap (λ t. t && is_chosen front back (slice_split is_comma texts) address) same)
        ∙ any_and (x == b) (λ text. bytes_eq address (front ++ (text ++ back))) (slice_split is_comma texts)
