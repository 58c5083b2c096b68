-- A node whose name doesn't match is passed over as an aim: the text after all that begin with the name and a slash.
use Rattle.std.proofs.Common.{Option, None, Some, Bor, MatchOption, ◌-◌, ◌≡◌, ℕ, zero, suc, ◌+◌, ◌<◌, ◌≤◌, Bool, true, false, cond, nat_eq, nat_lt}
use Rattle.std.proofs.Common.{◌==◌, List, [], ◌∷◌, ◌++◌, length, take, drop, get_or, All, refl, sym, ap, subst, ◌∙◌, arith}
use Rattle.std.specs.Prelude.{is_none}
use Rattle.std.proofs.Math.Seq.{take-append_seam}
use Rattle.std.proofs.lemmas.Option.{unwrap_or-slice_get}
use Rattle.std.specs.List.{list_any, slice_split, onto_first, starts_with}
use Rattle.std.proofs.lemmas.List.{take_rest}
use Rattle.std.proofs.lemmas.List.Elements.{All-head}
use Rattle.std.proofs.lemmas.List.Splits.{slice_split-cons_no}
use Rattle.std.proofs.lemmas.Bool.{both_ways, or_parts}
use Rattle.std.proofs.lemmas.Bool.Decides.{nat_tests}
use Rattle.osc_pattern.specs.Items.{is_slash}
use Rattle.osc_pattern.specs.Patterns.{parts_of, part_at}
use Rattle.osc_pattern.specs.Reading.{match_part}
use Rattle.osc_pattern.proofs.Parts.{split-cons}
use Rattle.osc_pattern.proofs.PatternLaws.{parts_of-no_slash}
use Rattle.osc_tree.specs.Walking.{agreeing, IsAim, IsOnward}
use Rattle.osc_tree.proofs.Advances.{begun_rest}
use Rattle.osc_tree.proofs.Charges.{begun_between}
use Rattle.osc_tree.proofs.Literals.{own_beginning}
use Rattle.osc_tree.proofs.Onward.{lower_prefix, one_piece}
use Rattle.osc_tree.proofs.Ranges.{lower, lower_order, lower_more}

-- the name after those that match isn't matched
pub miss_at : (parts names : List (List ℕ)) (name : List ℕ) (more : List (List ℕ)) (k : ℕ) → k ≡ agreeing parts names → k < length parts
    → drop k names ≡ name ∷ more → match_part (get_or parts k []) name ≡ false
miss_at [] names name more k e lt cut = absurd (omega arith)
miss_at (part ∷ parts) [] name more zero e lt cut = absurd (cc)
miss_at (part ∷ parts) [] name more (suc k) e lt cut = absurd (cc)
miss_at (part ∷ parts) (n ∷ ns) name more zero e lt cut = go (match_part part n) refl e where
  go : (t : Bool) → match_part part n ≡ t → zero ≡ cond t (agreeing parts ns + 1) 0 → match_part part name ≡ false
  go true f g = absurd (omega arith)
  go false f g = ap (match_part part) (sym (ap (λ l. get_or l 0 []) cut)) ∙ f
miss_at (part ∷ parts) (n ∷ ns) name more (suc k) e lt cut =
    go (match_part part n) e (λ same. miss_at parts ns name more k same (omega arith) cut) where
      go : (t : Bool) → suc k ≡ cond t (agreeing parts ns + 1) 0
          → (k ≡ agreeing parts ns → match_part (get_or parts k []) name ≡ false) → match_part (get_or parts k []) name ≡ false
      go true f next = next (omega arith)
      go false f next = absurd (omega arith)

cut_rest : (rest name : List ℕ) (more : List (List ℕ)) → slice_split is_slash rest ≡ name ∷ more → 0 < length more → (r : List ℕ) × (rest ≡ name ++ 47 ∷ r)
cut_rest [] name more e some = absurd (omega (arith, ap length e))
cut_rest (x ∷ rest) name more e some = go (is_slash x) refl e (split-cons rest) (cut_rest rest) where
  go : (t : Bool) → is_slash x ≡ t → cond t ([] ∷ slice_split is_slash rest) (onto_first x (slice_split is_slash rest)) ≡ name ∷ more
      → (n : List ℕ) × (ns : List (List ℕ)) × (slice_split is_slash rest ≡ n ∷ ns)
      → ((name : List ℕ) (more : List (List ℕ)) → slice_split is_slash rest ≡ name ∷ more → 0 < length more → (r : List ℕ) × (rest ≡ name ++ 47 ∷ r))
      → (r : List ℕ) × (x ∷ rest ≡ name ++ 47 ∷ r)
  go true f e cut next =
      let none : [] ≡ name = ap (λ l. get_or l 0 []) e in
      let first : x ≡ 47 = (let h : is_slash x ≡ true = f in grind (arith, nat_tests)) in
      (rest, ap (λ b. b ∷ rest) first ∙ ap (λ l. l ++ 47 ∷ rest) none)
  go false f e (n, ns, cut) next =
      let both : (x ∷ n) ∷ ns ≡ name ∷ more = sym (ap (onto_first x) cut) ∙ e in
      let first : x ∷ n ≡ name = ap (λ l. get_or l 0 []) both in
      let second : ns ≡ more = ap (drop 1) both in
      let found = next n ns cut (omega (arith, ap length second)) in
      (found.0, ap (λ l. x ∷ l) found.1 ∙ ap (λ l. l ++ 47 ∷ found.0) first)

name_no_slash : (rest name : List ℕ) (more : List (List ℕ)) → slice_split is_slash rest ≡ name ∷ more → list_any is_slash name ≡ false
name_no_slash rest name more e =
    All-head (λ part. list_any is_slash part ≡ false) name more (subst (All (λ part. list_any is_slash part ≡ false)) e (parts_of-no_slash (47 ∷ rest)))

joined_no_slash : (name : List ℕ) → list_any is_slash name ≡ false → list_any is_slash (name ++ 48 ∷ []) ≡ false
joined_no_slash [] e = refl
joined_no_slash (x ∷ name) e =
    let both = or_parts (is_slash x) (list_any is_slash name) e in
    rw both.0 (joined_no_slash name both.1)

split_at : (name rest : List ℕ) → list_any is_slash name ≡ false → slice_split is_slash (name ++ 47 ∷ rest) ≡ name ∷ slice_split is_slash rest
split_at [] rest e = refl
split_at (x ∷ name) rest e =
    let both = or_parts (is_slash x) (list_any is_slash name) e in
    slice_split-cons_no is_slash x (name ++ 47 ∷ rest) both.0 ∙ ap (onto_first x) (split_at name rest both.1)

-- what isn't before a slash and more, and is before what follows a slash, begins with a slash
pub slash_first : (z r : List ℕ) → lower z (47 ∷ r) ≡ false → lower z (48 ∷ []) ≡ true → (ys : List ℕ) × (z ≡ 47 ∷ ys)
slash_first [] r e f = absurd (cc)
slash_first (y ∷ ys) r e f = (ys, ap (λ b. b ∷ ys) is) where
  one : cond (nat_lt y 47) true (cond (y == 47) (lower ys r) false) ≡ false
  one = sym (lower_more y 47 ys r) ∙ e

  two : cond (nat_lt y 48) true (cond (y == 48) (lower ys []) false) ≡ true
  two = sym (lower_more y 48 ys []) ∙ f

  nothing : (ys : List ℕ) → lower ys [] ≡ false
  nothing [] = refl
  nothing (y ∷ ys) = refl

  is : y ≡ 47
  is = go (nat_lt y 47) refl (nat_lt y 48) refl (y == 48) refl one two where
    go : (a : Bool) → nat_lt y 47 ≡ a → (b : Bool) → nat_lt y 48 ≡ b → (c : Bool) → (y == 48) ≡ c
        → cond a true (cond (y == 47) (lower ys r) false) ≡ false → cond b true (cond c (lower ys []) false) ≡ true → y ≡ 47
    go true p b q c s first second = absurd (cc)
    go false p true q c s first second =
        (let h : nat_lt y 47 ≡ false = p in let i : nat_lt y 48 ≡ true = q in grind (arith, nat_tests))
    go false p false q true s first second = absurd (both_ways (lower ys []) (nothing ys) second)
    go false p false q false s first second = absurd (cc)

pub over_aim : (part rest name : List ℕ) (more : List (List ℕ)) → slice_split is_slash rest ≡ name ∷ more → 0 < length more
    → match_part part name ≡ false → IsAim part rest (name ++ 48 ∷ [])
over_aim part rest name more cut some miss = record {
  ahead = ap (λ l. lower l (name ++ 48 ∷ [])) is ∙ lower_prefix name (47 ∷ r) (48 ∷ []) ∙ lower_more 47 48 r [];
  one = ap length (one_piece (name ++ 48 ∷ []) (joined_no_slash name plain));
  reach = λ other first names low split matched later. reached other first names split matched later (lower other (name ++ 48 ∷ [])) refl;
} where
  found : (r : List ℕ) × (rest ≡ name ++ 47 ∷ r)
  found = cut_rest rest name more cut some

  r : List ℕ
  r = found.0

  is : rest ≡ name ++ 47 ∷ r
  is = found.1

  plain : list_any is_slash name ≡ false
  plain = name_no_slash rest name more cut

  reached : (other first : List ℕ) (names : List (List ℕ)) → slice_split is_slash other ≡ first ∷ names → match_part part first ≡ true
      → lower other rest ≡ false → (t : Bool) → lower other (name ++ 48 ∷ []) ≡ t → lower other (name ++ 48 ∷ []) ≡ false
  reached other first names split matched later false e = e
  reached other first names split matched later true e =
      let begins = begun_between name rest other (name ++ 48 ∷ []) later (lower_order.one_way other (name ++ 48 ∷ []) e)
      (ap (λ l. starts_with nat_eq l name) is ∙ own_beginning name (47 ∷ r)) (own_beginning name (48 ∷ [])) in
      let tail = begun_rest other name begins in
      let z = tail.0 in
      let above : lower z (47 ∷ r) ≡ false =
      sym (lower_prefix name z (47 ∷ r)) ∙ ap (λ l. lower l (name ++ 47 ∷ r)) (sym tail.1) ∙ ap (lower other) (sym is) ∙ later in
      let under : lower z (48 ∷ []) ≡ true =
      sym (lower_prefix name z (48 ∷ [])) ∙ ap (λ l. lower l (name ++ 48 ∷ [])) (sym tail.1) ∙ e in
      let slash = slash_first z r above under in
      let whole : other ≡ name ++ 47 ∷ slash.0 = tail.1 ∙ ap (λ l. name ++ l) slash.1 in
      let same : first ≡ name =
      ap (λ l. get_or l 0 []) (sym split ∙ ap (slice_split is_slash) whole ∙ split_at name slash.0 plain) in
      absurd (both_ways (match_part part name) miss (ap (match_part part) (sym same) ∙ matched))

pub over_onward : (pattern names name : List ℕ) (matching at : ℕ) (more : Option (Bor (List ℕ)))
    → matching ≡ agreeing (parts_of pattern) (slice_split is_slash names) → matching < length (parts_of pattern) → at ≤ length names
    → slice_split is_slash (drop at names) ≡ drop matching (slice_split is_slash names) → is_none more ≡ false
    → MatchOption more (slice_split is_slash (take (length names - at) (drop at names)) ≡ name ∷ [])
    (λ rest. slice_split is_slash (take (length names - at) (drop at names)) ≡ name ∷ slice_split is_slash rest.now)
    → IsOnward pattern names matching at (take (length name) (drop at names) ++ 48 ∷ [])
over_onward pattern names name matching at None is less bound cut some first = absurd (cc)
over_onward pattern names name matching at (Some rest) is less bound cut some first = go (split-cons rest.now) where
  here : slice_split is_slash (drop at names) ≡ name ∷ slice_split is_slash rest.now
  here = ap (slice_split is_slash) (sym (take_rest names at)) ∙ first

  go : (n : List ℕ) × (ns : List (List ℕ)) × (slice_split is_slash rest.now ≡ n ∷ ns)
      → IsOnward pattern names matching at (take (length name) (drop at names) ++ 48 ∷ [])
  go (n, ns, f) =
      let long : 0 < length (slice_split is_slash rest.now) = omega (arith, ap length f) in
      let miss : match_part (part_at pattern matching) name ≡ false =
      ap (λ l. match_part l name) (unwrap_or-slice_get (parts_of pattern) matching [])
      ∙ miss_at (parts_of pattern) (slice_split is_slash names) name (slice_split is_slash rest.now) matching is less (sym cut ∙ here) in
      let found = cut_rest (drop at names) name (slice_split is_slash rest.now) here long in
      let kept : name ≡ take (length name) (drop at names) =
      sym (take-append_seam name (47 ∷ found.0)) ∙ ap (take (length name)) (sym found.1) in
      record {
        part = less;
        bound = bound;
        cut = cut;
        aim = subst (λ l. IsAim (part_at pattern matching) (drop at names) (l ++ 48 ∷ [])) kept
            (over_aim (part_at pattern matching) (drop at names) name (slice_split is_slash rest.now) here long miss);
      }
