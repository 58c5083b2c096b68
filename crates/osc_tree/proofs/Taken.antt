-- Where only plain parts are left, one address matches, and all with its names up to them are passed over.
use Rattle.std.proofs.Common.{◌≡◌, ℕ, zero, suc, ◌+◌, ◌-◌, ◌<◌, ◌≤◌, Bool, true, false, cond, ◌&&◌, nat_eq, nat_lt, List, [], ◌∷◌, ◌++◌, length, take}
use Rattle.std.proofs.Common.{drop, map, filter, get_or, All, refl, sym, ap, subst, ◌∙◌, arith}
use Rattle.std.specs.List.{list_any, slice_split, starts_with}
use Rattle.std.specs.Str.{bytes_eq}
use Rattle.std.proofs.Math.Seq.{take-suc, take-append_seam}
use Rattle.std.proofs.lemmas.List.{append-nil, map-append, take-append-drop, take_rest}
use Rattle.std.proofs.lemmas.List.Elements.{All-tail, All-drop}
use Rattle.std.proofs.lemmas.Bool.{both_ways}
use Rattle.std.proofs.lemmas.Bool.Decides.{nat_tests}
use Rattle.std.proofs.lemmas.Slice.Eq.{bytes_eq-Decides}
use Rattle.osc_pattern.specs.Items.{is_slash}
use Rattle.osc_pattern.specs.Methods.{Method}
use Rattle.osc_pattern.specs.Patterns.{parts_of, begins_with_slash, is_special, matches, match_parts}
use Rattle.osc_pattern.specs.Reading.{match_part}
use Rattle.osc_pattern.proofs.PatternLaws.{parts_of-no_slash, match_part-complete}
use Rattle.osc_pattern.proofs.PlainPatterns.{own_parts, same_bytes}
use Rattle.osc_tree.specs.Order.{IsSearched}
use Rattle.osc_tree.specs.Trials.{IsBelow, spelled_at}
use Rattle.osc_tree.specs.Walking.{agreeing, known_at, IsSorted, IsWalked}
use Rattle.osc_tree.proofs.Advances.{aimed, begun_rest, cut_front, ArePlain, plain_rest, IsPassing, passed_begins, passed_long, known_passed, past_ahead}
use Rattle.osc_tree.proofs.Beginnings.{address_low}
use Rattle.osc_tree.proofs.Charges.{at_slash, at_apart}
use Rattle.osc_tree.proofs.Literals.{own_beginning}
use Rattle.osc_tree.proofs.Places.{any_default}
use Rattle.osc_tree.proofs.Onward.{lower_prefix, lower_self, low_behind, low_end}
use Rattle.osc_tree.proofs.Ranges.{lower, ascend_far, searched_none, searched_up}
use Rattle.osc_tree.proofs.Searches.{level}
use Rattle.osc_tree.proofs.Walks.{filter_far, kept_push}

own_match : (parts : List (List ℕ)) → ArePlain parts → All (λ part. list_any is_slash part ≡ false) parts → match_parts parts parts ≡ true
own_match [] plain slash = refl
own_match (part ∷ parts) plain slash =
    rw (match_part-complete part part (own_parts (part ∷ parts) plain slash).0)
    (own_match parts (All-tail (λ part. list_any is_special part ≡ false) part parts plain) (All-tail (λ part. list_any is_slash part ≡ false) part parts
    slash))

-- names that match, and plain parts after them
front_match : (wild : ℕ) (parts names : List (List ℕ)) → wild ≤ agreeing parts names → ArePlain (drop wild parts)
    → All (λ part. list_any is_slash part ≡ false) (drop wild parts) → match_parts parts (take wild names ++ drop wild parts) ≡ true
front_match zero parts names le plain slash = own_match parts plain slash
front_match (suc wild) [] names le plain slash = absurd (omega arith)
front_match (suc wild) (part ∷ parts) [] le plain slash = absurd (omega arith)
front_match (suc wild) (part ∷ parts) (name ∷ names) le plain slash =
    go (match_part part name) le (λ less. front_match wild parts names less plain slash) where
      go : (t : Bool) → suc wild ≤ cond t (agreeing parts names + 1) 0
          → (wild ≤ agreeing parts names → match_parts parts (take wild names ++ drop wild parts) ≡ true)
          → (t && match_parts parts (take wild names ++ drop wild parts)) ≡ true
      go true le more = more (omega arith)
      go false le more = absurd (omega arith)

no_slash : (pattern : List ℕ) (wild : ℕ) → All (λ part. list_any is_slash part ≡ false) (drop wild (parts_of pattern))
no_slash pattern wild = All-drop (λ part. list_any is_slash part ≡ false) wild (parts_of pattern) (parts_of-no_slash pattern)

below_passing : (pattern : List ℕ) (methods : List Method) (at wild : ℕ) (text plain : List ℕ) (below : IsBelow pattern methods at wild text plain)
    → IsPassing pattern below.names (127 ∷ []) wild below.bytes
below_passing pattern methods at wild text plain below = record { bound = below.bound; cut = below.cut; some = below.some; one = refl }

-- the one address that matches below
full_parts : (pattern : List ℕ) (methods : List Method) (at wild : ℕ) (text plain : List ℕ) (below : IsBelow pattern methods at wild text plain)
    → parts_of (aimed below.bytes below.names plain) ≡ take wild (slice_split is_slash below.names) ++ drop wild (parts_of pattern)
full_parts pattern methods at wild text plain below =
    cut_front below.names below.bytes wild below.bound below.cut plain ∙ ap (λ l. take wild (slice_split is_slash below.names) ++ l) below.rest

full_matches : (pattern : List ℕ) (methods : List Method) (at wild : ℕ) (text plain : List ℕ) (below : IsBelow pattern methods at wild text plain)
    → ArePlain (drop wild (parts_of pattern)) → matches pattern (aimed below.bytes below.names plain) ≡ true
full_matches pattern methods at wild text plain below flat =
    ap (match_parts (parts_of pattern)) (full_parts pattern methods at wild text plain below)
    ∙ front_match wild (parts_of pattern) (slice_split is_slash below.names) below.some flat (no_slash pattern wild)

-- what matches and has the names is that address
full_alone : (pattern : List ℕ) (methods : List Method) (at wild : ℕ) (text plain address : List ℕ) (below : IsBelow pattern methods at wild text plain)
    → ArePlain (drop wild (parts_of pattern)) → begins_with_slash address ≡ true
    → take wild (parts_of address) ≡ take wild (slice_split is_slash below.names) → matches pattern address ≡ true
    → address ≡ aimed below.bytes below.names plain
full_alone pattern methods at wild text plain address below flat slash alike e =
    same_bytes address (aimed below.bytes below.names plain) slash refl
    (sym (take-append-drop wild (parts_of address)) ∙ ap (λ l. l ++ drop wild (parts_of address)) alike
    ∙ ap (λ l. take wild (slice_split is_slash below.names) ++ l) (plain_rest wild (parts_of pattern) (parts_of address) flat (no_slash pattern wild) e)
    ∙ sym (full_parts pattern methods at wild text plain below))

-- a method that matches from there on to the end of those with the names has that address
below_only : (pattern : List ℕ) (methods : List Method) (at wild end : ℕ) (text plain : List ℕ) (d : Method) (below : IsBelow pattern methods at wild text
    plain)
    → ArePlain (drop wild (parts_of pattern)) → IsSorted methods → IsSearched (aimed below.bytes below.names (127 ∷ [])) methods end end
    → (k : ℕ) → at ≤ k → k < end → matches pattern (get_or methods k d).address ≡ true
    → (get_or methods k d).address ≡ aimed below.bytes below.names plain
below_only pattern methods at wild end text plain d below flat sorted searched k le lt e = go (nat_eq at k) refl where
  names : List ℕ
  names = below.names

  own : (get_or methods at d).address ≡ 47 ∷ below.names
  own = below.own d

  go : (s : Bool) → nat_eq at k ≡ s → (get_or methods k d).address ≡ aimed below.bytes below.names plain
  go true f =
      let same : at ≡ k = (let h : nat_eq at k ≡ true = f in grind (arith, nat_tests)) in
      full_alone pattern methods at wild text plain (get_or methods k d).address below flat
      (subst (λ (n : ℕ). begins_with_slash (get_or methods n d).address ≡ true) same (at_slash methods at d sorted below.within))
      (ap (λ (n : ℕ). take wild (parts_of (get_or methods n d).address)) (sym same) ∙ ap (λ l. take wild (parts_of l)) own) e
  go false f =
      let less : at < k = (let h : nat_eq at k ≡ false = f in grind (arith, nat_tests)) in
      let bound = searched.bound in
      let passing = below_passing pattern methods at wild text plain below in
      let here = passed_begins pattern methods at end wild below.bytes below.names (127 ∷ []) d sorted below.within own passing searched k less lt in
      let long = passed_long pattern below.names (127 ∷ []) wild below.bytes passing in
      full_alone pattern methods at wild text plain (get_or methods k d).address below flat (at_slash methods k d sorted (omega arith))
      (ap (take wild) here.parts
      ∙ ap (λ (n : ℕ). take n (take wild (slice_split is_slash below.names) ++ slice_split is_slash here.rest)) (sym long)
      ∙ take-append_seam (take wild (slice_split is_slash below.names)) (slice_split is_slash here.rest)) e

pub below_text : (pattern : List ℕ) (methods : List Method) (at wild : ℕ) (text plain rest : List ℕ) (below : IsBelow pattern methods at wild text plain)
    → text ++ rest ≡ aimed below.bytes below.names rest
below_text pattern methods at wild text plain rest below = ap (λ l. l ++ rest) below.begun

-- the method there is before the address
below_ahead : (pattern : List ℕ) (methods : List Method) (at wild : ℕ) (text plain : List ℕ) (d : Method) (below : IsBelow pattern methods at wild text plain)
    → lower (get_or methods at d).address (text ++ plain) ≡ true
below_ahead pattern methods at wild text plain d below =
    ap (λ l. lower l (text ++ plain)) (below.own d) ∙ ap (lower (47 ∷ below.names)) (below_text pattern methods at wild text plain plain below)
    ∙ ap (λ l. lower l (aimed below.bytes below.names plain)) (ap (λ l. 47 ∷ l) (sym (take-append-drop below.bytes below.names)))
    ∙ lower_prefix (47 ∷ take below.bytes below.names) (drop below.bytes below.names) plain ∙ below.before

pub below_searched : (pattern : List ℕ) (methods : List Method) (at wild : ℕ) (text plain : List ℕ) (d : Method) (below : IsBelow pattern methods at wild
    text plain)
    → IsSorted methods → IsSearched (text ++ plain) methods (at + 1) (length methods)
below_searched pattern methods at wild text plain d below sorted =
    searched_up (text ++ plain) methods 0 (length methods) at d sorted.ascending (searched_none (text ++ plain) methods) below.within
    (below_ahead pattern methods at wild text plain d below)

-- the method there is before what is after its names
end_ahead : (pattern : List ℕ) (methods : List Method) (at wild : ℕ) (text plain : List ℕ) (d : Method) (below : IsBelow pattern methods at wild text plain)
    → lower (get_or methods at d).address (text ++ 127 ∷ []) ≡ true
end_ahead pattern methods at wild text plain d below =
    ap (λ l. lower l (text ++ 127 ∷ [])) (below.own d) ∙ ap (lower (47 ∷ below.names)) (below_text pattern methods at wild text plain (127 ∷ []) below)
    ∙ past_ahead below.names below.bytes below.low

pub end_searched : (pattern : List ℕ) (methods : List Method) (at wild : ℕ) (text plain : List ℕ) (d : Method) (below : IsBelow pattern methods at wild
    text plain)
    → IsSorted methods → IsSearched (text ++ 127 ∷ []) methods (at + 1) (length methods)
end_searched pattern methods at wild text plain d below sorted =
    searched_up (text ++ 127 ∷ []) methods 0 (length methods) at d sorted.ascending (searched_none (text ++ 127 ∷ []) methods) below.within
    (end_ahead pattern methods at wild text plain d below)

-- what is before a text stands ahead of where the search for it came to
pub ahead_of : (methods : List Method) (at end : ℕ) (d : Method) (text : List ℕ) → at < length methods → lower (get_or methods at d).address text ≡ true
    → IsSearched text methods end end → at < end
ahead_of methods at end d text within ahead searched = go (nat_lt at end) refl where
  go : (t : Bool) → nat_lt at end ≡ t → at < end
  go true e = (let h : nat_lt at end ≡ true = e in grind (arith, nat_tests))
  go false e =
      let past : end ≤ at = (let h : nat_lt at end ≡ false = e in grind (arith, nat_tests)) in
      absurd (both_ways (lower (get_or methods at d).address text) (searched.behind at d past within) ahead)

pub end_further : (pattern : List ℕ) (methods : List Method) (at wild end : ℕ) (text plain : List ℕ) (d : Method) (below : IsBelow pattern methods at wild
    text plain)
    → IsSearched (text ++ 127 ∷ []) methods end end → at < end
end_further pattern methods at wild end text plain d below searched =
    ahead_of methods at end d (text ++ 127 ∷ []) below.within (end_ahead pattern methods at wild text plain d below) searched

-- a method at the text that a search came to stands there
stands : (methods : List Method) (next k : ℕ) (d : Method) (text : List ℕ) → IsSorted methods → IsSearched text methods next next → k < length methods
    → (get_or methods k d).address ≡ text → k ≡ next
stands methods next k d text sorted searched within is = go (nat_lt k next) refl (nat_eq k next) refl where
  go : (s : Bool) → nat_lt k next ≡ s → (t : Bool) → nat_eq k next ≡ t → k ≡ next
  go s e true f = (let h : nat_eq k next ≡ true = f in grind (arith, nat_tests))
  go true e false f =
      let less : k < next = (let h : nat_lt k next ≡ true = e in grind (arith, nat_tests)) in
      absurd (both_ways (lower text text) (lower_self text) (ap (λ l. lower l text) (sym is) ∙ searched.before k d less))
  go false e false f =
      let more : next < k = (let h : nat_lt k next ≡ false = e in let i : nat_eq k next ≡ false = f in grind (arith, nat_tests)) in
      let first : lower (get_or methods next d).address text ≡ false = searched.behind next d (omega arith) (omega arith) in
      let last : lower text (get_or methods next d).address ≡ false =
      ap (λ l. lower l (get_or methods next d).address) (sym is) ∙ ascend_far methods next k d sorted.ascending (omega arith) within in
      let same : (get_or methods next d).address ≡ (get_or methods k d).address = level (get_or methods next d).address text first last ∙ sym is in
      absurd (both_ways (bytes_eq (get_or methods next d).address (get_or methods k d).address) (at_apart methods next k d sorted more within).differ
      ((bytes_eq-Decides (get_or methods next d).address (get_or methods k d).address).1 same))

pub walked_below : (pattern : List ℕ) (methods : List Method) (at wild next end : ℕ) (text plain ids : List ℕ) (below : IsBelow pattern methods at wild
    text plain)
    → ArePlain (drop wild (parts_of pattern)) → IsSorted methods → IsSearched (text ++ plain) methods next next → IsSearched (text ++ 127 ∷ []) methods end end
    → IsWalked pattern methods at ids → IsWalked pattern methods end (ids ++ spelled_at methods next (text ++ plain))
walked_below pattern methods at wild next end text plain ids below flat sorted there searched so =
    go (nat_lt next (length methods)) refl (bytes_eq (get_or methods next d).address (text ++ plain)) refl
  where
    d : Method
    d = record { id = 0; address = [] }

    test : Method → Bool
    test method = matches pattern method.address

    past : IsSearched (aimed below.bytes below.names (127 ∷ [])) methods end end
    past = subst (λ l. IsSearched l methods end end) (below_text pattern methods at wild text plain (127 ∷ []) below) searched

    further : at < end
    further = end_further pattern methods at wild end text plain d below searched

    only : (k : ℕ) → at ≤ k → k < end → test (get_or methods k d) ≡ true → k ≡ next
    only k le lt e =
        let bound = searched.bound in
        stands methods next k d (text ++ plain) sorted there (omega arith)
        (below_only pattern methods at wild end text plain d below flat sorted past k le lt e ∙ sym (below_text pattern methods at wild text plain plain below))

    known : (other : Method) → end < length methods → known_at methods end other ≤ agreeing (parts_of pattern) (parts_of (get_or methods end other).address)
    known = let more = further in
        known_passed pattern methods at end wild below.bytes below.names (127 ∷ []) d sorted below.within (below.own d)
        (below_passing pattern methods at wild text plain below) (omega arith) past

    none : ((k : ℕ) → at ≤ k → k < end → test (get_or methods k d) ≡ false) → IsWalked pattern methods end ids
    none absent =
        let bound = searched.bound in let more = further in
        record {
          bound = bound;
          found = so.found
              ∙ ap (map (λ (method : Method). method.id)) (sym (filter_far test methods at (end - at) d (omega arith) (λ k le lt. absent k le (omega arith))))
              ∙ ap (λ (n : ℕ). map (λ (method : Method). method.id) (filter test (take n methods))) (let same : at + (end - at) ≡ end = omega arith in same);
          known = known;
        }

    -- no other than the one that the search came to
    not_other : (k : ℕ) → at ≤ k → k < end → (k ≡ next → ⊥) → test (get_or methods k d) ≡ false
    not_other k le lt apart = pick (test (get_or methods k d)) refl where
      pick : (t : Bool) → test (get_or methods k d) ≡ t → test (get_or methods k d) ≡ false
      pick false e = e
      pick true e = absurd (apart (only k le lt e))

    hit : next < length methods → (get_or methods next d).address ≡ text ++ plain → IsWalked pattern methods end (ids ++ (get_or methods next d).id ∷ [])
    hit within is =
        let bound = searched.bound in
        let full : (get_or methods next d).address ≡ aimed below.bytes below.names plain = is ∙ below_text pattern methods at wild text plain plain below in
        let first : at < next = ahead_of methods at next d (text ++ plain) below.within (below_ahead pattern methods at wild text plain d below) there in
        let low = low_behind (47 ∷ take below.bytes below.names) plain (get_or methods next d).address full
        (address_low (get_or methods next d).address (sorted.list.lawful next d within)) in
        let ahead : lower (get_or methods next d).address (text ++ 127 ∷ []) ≡ true =
        ap (λ l. lower l (text ++ 127 ∷ [])) full ∙ ap (lower (aimed below.bytes below.names plain)) (below_text pattern methods at wild text plain (127 ∷
        []) below)
        ∙ lower_prefix (47 ∷ take below.bytes below.names) plain (127 ∷ []) ∙ low_end plain low in
        let last : next < end = ahead_of methods next end d (text ++ 127 ∷ []) within ahead searched in
        let yes : test (get_or methods next d) ≡ true = ap (matches pattern) full ∙ full_matches pattern methods at wild text plain below flat in
        let before : filter test (take next methods) ≡ filter test (take at methods) =
        sym (ap (λ (n : ℕ). filter test (take n methods)) (let same : at + (next - at) ≡ next = omega arith in same))
        ∙ filter_far test methods at (next - at) d (omega arith) (λ k le lt. not_other k le (omega arith) (λ e. absurd (omega arith))) in
        let behind : filter test (take end methods) ≡ filter test (take (suc next) methods) =
        sym (ap (λ (n : ℕ). filter test (take n methods)) (let same : suc next + (end - suc next) ≡ end = omega arith in same))
        ∙ filter_far test methods (suc next) (end - suc next) d (omega arith) (λ k le lt. not_other k (omega arith) (omega arith) (λ e. absurd (omega
        arith))) in
        let all : filter test (take end methods) ≡ filter test (take at methods) ++ get_or methods next d ∷ [] =
        behind ∙ ap (filter test) (take-suc methods next d within) ∙ kept_push test (take next methods) (get_or methods next d) yes
        ∙ ap (λ l. l ++ get_or methods next d ∷ []) before in
        record {
          bound = bound;
          found = ap (λ l. l ++ (get_or methods next d).id ∷ []) so.found
              ∙ sym (map-append (λ (method : Method). method.id) (filter test (take at methods)) (get_or methods next d ∷ []))
              ∙ sym (ap (map (λ (method : Method). method.id)) all);
          known = known;
        }

    go : (s : Bool) → nat_lt next (length methods) ≡ s → (t : Bool) → bytes_eq (get_or methods next d).address (text ++ plain) ≡ t
        → IsWalked pattern methods end (ids ++ cond s (cond t ((get_or methods next d).id ∷ []) []) [])
    go true e true f =
        hit (let h : nat_lt next (length methods) ≡ true = e in grind (arith, nat_tests)) ((bytes_eq-Decides (get_or methods next d).address (text ++
        plain)).0 f)
    go true e false f = subst (IsWalked pattern methods end) (sym (append-nil ids)) (none (λ k le lt. lacking k le lt (test (get_or methods k d)) refl)) where
      lacking : (k : ℕ) → at ≤ k → k < end → (t : Bool) → test (get_or methods k d) ≡ t → test (get_or methods k d) ≡ false
      lacking k le lt false g = g
      lacking k le lt true g =
          let here = only k le lt g in
          let is : (get_or methods next d).address ≡ text ++ plain =
          ap (λ (n : ℕ). (get_or methods n d).address) (sym here)
          ∙ below_only pattern methods at wild end text plain d below flat sorted past k le lt g
          ∙ sym (below_text pattern methods at wild text plain plain below) in
          absurd (both_ways (bytes_eq (get_or methods next d).address (text ++ plain)) f ((bytes_eq-Decides (get_or methods next d).address (text ++
          plain)).1 is))
    go false e t f = subst (IsWalked pattern methods end) (sym (append-nil ids)) (none (λ k le lt. not_other k le lt (λ here.
        let bound = searched.bound in let past : length methods ≤ next = (let h : nat_lt next (length methods) ≡ false = e in grind (arith, nat_tests)) in
        absurd (omega arith))))

drop_front : (text rest : List ℕ) → drop (length text) (text ++ rest) ≡ rest
drop_front [] rest = refl
drop_front (x ∷ text) rest = drop_front text rest

eq_front : (text rest plain : List ℕ) → bytes_eq rest plain ≡ bytes_eq (text ++ rest) (text ++ plain)
eq_front text rest plain = go (bytes_eq rest plain) refl (bytes_eq (text ++ rest) (text ++ plain)) refl where
  go : (s : Bool) → bytes_eq rest plain ≡ s → (t : Bool) → bytes_eq (text ++ rest) (text ++ plain) ≡ t
      → bytes_eq rest plain ≡ bytes_eq (text ++ rest) (text ++ plain)
  go true e true f = e ∙ sym f
  go false e false f = e ∙ sym f
  go true e false f =
      absurd (both_ways (bytes_eq (text ++ rest) (text ++ plain)) f
      ((bytes_eq-Decides (text ++ rest) (text ++ plain)).1 (ap (λ l. text ++ l) ((bytes_eq-Decides rest plain).0 e))))
  go false e true f =
      absurd (both_ways (bytes_eq rest plain) e
      ((bytes_eq-Decides rest plain).1 (sym (drop_front text rest) ∙ ap (drop (length text)) ((bytes_eq-Decides (text ++ rest) (text ++ plain)).0 f)
      ∙ drop_front text plain)))

pub spelled_begun : (address text plain : List ℕ) → starts_with nat_eq address text ≡ true
    → bytes_eq (take (length address - length text) (drop (length text) address)) plain ≡ bytes_eq address (text ++ plain)
spelled_begun address text plain e =
    let found = begun_rest address text e in
    ap (λ l. bytes_eq l plain) (take_rest address (length text) ∙ ap (drop (length text)) found.1 ∙ drop_front text found.0)
    ∙ eq_front text found.0 plain ∙ ap (λ l. bytes_eq l (text ++ plain)) (sym found.1)

pub spelled_not : (address text plain : List ℕ) → starts_with nat_eq address text ≡ false → false ≡ bytes_eq address (text ++ plain)
spelled_not address text plain e = go (bytes_eq address (text ++ plain)) refl where
  go : (t : Bool) → bytes_eq address (text ++ plain) ≡ t → false ≡ bytes_eq address (text ++ plain)
  go false f = sym f
  go true f =
      absurd (both_ways (starts_with nat_eq address text) e
      (ap (λ l. starts_with nat_eq l text) ((bytes_eq-Decides address (text ++ plain)).0 f) ∙ own_beginning text plain))

pub spelled_none : (methods : List Method) (at : ℕ) (address : List ℕ) → length methods ≤ at → spelled_at methods at address ≡ []
spelled_none methods at address past =
    let no' : nat_lt at (length methods) ≡ false = grind (arith, nat_tests) in
    ap (λ (t : Bool). cond t (cond (bytes_eq (get_or methods at (record { id = 0; address = [] })).address address)
    ((get_or methods at (record { id = 0; address = [] })).id ∷ []) []) []) no'

pub spelled_here : (methods : List Method) (at : ℕ) (d : Method) (address : List ℕ) (t : Bool) → at < length methods
    → bytes_eq (get_or methods at d).address address ≡ t → spelled_at methods at address ≡ cond t ((get_or methods at d).id ∷ []) []
spelled_here methods at d address t within e =
    let none : Method = record { id = 0; address = [] } in
    let yes : nat_lt at (length methods) ≡ true = grind (arith, nat_tests) in
    let same : get_or methods at none ≡ get_or methods at d = any_default methods at none d within in
    ap (λ (s : Bool). cond s (cond (bytes_eq (get_or methods at none).address address) ((get_or methods at none).id ∷ []) []) []) yes
    ∙ ap (λ (m : Method). cond (bytes_eq m.address address) (m.id ∷ []) []) same
    ∙ ap (λ (s : Bool). cond s ((get_or methods at d).id ∷ []) []) e
