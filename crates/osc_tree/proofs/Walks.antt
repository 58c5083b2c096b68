-- A pattern goes from method to method, and passes over those below a node that doesn't match.
use Rattle.std.proofs.Common.{◌≡◌, ◌≤◌, ◌<◌, ℕ, zero, suc, ◌+◌, ◌-◌, Bool, true, false, not, cond, ◌&&◌, ◌||◌, ◌==◌, nat_eq, nat_lt, nat_le, List, [], ◌∷◌}
use Rattle.std.proofs.Common.{◌++◌, length, map, filter, take, drop, get_or, refl, sym, ap, subst, ◌∙◌, All, arith, add-zero, add-suc, add-one}
use Rattle.std.specs.List.{position_or_len, slice_split}
use Rattle.std.specs.Str.{bytes_eq}
use Rattle.std.proofs.Math.Seq.{take-suc}
use Rattle.std.proofs.lemmas.List.{append-nil, get_or-drop, length-drop, length-map, length-take-le, map-append, take_all, drop-map}
use Rattle.std.proofs.lemmas.List.Elements.{filter-append}
use Rattle.std.proofs.lemmas.List.Sums.{fails_before_first, passes_at_first, position_or_len_is}
use Rattle.std.proofs.lemmas.Bool.Decides.{nat_tests}
use Rattle.std.proofs.lemmas.Cmp.{nat_list_eq_equiv}
use Rattle.std.proofs.lemmas.Slice.Eq.{bytes_eq-Decides}
use Rattle.osc_pattern.specs.Addresses.{is_proper_prefix}
use Rattle.osc_pattern.specs.Items.{is_slash}
use Rattle.osc_pattern.specs.Patterns.{parts_of, matches, begins_with_slash}
use Rattle.osc_pattern.specs.Methods.{Method, prefixes_of}
use Rattle.osc_pattern.proofs.Parts.{split-cons}
use Rattle.osc_pattern.proofs.PlainPatterns.{same_bytes}
use Rattle.osc_tree.specs.Walking.{shared, agreeing, known_at, IsWalked, IsSorted}
use Rattle.osc_tree.proofs.Prefixes.{has_prefix_is}
use Rattle.osc_tree.specs.declared.registered.Registered.{Registered}
use Rattle.osc_tree.specs.Views.{method_of, method_at, methods_at}
use Rattle.osc_tree.proofs.Lists.{position_or_len-bound, position-map, filter_few}
use Rattle.osc_tree.proofs.InOrder.{methods_at-get, methods_at-length}
use Rattle.osc_tree.proofs.Places.{any_default, method_at-get}
use Rattle.osc_tree.proofs.Alike.{shared_first, shared_turn, all_agree, matched_agree, agree_too, shared_through, prefix_names, prefix_slash}
use Rattle.osc_tree.proofs.Alike.{shares_node}
use Rattle.std.specs.List.Sorted.{IsPartitionedBy}
use Rattle.osc_tree.proofs.Charges.{AreApart, at_slash, at_apart, shared_between}
use Rattle.osc_tree.proofs.Ranges.{ascend_far}

pub walked_none : (pattern : List ℕ) (methods : List Method) → IsWalked pattern methods 0 []
walked_none pattern methods = record { bound = omega arith; found = refl; known = λ d lt. omega arith }

pub kept_push : {X : Type 0} (test : X → Bool) (xs : List X) (x : X) → test x ≡ true → filter test (xs ++ x ∷ []) ≡ filter test xs ++ x ∷ []
kept_push test xs x e = filter-append test xs (x ∷ []) ∙ ap (λ (t : Bool). filter test xs ++ cond t (x ∷ []) []) e

left_push : {X : Type 0} (test : X → Bool) (xs : List X) (x : X) → test x ≡ false → filter test (xs ++ x ∷ []) ≡ filter test xs
left_push test xs x e = filter-append test xs (x ∷ []) ∙ ap (λ (t : Bool). filter test xs ++ cond t (x ∷ []) []) e ∙ append-nil (filter test xs)

-- the method that all parts match
pub walked_hit : (pattern : List ℕ) (methods : List Method) (at : ℕ) (ids more : List ℕ) (id matching : ℕ) (d : Method) → at < length methods
    → IsWalked pattern methods at ids
    → matching ≡ agreeing (parts_of pattern) (parts_of (get_or methods at d).address) → matching ≡ length (parts_of pattern)
    → matching ≡ length (parts_of (get_or methods at d).address)
    → id ≡ (get_or methods at d).id → more ≡ ids ++ id ∷ [] → IsWalked pattern methods (suc at) more
walked_hit pattern methods at ids more id matching d within so is parts names same e =
    let test : Method → Bool = λ method. matches pattern method.address in
    let hit : test (get_or methods at d) ≡ true =
    all_agree (parts_of pattern) (parts_of (get_or methods at d).address) (omega arith) (omega arith) in
    let listed : ids ++ id ∷ [] ≡ map (λ (method : Method). method.id) (filter test (take (suc at) methods)) =
    ap (λ l. l ++ id ∷ []) so.found ∙ ap (λ (n : ℕ). map (λ (method : Method). method.id) (filter test (take at methods)) ++ n ∷ []) same
    ∙ sym (map-append (λ (method : Method). method.id) (filter test (take at methods)) (get_or methods at d ∷ []))
    ∙ sym (ap (map (λ (method : Method). method.id))
    (ap (filter test) (take-suc methods at d within) ∙ kept_push test (take at methods) (get_or methods at d) hit)) in
    record {
      bound = omega arith;
      found = e ∙ listed;
      known = λ other lt. let most = shared_first (parts_of (get_or methods at other).address) (parts_of (get_or methods (suc at) other).address) in
          let here : get_or methods at other ≡ get_or methods at d = any_default methods at other d within in
          let long : length (parts_of (get_or methods at other).address) ≡ matching =
          ap (λ (m : Method). length (parts_of m.address)) here ∙ sym names in
          let agrees : agreeing (parts_of pattern) (parts_of (get_or methods at other).address) ≡ matching =
          ap (λ (m : Method). agreeing (parts_of pattern) (parts_of m.address)) here ∙ sym is in
          agree_too (parts_of pattern) (parts_of (get_or methods at other).address) (parts_of (get_or methods (suc at) other).address) _ (omega arith)
          (omega arith);
    }

pub filter_far : (test : Method → Bool) (methods : List Method) (at more : ℕ) (d : Method) → at + more ≤ length methods
    → ((k : ℕ) → at ≤ k → k < at + more → test (get_or methods k d) ≡ false) → filter test (take (at + more) methods) ≡ filter test (take at methods)
filter_far test methods at zero d within none = ap (λ (n : ℕ). filter test (take n methods)) (add-zero at)
filter_far test methods at (suc more) d within none =
    ap (λ (n : ℕ). filter test (take n methods)) (add-suc at more)
    ∙ ap (filter test) (take-suc methods (at + more) d (omega arith))
    ∙ left_push test (take (at + more) methods) (get_or methods (at + more) d) (none (at + more) (omega arith) (omega arith))
    ∙ filter_far test methods at more d (omega arith) (λ k le lt. none k le (omega arith))

-- an address has no more names than it has in common with another: it is the other or above it
pub not_all_shared : (one other : List ℕ) → begins_with_slash one ≡ true → begins_with_slash other ≡ true → AreApart one other
    → length (parts_of other) ≤ shared (parts_of one) (parts_of other) → ⊥
not_all_shared one [] first second apart le = absurd (cc)
not_all_shared one (x ∷ rest) first second apart le = go (split-cons rest) where
  go : (name : List ℕ) × (names : List (List ℕ)) × (slice_split is_slash rest ≡ name ∷ names) → ⊥
  go (name, names, e) =
      let other : List ℕ = x ∷ rest in
      let k = length names in
      let long : length (parts_of other) ≡ suc k = ap length e in
      let alike : suc k ≤ shared (parts_of one) (parts_of other) = omega arith in
      let node : List ℕ = get_or (prefixes_of other) k [] in
      let is : node ≡ other =
      same_bytes node other (prefix_slash other k second (omega arith)) second
      (prefix_names other k second (omega arith) ∙ take_all (suc k) (parts_of other) (omega arith)) in
      let has : (bytes_eq node one || is_proper_prefix node one) ≡ true =
      sym (has_prefix_is node one (prefix_slash other k second (omega arith)) first) ∙ shares_node one other k first second alike in
      let has_other : (bytes_eq other one || is_proper_prefix other one) ≡ true = ap (λ l. bytes_eq l one || is_proper_prefix l one) (sym is) ∙ has in
      split (bytes_eq other one) refl (is_proper_prefix other one) refl has_other
    where
      split : (a : Bool) → bytes_eq (x ∷ rest) one ≡ a → (b : Bool) → is_proper_prefix (x ∷ rest) one ≡ b → (a || b) ≡ true → ⊥
      split true a b c f =
          let same = (bytes_eq-Decides one (x ∷ rest)).1 (sym ((bytes_eq-Decides (x ∷ rest) one).0 a)) in
          let differ = apart.differ in absurd (cc)
      split false a true c f = let below = apart.below in absurd (cc)
      split false a false c f = absurd (cc)

-- two methods that stand side by side don't have all names of one of them in common
apart_turn : (a b : List ℕ) → AreApart a b → AreApart b a
apart_turn a b apart = record { differ = nat_list_eq_equiv.symm b a ∙ apart.differ; above = apart.below; below = apart.above }

less_than : (n m : ℕ) → (m ≤ n → ⊥) → n < m
less_than n m more = go (nat_lt n m) refl where
  go : (t : Bool) → nat_lt n m ≡ t → n < m
  go true e = let h : nat_lt n m ≡ true = e in grind (arith, nat_tests)
  go false e = absurd (more (let h : nat_lt n m ≡ false = e in grind (arith, nat_tests)))

pub neighbours_differ : (registered : List Registered) (places : List ℕ) (at : ℕ) (d : Method) (names before : List (List ℕ))
    → IsSorted (methods_at registered places) → 0 < at → at < length places → names ≡ parts_of (get_or (methods_at registered places) at d).address
    → before ≡ parts_of (get_or (methods_at registered places) (at - 1) d).address
    → (shared names before < length names) × (shared names before < length before)
neighbours_differ registered places at d names before sorted some within e f =
    let ms = methods_at registered places in
    let long : at < length ms = omega (arith, methods_at-length registered places) in
    let one = at_slash ms (at - 1) d sorted (omega arith) in
    let two = at_slash ms at d sorted long in
    let apart = at_apart ms (at - 1) at d sorted (omega arith) long in
    let turned = shared_turn (parts_of (get_or ms at d).address) (parts_of (get_or ms (at - 1) d).address) in
    rw (e, f) (
      less_than _ _ (λ le. not_all_shared (get_or ms (at - 1) d).address (get_or ms at d).address one two apart (omega arith)),
      less_than _ _ (λ le. not_all_shared (get_or ms at d).address (get_or ms (at - 1) d).address two one
          (apart_turn (get_or ms (at - 1) d).address (get_or ms at d).address apart) le),
    )

-- how many names those have in common that are passed over
abbrev pub least_of : ℕ → ℕ → ℕ
least_of matching parts = cond (nat_lt matching parts) (matching + 1) matching

-- one that is passed over doesn't match
over_not : (pattern one other : List ℕ) → begins_with_slash one ≡ true → begins_with_slash other ≡ true → AreApart one other
    → least_of (agreeing (parts_of pattern) (parts_of one)) (length (parts_of pattern)) ≤ shared (parts_of one) (parts_of other)
    → matches pattern other ≡ false
over_not pattern one other first second apart le = go (matches pattern other) refl where
  go : (t : Bool) → matches pattern other ≡ t → matches pattern other ≡ false
  go false is = is
  go true is =
      let whole = matched_agree (parts_of pattern) (parts_of other) is in
      absurd (split (nat_lt (agreeing (parts_of pattern) (parts_of one)) (length (parts_of pattern))) refl whole.0 whole.1 le)
    where
      split : (t : Bool) → nat_lt (agreeing (parts_of pattern) (parts_of one)) (length (parts_of pattern)) ≡ t
          → agreeing (parts_of pattern) (parts_of other) ≡ length (parts_of pattern) → agreeing (parts_of pattern) (parts_of other) ≡ length (parts_of other)
          → cond t (agreeing (parts_of pattern) (parts_of one) + 1) (agreeing (parts_of pattern) (parts_of one)) ≤ shared (parts_of one) (parts_of other) → ⊥
      split true lt parts names le =
          let below : agreeing (parts_of pattern) (parts_of one) < length (parts_of pattern) =
          (let h : nat_lt (agreeing (parts_of pattern) (parts_of one)) (length (parts_of pattern)) ≡ true = lt in grind (arith, nat_tests)) in
          let turned = shared_turn (parts_of one) (parts_of other) in
          let more = agree_too (parts_of pattern) (parts_of other) (parts_of one) (agreeing (parts_of pattern) (parts_of one) + 1) (omega arith)
          (omega arith) in
          absurd (omega arith)
      split false lt parts names le =
          let past : length (parts_of pattern) ≤ agreeing (parts_of pattern) (parts_of one) =
          (let h : nat_lt (agreeing (parts_of pattern) (parts_of one)) (length (parts_of pattern)) ≡ false = lt in grind (arith, nat_tests)) in
          not_all_shared one other first second apart (omega arith)

known_first : (parts names third : List (List ℕ)) (least : ℕ) → least ≤ agreeing parts names + 1 → shared names third < least
    → shared names third ≤ agreeing parts third
known_first parts names third least le lt = agree_too parts names third (shared names third) (omega arith) (omega arith)

known_later : (parts names others third : List (List ℕ)) (least : ℕ) → least ≤ agreeing parts names + 1 → least ≤ shared names others
    → shared names third < least → shared others third ≤ agreeing parts third
known_later parts names others third least le alike lt = go (nat_le least (shared others third)) refl where
  go : (t : Bool) → nat_le least (shared others third) ≡ t → shared others third ≤ agreeing parts third
  go true is =
      let more : least ≤ shared others third = (let h : nat_le least (shared others third) ≡ true = is in grind (arith, nat_tests)) in
      let turned = shared_turn names others in
      let bad = shared_through others names third least (omega arith) more in absurd (omega arith)
  go false is =
      let less : shared others third < least = (let h : nat_le least (shared others third) ≡ false = is in grind (arith, nat_tests)) in
      agree_too parts others third (shared others third) (omega arith) (agree_too parts names others (shared others third) (omega arith) (omega arith))

-- the methods that have so many names in common with the one that was tried are passed over
pub walked_over : (pattern : List ℕ) (methods : List Method) (at : ℕ) (ids : List ℕ) (count matching least : ℕ) (d : Method) → IsSorted methods
    → at < length methods → IsWalked pattern methods at ids
    → matching ≡ agreeing (parts_of pattern) (parts_of (get_or methods at d).address)
    → (matching == length (parts_of pattern) && matching == length (parts_of (get_or methods at d).address)) ≡ false
    → least ≡ least_of matching (length (parts_of pattern))
    → count ≡ position_or_len (λ method. not (nat_le least (shared (parts_of (get_or methods at d).address) (parts_of method.address)))) (drop (suc at) methods)
    → IsWalked pattern methods (suc at + count) ids
walked_over pattern methods at ids count matching least d sorted within so is whole leasts counted =
    record {
      bound = fits;
      found = so.found
          ∙ ap (map (λ (method : Method). method.id))
          (sym (filter_far (λ method. matches pattern method.address) methods at (suc count) d (let end = fits in omega arith)
          (λ k le lt. none k le (omega arith))))
          ∙ ap (λ (n : ℕ). map (λ (method : Method). method.id) (filter (λ method. matches pattern method.address) (take n methods))) same_end;
      known = λ other lt. rw shift (next other (omega arith));
    }
  where
    names : List (List ℕ)
    names = parts_of (get_or methods at d).address

    test : Method → Bool
    test method = not (nat_le least (shared names (parts_of method.address)))

    fits : suc at + count ≤ length methods
    fits = omega (arith, position_or_len-bound test (drop (suc at) methods), length-drop (suc at) methods)

    same_end : at + suc count ≡ suc at + count
    same_end = omega arith

    shift : suc at + count ≡ suc (at + count)
    shift = omega arith

    small : least ≤ agreeing (parts_of pattern) names + 1
    small = go (nat_lt matching (length (parts_of pattern))) leasts where
      go : (t : Bool) → least ≡ cond t (matching + 1) matching → least ≤ agreeing (parts_of pattern) names + 1
      go true e = omega arith
      go false e = omega arith

    sharing : (k : ℕ) → at < k → k < suc at + count → least ≤ shared names (parts_of (get_or methods k d).address)
    sharing k lt more =
        let back : suc at + (k - suc at) ≡ k = omega arith in
        let fails : test (get_or methods k d) ≡ false =
        ap (λ (n : ℕ). test (get_or methods n d)) (sym back) ∙ ap test (sym (get_or-drop (suc at) methods (k - suc at) d))
        ∙ fails_before_first test (drop (suc at) methods) (k - suc at) d (omega arith) in
        le_of (nat_le least (shared names (parts_of (get_or methods k d).address))) refl fails where
          le_of : (t : Bool) → nat_le least (shared names (parts_of (get_or methods k d).address)) ≡ t → not t ≡ false
              → least ≤ shared names (parts_of (get_or methods k d).address)
          le_of true is e = (let h : nat_le least (shared names (parts_of (get_or methods k d).address)) ≡ true = is in grind (arith, nat_tests))
          le_of false is e = absurd (cc)

    none : (k : ℕ) → at ≤ k → k < suc at + count → matches pattern (get_or methods k d).address ≡ false
    none k le lt = go (nat_eq at k) refl where
      unmatched : (t : Bool) → matches pattern (get_or methods at d).address ≡ t → t ≡ false
      unmatched false e = refl
      unmatched true e =
          let all = matched_agree (parts_of pattern) names e in
          let first : (matching == length (parts_of pattern)) ≡ true =
          (let h : matching ≡ length (parts_of pattern) = is ∙ all.0 in grind (arith, nat_tests)) in
          let second : (matching == length names) ≡ true = (let h : matching ≡ length names = is ∙ all.1 in grind (arith, nat_tests)) in
          absurd (let bad = whole in cc)

      go : (t : Bool) → nat_eq at k ≡ t → matches pattern (get_or methods k d).address ≡ false
      go true e =
          let same : at ≡ k = (let h : nat_eq at k ≡ true = e in grind (arith, nat_tests)) in
          ap (λ (n : ℕ). matches pattern (get_or methods n d).address) (sym same) ∙ unmatched (matches pattern (get_or methods at d).address) refl
      go false e =
          let before : at < k = (let h : nat_eq at k ≡ false = e in grind (arith, nat_tests)) in
          let here : least_of (agreeing (parts_of pattern) names) (length (parts_of pattern)) ≡ least =
          ap (λ (n : ℕ). least_of n (length (parts_of pattern))) (sym is) ∙ sym leasts in
          let alike = sharing k before lt in
          let end = fits in
          over_not pattern (get_or methods at d).address (get_or methods k d).address (at_slash methods at d sorted within)
          (at_slash methods k d sorted (omega arith)) (at_apart methods at k d sorted before (omega arith)) (omega arith)

    ended : suc at + count < length methods → shared names (parts_of (get_or methods (suc (at + count)) d).address) < least
    ended lt =
        let passes : test (get_or methods (suc (at + count)) d) ≡ true =
        ap (λ (n : ℕ). test (get_or methods n d)) (sym shift) ∙ ap test (sym (get_or-drop (suc at) methods count d))
        ∙ ap (λ (n : ℕ). test (get_or (drop (suc at) methods) n d)) counted
        ∙ passes_at_first test (drop (suc at) methods) d (omega (arith, length-drop (suc at) methods)) in
        lt_of (nat_le least (shared names (parts_of (get_or methods (suc (at + count)) d).address))) refl passes where
          lt_of : (t : Bool) → nat_le least (shared names (parts_of (get_or methods (suc (at + count)) d).address)) ≡ t → not t ≡ true
              → shared names (parts_of (get_or methods (suc (at + count)) d).address) < least
          lt_of true is e = absurd (cc)
          lt_of false is e =
              (let h : nat_le least (shared names (parts_of (get_or methods (suc (at + count)) d).address)) ≡ false = is in grind (arith, nat_tests))

    next_here : suc at + count < length methods
        → shared (parts_of (get_or methods (at + count) d).address) (parts_of (get_or methods (suc (at + count)) d).address)
        ≤ agreeing (parts_of pattern) (parts_of (get_or methods (suc (at + count)) d).address)
    next_here lt = go (nat_eq count 0) refl where
      go : (t : Bool) → nat_eq count 0 ≡ t → shared (parts_of (get_or methods (at + count) d).address) (parts_of (get_or methods (suc (at + count)) d).address)
          ≤ agreeing (parts_of pattern) (parts_of (get_or methods (suc (at + count)) d).address)
      go true e =
          let same : at + count ≡ at = (let h : nat_eq count 0 ≡ true = e in grind (arith, nat_tests)) in
          let first = known_first (parts_of pattern) names (parts_of (get_or methods (suc (at + count)) d).address) least small (ended lt) in
          subst (λ (n : ℕ). shared (parts_of (get_or methods n d).address) (parts_of (get_or methods (suc (at + count)) d).address)
          ≤ agreeing (parts_of pattern) (parts_of (get_or methods (suc (at + count)) d).address)) (sym same) first
      go false e =
          let some : 0 < count = (let h : nat_eq count 0 ≡ false = e in grind (arith, nat_tests)) in
          known_later (parts_of pattern) names (parts_of (get_or methods (at + count) d).address) (parts_of (get_or methods (suc (at + count)) d).address) least
          small (sharing (at + count) (omega arith) (omega arith)) (ended lt)

    next : (other : Method) → suc at + count < length methods
        → known_at methods (suc (at + count)) other ≤ agreeing (parts_of pattern) (parts_of (get_or methods (suc (at + count)) other).address)
    next other lt =
        let one = any_default methods (at + count) other d (omega arith) in
        let two = any_default methods (suc (at + count)) other d (omega arith) in
        rw (one, two) (next_here lt)

pub walked_few : (pattern : List ℕ) (methods : List Method) (at : ℕ) (ids : List ℕ) → IsWalked pattern methods at ids → length ids ≤ at
walked_few pattern methods at ids so =
    let test : Method → Bool = λ method. matches pattern method.address in
    let few = filter_few test (take at methods) in
    let bound = so.bound in
    omega (arith, ap length so.found, length-map (filter test (take at methods)) (λ (method : Method). method.id), length-take-le at methods bound)

-- the method at a place of the order
pub method_here : (registered : List Registered) (places : List ℕ) (k : ℕ) (one : Registered) (d : Method) → All (λ place. place < length registered) places
    → k < length places → one ≡ get_or registered (get_or places k 0) one → get_or (methods_at registered places) k d ≡ method_of one
method_here registered places k one d all within is =
    methods_at-get registered places k d within ∙ method_at-get registered (get_or places k 0) one (all k 0 within) ∙ ap method_of (sym is)

pub known_is : (methods : List Method) (at : ℕ) (d : Method) → 0 < at
    → known_at methods at d ≡ shared (parts_of (get_or methods (at - 1) d).address) (parts_of (get_or methods at d).address)
known_is methods zero d some = absurd (omega arith)
known_is methods (suc at) d some = let back : suc at - 1 ≡ at = omega arith in rw back refl

-- those that are counted from the places after
pub counted_over : (registered : List Registered) (places : List ℕ) (at count : ℕ) (test : Method → Bool)
    → count ≡ position_or_len (λ place. test (method_at registered place)) (take (length places - (at + 1)) (drop (at + 1) places))
    → count ≡ position_or_len test (drop (suc at) (methods_at registered places))
counted_over registered places at count test e =
    e ∙ ap (position_or_len (λ place. test (method_at registered place)))
    (take_all (length places - (at + 1)) (drop (at + 1) places) (omega (arith, length-drop (at + 1) places)))
    ∙ sym (position-map (method_at registered) test (drop (at + 1) places))
    ∙ ap (position_or_len test) (sym (drop-map (method_at registered) (at + 1) places))
    ∙ ap (λ (n : ℕ). position_or_len test (drop n (methods_at registered places))) (add-one at)

-- as many as there are of both
pub whole_is : (n parts names : ℕ) → (n == parts && n == names) ≡ true → (n ≡ parts) × (n ≡ names)
whole_is n parts names e = go (n == parts) refl (n == names) refl e where
  go : (a : Bool) → (n == parts) ≡ a → (b : Bool) → (n == names) ≡ b → (a && b) ≡ true → (n ≡ parts) × (n ≡ names)
  go true a true b e =
      ((let h : (n == parts) ≡ true = a in grind (arith, nat_tests)), (let h : (n == names) ≡ true = b in grind (arith, nat_tests)))
  go true a false b e = absurd (cc)
  go false a b is e = absurd (cc)

-- fewer than all parts or than all names aren't all of both
pub whole_parts : (n parts names : ℕ) → n < parts → false ≡ (n == parts && n == names)
whole_parts n parts names lt = grind (arith, nat_tests)

pub whole_names : (n parts names : ℕ) → n < names → false ≡ (n == parts && n == names)
whole_names n parts names lt = grind (arith, nat_tests)

pub whole_ends : (n parts names : ℕ) → n ≡ names → (n == parts) ≡ (n == parts && n == names)
whole_ends n parts names e = grind (arith, nat_tests)

-- those that share so many names with a method stand together after it
pub sharing_parted : (registered : List Registered) (places : List ℕ) (at least : ℕ) (d : Method) (names : List (List ℕ))
    → IsSorted (methods_at registered places) → at < length places → names ≡ parts_of (get_or (methods_at registered places) at d).address
    → IsPartitionedBy (λ place. nat_le least (shared names (parts_of (method_at registered place).address)))
    (take (length places - (at + 1)) (drop (at + 1) places))
sharing_parted registered places at least d names sorted within is i j e le lt more =
    rw (here i (let end = bound in omega arith)) (to (shared names (parts_of (get_or ms (at + 1 + i) d).address)) (alike (from (shared names (parts_of (get_or
    ms (at + 1 + j) d).address))
    (ap (λ (m : Method). nat_le least (shared names (parts_of m.address))) (sym (here j bound)) ∙ more))))
  where
    ms : List Method
    ms = methods_at registered places

    rest : List ℕ
    rest = take (length places - (at + 1)) (drop (at + 1) places)

    whole : rest ≡ drop (at + 1) places
    whole = take_all (length places - (at + 1)) (drop (at + 1) places) (omega (arith, length-drop (at + 1) places))

    bound : j < length places - (at + 1)
    bound = omega (arith, ap length whole, length-drop (at + 1) places)

    here : (k : ℕ) → k < length places - (at + 1) → method_at registered (get_or rest k e) ≡ get_or ms (at + 1 + k) d
    here k inside =
        ap (λ l. method_at registered (get_or l k e)) whole ∙ ap (method_at registered) (get_or-drop (at + 1) places k e)
        ∙ ap (method_at registered) (any_default places (at + 1 + k) e 0 (omega arith)) ∙ sym (methods_at-get registered places (at + 1 + k) d (omega arith))

    from : (n : ℕ) → nat_le least n ≡ true → least ≤ n
    from n h = grind (arith, nat_tests)

    to : (n : ℕ) → least ≤ n → nat_le least n ≡ true
    to n h = grind (arith, nat_tests)

    alike : least ≤ shared names (parts_of (get_or ms (at + 1 + j) d).address) → least ≤ shared names (parts_of (get_or ms (at + 1 + i) d).address)
    alike most =
        let long = methods_at-length registered places in
        let end = bound in
        let own : least ≤ shared (parts_of (get_or ms at d).address) (parts_of (get_or ms (at + 1 + j) d).address) =
        subst (λ l. least ≤ shared l (parts_of (get_or ms (at + 1 + j) d).address)) is most in
        let between = shared_between (get_or ms at d).address (get_or ms (at + 1 + i) d).address (get_or ms (at + 1 + j) d).address least
        (at_slash ms at d sorted (omega arith)) (at_slash ms (at + 1 + i) d sorted (omega arith)) (at_slash ms (at + 1 + j) d sorted (omega arith))
        (ascend_far ms at (at + 1 + i) d sorted.ascending (omega arith) (omega arith))
        (ascend_far ms (at + 1 + i) (at + 1 + j) d sorted.ascending (omega arith) (omega arith))
        (at_apart ms at (at + 1 + j) d sorted (omega arith) (omega arith)) own in
        let last = parts_of (get_or ms (at + 1 + j) d).address in
        let one = shared_turn (parts_of (get_or ms at d).address) last in
        let two = shared_turn (parts_of (get_or ms (at + 1 + i) d).address) last in
        subst (λ l. least ≤ shared l (parts_of (get_or ms (at + 1 + i) d).address)) (sym is)
        (shared_through last (parts_of (get_or ms at d).address) (parts_of (get_or ms (at + 1 + i) d).address) least (omega arith) (omega arith))

-- a search for the first that fails a test, after those that pass it
pub record IsHalved (test : ℕ → Bool) (xs : List ℕ) (low high : ℕ) : Type 0 where
  pub order : low ≤ high
  pub bound : high ≤ length xs
  pub below : (k : ℕ) → k < low → test (get_or xs k 0) ≡ true
  pub behind : (k : ℕ) → high ≤ k → k < length xs → test (get_or xs k 0) ≡ false

pub halved_none : (test : ℕ → Bool) (xs : List ℕ) → IsHalved test xs 0 (length xs)
halved_none test xs = record { order = omega arith; bound = omega arith; below = λ k lt. absurd (omega arith); behind = λ k le lt. absurd (omega arith) }

pub halved_up : (test : ℕ → Bool) (xs : List ℕ) (low high middle : ℕ) → IsPartitionedBy test xs → IsHalved test xs low high → middle < high
    → test (get_or xs middle 0) ≡ true → IsHalved test xs (middle + 1) high
halved_up test xs low high middle parted so lt e =
    let bound = so.bound in
    record { order = omega arith; bound = bound; below = λ k less. parted k middle 0 (omega arith) (omega arith) e; behind = so.behind }

pub halved_down : (test : ℕ → Bool) (xs : List ℕ) (low high middle : ℕ) → IsPartitionedBy test xs → IsHalved test xs low high → low ≤ middle → middle < high
    → test (get_or xs middle 0) ≡ false → IsHalved test xs low middle
halved_down test xs low high middle parted so le lt e =
    let bound = so.bound in
    record { order = le; bound = omega arith; below = so.below; behind = λ k more less. go k more less (test (get_or xs k 0)) refl } where
      go : (k : ℕ) → middle ≤ k → k < length xs → (t : Bool) → test (get_or xs k 0) ≡ t → test (get_or xs k 0) ≡ false
      go k more less false is = is
      go k more less true is = absurd (let other = parted middle k 0 more less is in cc)

pub halved_is : (test : ℕ → Bool) (xs : List ℕ) (low high : ℕ) → IsHalved test xs low high → high ≤ low → low ≡ position_or_len (λ x. not (test x)) xs
halved_is test xs low high so le =
    let order = so.order in
    let bound = so.bound in
    sym (position_or_len_is (λ x. not (test x)) xs low 0 (omega arith) (λ k lt. ap not (so.below k lt)) (λ lt. ap not (so.behind low (omega arith) lt)))
