-- What stands where a search in the order of the addresses comes to.
use Rattle.std.proofs.Common.{◌≡◌, ℕ, ◌+◌, ◌<◌, ◌≤◌, Bool, true, false, nat_lt, List, [], ◌∷◌, length}
use Rattle.std.proofs.Common.{get_or, refl, sym, ap, subst, ◌∙◌, arith}
use Rattle.std.specs.List.{list_any, position_or_len, remove}
use Rattle.std.specs.Str.{bytes_eq}
use Rattle.std.proofs.lemmas.Bool.Decides.{nat_tests}
use Rattle.std.proofs.lemmas.List.Edits.{get_or-remove_below, get_or-remove_above, length-remove}
use Rattle.std.proofs.lemmas.List.Folds.{list_any_at, list_any_none}
use Rattle.std.proofs.lemmas.List.Sums.{position_or_len_is}
use Rattle.std.proofs.lemmas.Slice.Eq.{bytes_eq-Decides}
use Rattle.osc_pattern.specs.Methods.{Method}
use Rattle.osc_tree.specs.Registry.{NoneAt}
use Rattle.osc_tree.specs.Matching.{is_below, IsAscending}
use Rattle.osc_tree.specs.Order.{is_before, begins_with, IsSearched}
use Rattle.osc_tree.proofs.Places.{any_default}
use Rattle.osc_tree.proofs.Ranges.{lower, lower_order, lower_more, begun_not_before, begun_no_more, ascend_far}

-- two texts neither of which is before the other
pub level : (a b : List ℕ) → lower a b ≡ false → lower b a ≡ false → a ≡ b
level [] [] e f = refl
level [] (y ∷ b) e f = absurd (cc)
level (x ∷ a) [] e f = absurd (cc)
level (x ∷ a) (y ∷ b) e f =
    let one = lower_more x y a b in
    let two = lower_more y x b a in
    let first : x ≡ y = grind (arith, nat_tests) in
    let ahead : lower a b ≡ false = grind (arith, nat_tests) in
    let back : lower b a ≡ false = grind (arith, nat_tests) in
    ap (λ (n : ℕ). n ∷ a) first ∙ ap (λ l. y ∷ l) (level a b ahead back)

-- no method has the text where the one there hasn't
pub none_there : (text : List ℕ) (methods : List Method) (at : ℕ) → IsAscending methods → IsSearched text methods at at
    → ((d : Method) → at < length methods → bytes_eq (get_or methods at d).address text ≡ false)
    → list_any (λ method. bytes_eq method.address text) methods ≡ false
none_there text methods at up so other =
    list_any_none (λ (method : Method). bytes_eq method.address text) methods
    (λ k d lt. go k d lt (bytes_eq (get_or methods k d).address text) refl (nat_lt k at) refl)
  where
    go : (k : ℕ) (d : Method) → k < length methods → (t : Bool) → bytes_eq (get_or methods k d).address text ≡ t → (s : Bool) → nat_lt k at ≡ s
        → bytes_eq (get_or methods k d).address text ≡ false
    go k d lt false e s f = e
    go k d lt true e true f =
        let less : k < at = (let h : nat_lt k at ≡ true = f in grind (arith, nat_tests)) in
        let same : (get_or methods k d).address ≡ text = (bytes_eq-Decides (get_or methods k d).address text).0 e in
        let before : lower text text ≡ true = subst (λ l. lower l text ≡ true) same (so.before k d less) in
        let after = lower_order.one_way text text before in absurd (cc)
    go k d lt true e false f =
        let least : at ≤ k = (let h : nat_lt k at ≡ false = f in grind (arith, nat_tests)) in
        let within : at < length methods = omega arith in
        let same : (get_or methods k d).address ≡ text = (bytes_eq-Decides (get_or methods k d).address text).0 e in
        let back : lower text (get_or methods at d).address ≡ false =
        subst (λ l. lower l (get_or methods at d).address ≡ false) same (ascend_far methods at k d up least lt) in
        let is : bytes_eq (get_or methods at d).address text ≡ true =
        (bytes_eq-Decides (get_or methods at d).address text).1 (level (get_or methods at d).address text (so.behind at d (omega arith) within) back) in
        let no = other d within in absurd (cc)

-- a method begins with the text where the one there does
pub begins_there : (text : List ℕ) (methods : List Method) (at : ℕ) (d : Method) → IsAscending methods → IsSearched text methods at at → at < length methods
    → list_any (begins_with text) methods ≡ begins_with text (get_or methods at d)
begins_there text methods at d up so within = go (begins_with text (get_or methods at d)) refl where
  none : (k : ℕ) (e : Method) → begins_with text (get_or methods at d) ≡ false → k < length methods → (t : Bool) → begins_with text (get_or methods k e) ≡ t
      → begins_with text (get_or methods k e) ≡ false
  none k e other lt false is = is
  none k e other lt true is = split (nat_lt k at) refl where
    split : (s : Bool) → nat_lt k at ≡ s → begins_with text (get_or methods k e) ≡ false
    split true f =
        let less : k < at = (let h : nat_lt k at ≡ true = f in grind (arith, nat_tests)) in
        let before = so.before k e less in
        let after = begun_not_before text (get_or methods k e).address is in absurd (cc)
    split false f =
        let least : at ≤ k = (let h : nat_lt k at ≡ false = f in grind (arith, nat_tests)) in
        let same = any_default methods at d e within in
        begun_no_more text (get_or methods at e).address (get_or methods k e).address (subst (λ (m : Method). begins_with text m ≡ false) same other)
        (so.behind at e (omega arith) within) (ascend_far methods at k e up least lt)

  go : (t : Bool) → begins_with text (get_or methods at d) ≡ t → list_any (begins_with text) methods ≡ begins_with text (get_or methods at d)
  go true e = list_any_at (begins_with text) methods at d within e ∙ sym e
  go false e = list_any_none (begins_with text) methods (λ k other lt. none k other e lt (begins_with text (get_or methods k other)) refl) ∙ sym e

pub begins_past : (text : List ℕ) (methods : List Method) (at : ℕ) → IsSearched text methods at at → length methods ≤ at
    → list_any (begins_with text) methods ≡ false
begins_past text methods at so past =
    list_any_none (begins_with text) methods (λ k d lt. none k d lt (begins_with text (get_or methods k d)) refl) where
      none : (k : ℕ) (d : Method) → k < length methods → (t : Bool) → begins_with text (get_or methods k d) ≡ t → begins_with text (get_or methods k d) ≡ false
      none k d lt false is = is
      none k d lt true is =
          let before = so.before k d (omega arith) in
          let after = begun_not_before text (get_or methods k d).address is in absurd (cc)

-- a method that is new goes where the search for its address came to
pub enters_there : (method : Method) (methods : List Method) (at : ℕ) → IsSearched method.address methods at at → NoneAt methods method.address
    → position_or_len (is_below method) methods ≡ at
enters_there method methods at so none =
    position_or_len_is (is_below method) methods at method so.bound
    (λ k lt. lower_order.one_way (get_or methods k method).address method.address (so.before k method lt))
    (λ lt. go (is_below method (get_or methods at method)) refl lt)
  where
    go : (t : Bool) → is_below method (get_or methods at method) ≡ t → at < length methods → is_below method (get_or methods at method) ≡ true
    go true e lt = e
    go false e lt = absurd (none at method lt (level (get_or methods at method).address method.address (so.behind at method (omega arith) lt) e))

-- without the method there the search comes to the same place
pub searched_without : (text : List ℕ) (methods : List Method) (at : ℕ) → IsSearched text methods at at → at < length methods
    → IsSearched text (remove methods at) at at
searched_without text methods at so within =
    let long = length-remove methods at within in
    record {
      order = omega arith;
      bound = omega arith;
      before = λ k d lt. subst (λ (m : Method). is_before text m ≡ true) (sym (get_or-remove_below methods at d k lt within)) (so.before k d lt);
      behind = λ k d ge lt. subst (λ (m : Method). is_before text m ≡ false) (sym (get_or-remove_above methods at d k ge within))
          (so.behind (k + 1) d (omega arith) (omega arith));
    }
