-- A plain text, a star and a plain tail match the addresses that begin with the text, have no slash after it and end with the tail; those below a
-- node stand together.
use Rattle.std.proofs.Common.{◌≡◌, ℕ, zero, suc, ◌+◌, ◌-◌, ◌<◌, ◌≤◌, Bool, true, false, not, cond, ◌&&◌, ◌||◌, List, [], ◌∷◌, ◌++◌, length, take, drop, map}
use Rattle.std.proofs.Common.{filter, get_or, position, Some, All, nat_eq, refl, sym, ap, subst, ◌∙◌, arith, add-one}
use Rattle.std.specs.List.{list_any, slice_split, onto_first, starts_with, ends_with, before_first}
use Rattle.std.proofs.Math.Bool.{and-false}
use Rattle.std.proofs.Math.Seq.{drop-append_seam, drop-cons, take-suc}
use Rattle.std.proofs.lemmas.List.{take-append-drop, drop-drop, length-append, length-drop, length-map, length-take-le, map-append}
use Rattle.std.proofs.lemmas.List.Quantifiers.{position-Some}
use Rattle.std.proofs.lemmas.Bool.{or_parts}
use Rattle.std.proofs.lemmas.Bool.Decides.{nat_tests}
use Rattle.osc_pattern.specs.Items.{is_slash}
use Rattle.osc_pattern.specs.Methods.{Method, IsMethodList}
use Rattle.osc_pattern.specs.Patterns.{begins_with_slash, is_special, matches, match_parts}
use Rattle.osc_pattern.proofs.Parts.{split-cons}
use Rattle.osc_tree.specs.declared.registered.Registered.{Registered}
use Rattle.osc_tree.specs.Choosing.{is_odd, IsPlainStar}
use Rattle.osc_tree.specs.Matching.{matching_ids}
use Rattle.osc_tree.specs.Order.{IsOrder, IsSearched, begins_with, is_flat}
use Rattle.osc_tree.specs.Views.{methods_of, methods_at}
use Rattle.osc_tree.specs.Walking.{IsSorted}
use Rattle.osc_tree.proofs.Advances.{begun_rest}
use Rattle.osc_tree.proofs.Charges.{begun_between}
use Rattle.osc_tree.proofs.Fronts.{filter_passes, front_some}
use Rattle.osc_tree.proofs.InOrder.{found_is}
use Rattle.osc_tree.proofs.Lists.{filter_few, position-some}
use Rattle.osc_tree.proofs.Literals.{own_beginning, plain_same, front_found}
use Rattle.osc_tree.proofs.Onward.{lower_prefix, plain_front}
use Rattle.osc_tree.proofs.Overs.{slash_first}
use Rattle.osc_tree.proofs.Ranges.{lower, lower_order, lower_more, ascend_far, searched_none, searched_up}
use Rattle.osc_tree.proofs.Tails.{nothing_alone, tail_name}
use Rattle.osc_tree.proofs.Walks.{filter_far, kept_push}

front_and_star : (front tail rest : List ℕ) → list_any is_special front ≡ false → list_any is_odd tail ≡ false
    → match_parts (slice_split is_slash (front ++ 42 ∷ tail)) (slice_split is_slash (front ++ rest))
    ≡ (not (list_any is_slash rest) && ends_with nat_eq rest tail)
front_and_star [] tail rest none even = tail_name tail rest even
front_and_star (x ∷ front) tail rest none even =
    let both = or_parts (is_special x) (list_any is_special front) none in
    go (is_slash x) refl both.0 (split-cons (front ++ 42 ∷ tail)) (split-cons (front ++ rest)) (front_and_star front tail rest both.1 even) where
      parts : List (List ℕ)
      parts = slice_split is_slash (front ++ 42 ∷ tail)

      names : List (List ℕ)
      names = slice_split is_slash (front ++ rest)

      go : {is : Bool} (t : Bool) → is_slash x ≡ t → is_special x ≡ false
          → (part : List ℕ) × (others : List (List ℕ)) × (parts ≡ part ∷ others)
          → (name : List ℕ) × (more : List (List ℕ)) × (names ≡ name ∷ more)
          → match_parts parts names ≡ is
          → match_parts (cond t ([] ∷ parts) (onto_first x parts)) (cond t ([] ∷ names) (onto_first x names)) ≡ is
      go true slash special first second is = ap (λ t. t && match_parts parts names) nothing_alone ∙ is
      go false slash special (part, others, e) (name, more, f) is =
          ap (λ l. match_parts (onto_first x l) (onto_first x names)) e
          ∙ ap (λ l. match_parts ((x ∷ part) ∷ others) (onto_first x l)) f
          ∙ ap (λ t. t && match_parts others more) (plain_same x part name special slash)
          ∙ sym (ap (λ l. match_parts l names) e ∙ ap (match_parts (part ∷ others)) f) ∙ is

-- a plain text, a star and a plain tail match what begins with the text, and has after it no slash, and the tail at its end
star_flat : (text tail : List ℕ) (method : Method) → begins_with_slash text ≡ true → list_any is_special text ≡ false → list_any is_odd tail ≡ false
    → begins_with text method ≡ true → is_flat (length text) tail method ≡ matches (text ++ 42 ∷ tail) method.address
star_flat [] tail method slash none even begun = absurd (cc)
star_flat (x ∷ text) tail method slash none even begun =
    let rest = begun_rest method.address (x ∷ text) begun in
    let both = or_parts (is_special x) (list_any is_special text) none in
    let after = λ (l : List ℕ). not (list_any is_slash l) && ends_with nat_eq l tail in
    ap (λ l. after (drop (length (x ∷ text)) l)) rest.1
    ∙ ap after (drop-append_seam (x ∷ text) rest.0)
    ∙ sym (front_and_star text tail rest.0 both.1 even)
    ∙ ap (matches ((x ∷ text) ++ 42 ∷ tail)) (sym rest.1)

both_filters : (p q b : Method → Bool) (methods : List Method) → ((method : Method) → b method ≡ true → p method ≡ q method)
    → filter p (filter b methods) ≡ filter q (filter b methods)
both_filters p q b [] same = refl
both_filters p q b (method ∷ methods) same = go (b method) refl (both_filters p q b methods same) where
  go : (t : Bool) → b method ≡ t → filter p (filter b methods) ≡ filter q (filter b methods)
      → filter p (cond t (method ∷ filter b methods) (filter b methods)) ≡ filter q (cond t (method ∷ filter b methods) (filter b methods))
  go true e more =
      ap (λ t. cond t (method ∷ filter p (filter b methods)) (filter p (filter b methods))) (same method e)
      ∙ ap (λ l. cond (q method) (method ∷ l) l) more
  go false e more = more

-- the flat ones of those that begin with a text are those that the text and a star match
pub flat_ids : (pattern text tail : List ℕ) (registered : List Registered) (places near : List ℕ) → IsMethodList (methods_of registered)
    → IsOrder registered places → begins_with_slash pattern ≡ true → text ≡ before_first is_special pattern → begins_with_slash text ≡ true
    → list_any is_special text ≡ false → IsPlainStar (drop (length text) pattern) tail
    → pattern ≡ text ++ drop (length text) pattern → methods_at registered near ≡ filter (begins_with text) (methods_at registered places)
    → map (λ (method : Method). method.id) (filter (is_flat (length text) tail) (methods_at registered near)) ≡ matching_ids pattern (methods_of registered)
flat_ids pattern text tail registered places near list order slash front first none behind whole those =
    let is : pattern ≡ text ++ 42 ∷ tail = whole ∙ ap (λ l. text ++ l) behind.is in
    ap (λ l. map (λ (method : Method). method.id) (filter (is_flat (length text) tail) l)) those
    ∙ ap (map (λ (method : Method). method.id))
    (both_filters (is_flat (length text) tail) (λ method. matches pattern method.address) (begins_with text) (methods_at registered places)
    (λ method begun. star_flat text tail method first none behind.even begun ∙ ap (λ l. matches l method.address) (sym is))
    ∙ found_is pattern text registered places list order slash front)

-- those that begin with a text are as long as it is
pub begun_long : (text : List ℕ) (methods near : List Method) → near ≡ filter (begins_with text) methods
    → All (λ method. length text ≤ length method.address) near
begun_long text methods near e =
    subst (All (λ method. length text ≤ length method.address)) (sym e)
    (λ k d lt. long (get_or (filter (begins_with text) methods) k d).address (filter_passes (begins_with text) methods k d lt)) where
      long : (address : List ℕ) → starts_with nat_eq address text ≡ true → length text ≤ length address
      long address begun =
          let tail = begun_rest address text begun in
          omega (arith, ap length tail.1, length-append text tail.0)

-- those that begin with what stands before a pattern's first special byte are as long as that
pub front_long : (pattern bytes : List ℕ) (end : ℕ) (methods near : List Method) → bytes ≡ pattern → position is_special pattern ≡ Some end
    → near ≡ filter (begins_with (take end bytes)) methods → All (λ method. end ≤ length method.address) near
front_long pattern bytes end methods near value special those =
    let place = position-some is_special pattern end special in
    let size : length (take end bytes) ≡ end = length-take-le end bytes (omega (arith, place.1, ap length value)) in
    subst (λ (n : ℕ). All (λ (method : Method). n ≤ length method.address) near) size (begun_long (take end bytes) methods near those)

-- the node whose name ends at a slash
pub node_is : (address : List ℕ) (from size : ℕ) → from ≤ length address → position is_slash (drop from address) ≡ Some size
    → (address ≡ take (from + size) address ++ 47 ∷ drop (suc size) (drop from address)) × (from ≤ length (take (from + size) address))
node_is address from size le e =
    let found = position-Some is_slash (drop from address) size 0 e in
    let byte : get_or (drop from address) size 0 ≡ 47 =
    (let h : is_slash (get_or (drop from address) size 0) ≡ true = found.1 in grind (arith, nat_tests)) in
    let within : from + size ≤ length address = omega (arith, length-drop from address, found.0) in (
      sym (take-append-drop (from + size) address)
          ∙ ap (λ l. take (from + size) address ++ l)
          (sym (drop-drop size from address) ∙ drop-cons (drop from address) size 0 found.0 ∙ ap (λ b. b ∷ drop (suc size) (drop from address)) byte),
      omega (arith, length-take-le (from + size) address within),
    )

below_ahead : (node rest : List ℕ) → lower (node ++ 47 ∷ rest) (node ++ 48 ∷ []) ≡ true
below_ahead node rest = lower_prefix node (47 ∷ rest) (48 ∷ []) ∙ lower_more 47 48 rest []

pub node_ahead : (address node rest : List ℕ) → address ≡ node ++ 47 ∷ rest → lower address (node ++ 48 ∷ []) ≡ true
node_ahead address node rest e = ap (λ l. lower l (node ++ 48 ∷ [])) e ∙ below_ahead node rest

-- all up to a method below a node are before what follows all of those
pub node_searched : (methods : List Method) (at : ℕ) (node rest : List ℕ) (d : Method) → IsSorted methods → at < length methods
    → (get_or methods at d).address ≡ node ++ 47 ∷ rest → IsSearched (node ++ 48 ∷ []) methods (at + 1) (length methods)
node_searched methods at node rest d sorted within e =
    searched_up (node ++ 48 ∷ []) methods 0 (length methods) at d sorted.ascending (searched_none (node ++ 48 ∷ []) methods) within
    (node_ahead (get_or methods at d).address node rest e)

-- what stands between a method below a node and what follows all of those is below the node too
below_too : (node rest other : List ℕ) → lower other (node ++ 47 ∷ rest) ≡ false → lower other (node ++ 48 ∷ []) ≡ true
    → (more : List ℕ) × (other ≡ node ++ 47 ∷ more)
below_too node rest other later before =
    let begins = begun_between node (node ++ 47 ∷ rest) other (node ++ 48 ∷ []) later (lower_order.one_way other (node ++ 48 ∷ []) before)
    (own_beginning node (47 ∷ rest)) (own_beginning node (48 ∷ [])) in
    let tail = begun_rest other node begins in
    let above : lower tail.0 (47 ∷ rest) ≡ false =
    sym (lower_prefix node tail.0 (47 ∷ rest)) ∙ ap (λ l. lower l (node ++ 47 ∷ rest)) (sym tail.1) ∙ later in
    let under : lower tail.0 (48 ∷ []) ≡ true =
    sym (lower_prefix node tail.0 (48 ∷ [])) ∙ ap (λ l. lower l (node ++ 48 ∷ [])) (sym tail.1) ∙ before in
    let slash = slash_first tail.0 rest above under in
    (slash.0, tail.1 ∙ ap (λ l. node ++ l) slash.1)

slash_left : (from : ℕ) (node more : List ℕ) → from ≤ length node → list_any is_slash (drop from (node ++ 47 ∷ more)) ≡ true
slash_left zero [] more le = refl
slash_left zero (x ∷ node) more le = rw (slash_left zero node more (omega arith)) (either (is_slash x)) where
  either : (t : Bool) → (t || true) ≡ true
  either true = refl
  either false = refl
slash_left (suc from) [] more le = absurd (omega arith)
slash_left (suc from) (x ∷ node) more le = slash_left from node more (omega arith)

-- none of those is flat
pub node_passed : (methods : List Method) (at next from : ℕ) (tail node rest : List ℕ) (d : Method) → IsSorted methods → at < length methods
    → from ≤ length node → (get_or methods at d).address ≡ node ++ 47 ∷ rest → IsSearched (node ++ 48 ∷ []) methods next next → at < next
    → filter (is_flat from tail) (take next methods) ≡ filter (is_flat from tail) (take at methods)
node_passed methods at next from tail node rest d sorted within le own searched less =
    let bound = searched.bound in
    let span : at + (next - at) ≡ next = omega arith in
    sym (ap (λ (n : ℕ). filter (is_flat from tail) (take n methods)) span)
    ∙ filter_far (is_flat from tail) methods at (next - at) d (omega arith) (λ k ge lt. none k ge (omega arith)) where
      none : (k : ℕ) → at ≤ k → k < next → is_flat from tail (get_or methods k d) ≡ false
      none k ge lt =
          let bound = searched.bound in
          let other = (get_or methods k d).address in
          let later : lower other (node ++ 47 ∷ rest) ≡ false =
          ap (lower other) (sym own) ∙ ascend_far methods at k d sorted.ascending ge (omega arith) in
          let found = below_too node rest other later (searched.before k d lt) in
          ap (λ l. not (list_any is_slash (drop from l)) && ends_with nat_eq (drop from l) tail) found.1
          ∙ ap (λ t. not t && ends_with nat_eq (drop from (node ++ 47 ∷ found.0)) tail) (slash_left from node found.0 le)

-- the flat method at a place
pub flat_hit : (methods : List Method) (at from id : ℕ) (tail ids more : List ℕ) (d : Method) → at < length methods
    → list_any is_slash (drop from (get_or methods at d).address) ≡ false → ends_with nat_eq (drop from (get_or methods at d).address) tail ≡ true
    → id ≡ (get_or methods at d).id → ids ≡ map (λ (method : Method). method.id) (filter (is_flat from tail) (take at methods)) → more ≡ ids ++ id ∷ []
    → more ≡ map (λ (method : Method). method.id) (filter (is_flat from tail) (take (at + 1) methods))
flat_hit methods at from id tail ids more d within none ends same so e =
    e ∙ ap (λ l. l ++ id ∷ []) so ∙ ap (λ (n : ℕ). map (λ (method : Method). method.id) (filter (is_flat from tail) (take at methods)) ++ n ∷ []) same
    ∙ sym (map-append (λ (method : Method). method.id) (filter (is_flat from tail) (take at methods)) (get_or methods at d ∷ []))
    ∙ sym (ap (map (λ (method : Method). method.id))
    (ap (λ (n : ℕ). filter (is_flat from tail) (take n methods)) (add-one at) ∙ ap (filter (is_flat from tail)) (take-suc methods at d within)
    ∙ kept_push (is_flat from tail) (take at methods) (get_or methods at d)
    (ap (λ t. not t && ends_with nat_eq (drop from (get_or methods at d).address) tail) none ∙ ends)))

-- the method at a place that hasn't the tail at its end
pub flat_miss : (methods : List Method) (at from : ℕ) (tail : List ℕ) (d : Method) → at < length methods
    → ends_with nat_eq (drop from (get_or methods at d).address) tail ≡ false
    → filter (is_flat from tail) (take (at + 1) methods) ≡ filter (is_flat from tail) (take at methods)
flat_miss methods at from tail d within ends = filter_far (is_flat from tail) methods at 1 d (omega arith) (λ k ge lt. none k (omega arith)) where
  none : (k : ℕ) → k ≡ at → is_flat from tail (get_or methods k d) ≡ false
  none k e =
      ap (λ (n : ℕ). is_flat from tail (get_or methods n d)) e
      ∙ ap (λ t. not (list_any is_slash (drop from (get_or methods at d).address)) && t) ends
      ∙ and-false (not (list_any is_slash (drop from (get_or methods at d).address)))

pub flat_few : (methods : List Method) (at from : ℕ) (tail ids : List ℕ) → at ≤ length methods
    → ids ≡ map (λ (method : Method). method.id) (filter (is_flat from tail) (take at methods)) → length ids ≤ at
flat_few methods at from tail ids le e =
    let few = filter_few (is_flat from tail) (take at methods) in
    omega (arith, ap length e, length-map (filter (is_flat from tail) (take at methods)) (λ (method : Method). method.id), length-take-le at methods le)

-- what stands before a special byte of a pattern begins with its slash
pub front_slash : (pattern : List ℕ) (end : ℕ) → begins_with_slash pattern ≡ true → position is_special pattern ≡ Some end
    → begins_with_slash (take end pattern) ≡ true
front_slash [] end slash e = absurd (cc)
front_slash (x ∷ pattern) zero slash e = absurd (omega (arith, front_some (x ∷ pattern) zero slash e))
front_slash (x ∷ pattern) (suc end) slash e = slash

-- a pattern's first special byte is a star with a plain tail: what is flat among those that begin with what stands before it
pub star_ids : (pattern bytes tail : List ℕ) (end : ℕ) (registered : List Registered) (places near : List ℕ) → IsMethodList (methods_of registered)
    → IsOrder registered places → begins_with_slash bytes ≡ true → bytes ≡ pattern → position is_special pattern ≡ Some end
    → IsPlainStar (drop end bytes) tail → methods_at registered near ≡ filter (begins_with (take end bytes)) (methods_at registered places)
    → map (λ (method : Method). method.id) (filter (is_flat end tail) (methods_at registered near)) ≡ matching_ids pattern (methods_of registered)
star_ids pattern bytes tail end registered places near list order begun value special star those =
    let text = take end bytes in
    let ms = methods_at registered near in
    let place = position-some is_special pattern end special in
    let size : length text ≡ end = length-take-le end bytes (omega (arith, place.1, ap length value)) in
    let slash : begins_with_slash pattern ≡ true = subst (λ l. begins_with_slash l ≡ true) value begun in
    let same : text ≡ take end pattern = ap (take end) value in
    let whole : pattern ≡ text ++ drop (length text) pattern =
    sym (take-append-drop end pattern) ∙ ap (λ l. l ++ drop end pattern) (sym same) ∙ ap (λ (n : ℕ). text ++ drop n pattern) (sym size) in
    let after : IsPlainStar (drop (length text) pattern) tail =
    subst (λ l. IsPlainStar l tail) (ap (drop end) value ∙ ap (λ (n : ℕ). drop n pattern) (sym size)) star in
    ap (λ (n : ℕ). map (λ (method : Method). method.id) (filter (is_flat n tail) ms)) (sym size)
    ∙ flat_ids pattern text tail registered places near list order slash (same ∙ front_found pattern end special)
    (subst (λ l. begins_with_slash l ≡ true) (sym same) (front_slash pattern end slash special))
    (ap (list_any is_special) same ∙ plain_front pattern end special) after whole those
