-- A method leaves, and the places of the others stay in order.
use Rattle.std.proofs.Common.{◌≡◌, ℕ, ◌+◌, ◌-◌, ◌<◌, ◌==◌, Bool, true, false, not, cond, List, [], ◌∷◌, length, filter, map, get_or, nat_lt, All, refl, sym, ap}
use Rattle.std.proofs.Common.{subst, ◌∙◌, arith}
use Rattle.std.specs.List.{position_or_len, remove}
use Rattle.std.specs.Str.{bytes_eq}
use Rattle.std.proofs.lemmas.Bool.Decides.{nat_tests}
use Rattle.std.proofs.lemmas.Bool.{eqb-true}
use Rattle.std.proofs.lemmas.Slice.Eq.{bytes_eq-Decides}
use Rattle.std.proofs.lemmas.List.{length-map, get_or-map}
use Rattle.std.proofs.lemmas.List.Edits.{get_or-remove_below, get_or-remove_above, length-remove}
use Rattle.std.proofs.lemmas.List.Elements.{All-cons, All-head, All-tail, All-nil}
use Rattle.std.proofs.lemmas.List.Sums.{passes_at_first, position_or_len_is}
use Rattle.osc_pattern.specs.Methods.{Method, IsMethodList}
use Rattle.osc_tree.specs.declared.registered.Registered.{Registered}
use Rattle.osc_tree.specs.Views.{method_of, methods_of, method_at, methods_at}
use Rattle.osc_tree.specs.Adding.{IsApart}
use Rattle.osc_tree.specs.Order.{IsOrder, IsSearched, StandsAt, ordered, closed_up}
use Rattle.osc_tree.specs.Walking.{IsSorted}
use Rattle.osc_tree.proofs.Places.{method_at-get, any_default}
use Rattle.osc_tree.proofs.Lawful.{map-remove, once, some_lawful, removed_is}
use Rattle.osc_tree.proofs.Lists.{position-map, remove-filter}
use Rattle.osc_tree.proofs.InOrder.{methods_at-get, methods_at-length}
use Rattle.osc_tree.proofs.Apart.{ordered_sorted}
use Rattle.osc_tree.proofs.Lookups.{first_there, others_apart}
use Rattle.osc_tree.proofs.Searches.{searched_without}
use Rattle.osc_tree.proofs.Sorting.{filter_ordered}

-- what holds of the method that leaves, at its place among all
pub record Leaves (registered : List Registered) (place : ℕ) (address : List ℕ) : Type 0 where
  pub list : IsMethodList (methods_of registered)
  pub first : place ≡ position_or_len (λ method. bytes_eq method.address address) registered
  pub within : place < length registered

-- the method at the place has the address
here : (registered : List Registered) (place : ℕ) (address : List ℕ) (d : Registered) → Leaves registered place address
    → bytes_eq (get_or registered place d).address address ≡ true
here registered place address d so =
    let first = so.first in
    let within = so.within in
    let inside : position_or_len (λ method. bytes_eq method.address address) registered < length registered = omega arith in
    ap (λ (k : ℕ). bytes_eq (get_or registered k d).address address) first ∙ passes_at_first (λ method. bytes_eq method.address address) registered d inside

one_address : (registered : List Registered) (i j : ℕ) (d : Registered) (address : List ℕ) → IsMethodList (methods_of registered) → i < j
    → j < length registered → bytes_eq (get_or registered i d).address address ≡ true → bytes_eq (get_or registered j d).address address ≡ true → ⊥
one_address registered i j d address list lt within first second =
    let long = length-map registered method_of in
    let at_i : get_or (methods_of registered) i (method_of d) ≡ method_of (get_or registered i d) =
    get_or-map method_of registered i d (method_of d) (omega arith) in
    let at_j : get_or (methods_of registered) j (method_of d) ≡ method_of (get_or registered j d) =
    get_or-map method_of registered j d (method_of d) (omega arith) in
    list.addresses i j (method_of d) lt (omega arith)
    (ap (λ m. m.address) at_i ∙ (bytes_eq-Decides (get_or registered i d).address address).0 first
    ∙ sym ((bytes_eq-Decides (get_or registered j d).address address).0 second) ∙ ap (λ m. m.address) (sym at_j))

elsewhere : (registered : List Registered) (place other : ℕ) (address : List ℕ) (d : Registered) → Leaves registered place address → other < length registered
    → (other == place) ≡ false → bytes_eq (get_or registered other d).address address ≡ false
elsewhere registered place other address d so inside e = go (bytes_eq (get_or registered other d).address address) refl (nat_lt other place) refl where
  go : (t : Bool) → bytes_eq (get_or registered other d).address address ≡ t → (s : Bool) → nat_lt other place ≡ s → t ≡ false
  go false is s lt = refl
  go true is true lt =
      absurd (one_address registered other place d address so.list (let h : nat_lt other place ≡ true = lt in grind (arith, nat_tests)) so.within is
      (here registered place address d so))
  go true is false lt =
      absurd (one_address registered place other d address so.list
      (let h : nat_lt other place ≡ false = lt in let n : (other == place) ≡ false = e in grind (arith, nat_tests)) inside
      (here registered place address d so) is)

-- another method stands where its place closes up to
moved : (registered : List Registered) (place other : ℕ) (d : Registered) → place < length registered → other < length registered → (other == place) ≡ false
    → method_at (remove registered place) (closed_up place other) ≡ method_at registered other
moved registered place other d within inside e = go (nat_lt place other) refl where
  long : length (remove registered place) + 1 ≡ length registered
  long = omega (arith, length-remove registered place within)

  go : (t : Bool) → nat_lt place other ≡ t → method_at (remove registered place) (cond t (other - 1) other) ≡ method_at registered other
  go true lt =
      let above : place < other = (let h : nat_lt place other ≡ true = lt in grind (arith, nat_tests)) in
      let back : other - 1 + 1 ≡ other = omega arith in
      method_at-get (remove registered place) (other - 1) d (omega (arith, long))
      ∙ ap method_of (get_or-remove_above registered place d (other - 1) (omega arith) within ∙ ap (λ (k : ℕ). get_or registered k d) back)
      ∙ sym (method_at-get registered other d inside)
  go false lt =
      let below : other < place = (let h : nat_lt place other ≡ false = lt in let n : (other == place) ≡ false = e in grind (arith, nat_tests)) in
      method_at-get (remove registered place) other d (omega (arith, long)) ∙ ap method_of (get_or-remove_below registered place d other below within)
      ∙ sym (method_at-get registered other d inside)

closed_within : (place other size : ℕ) → other < size → place < size → (other == place) ≡ false → closed_up place other < size - 1
closed_within place other size inside within e = go (nat_lt place other) refl where
  go : (t : Bool) → nat_lt place other ≡ t → cond t (other - 1) other < size - 1
  go true lt = let h : nat_lt place other ≡ true = lt in grind (arith, nat_tests)
  go false lt = let h : nat_lt place other ≡ false = lt in let n : (other == place) ≡ false = e in grind (arith, nat_tests)

abbrev closed : ℕ → List ℕ → List ℕ
closed place places = map (closed_up place) (filter (λ other. not (other == place)) places)

all_closed : (place size : ℕ) (places : List ℕ) → place < size → All (λ other. other < size) places → All (λ other. other < size - 1) (closed place places)
all_closed place size [] within all = All-nil (λ other. other < size - 1)
all_closed place size (other ∷ places) within all =
    go (other == place) refl (all_closed place size places within (All-tail (λ other. other < size) other places all)) where
      go : (t : Bool) → (other == place) ≡ t → All (λ other. other < size - 1) (closed place places)
          → All (λ other. other < size - 1)
          (map (closed_up place) (cond (not t) (other ∷ filter (λ other. not (other == place)) places) (filter (λ other. not (other == place)) places)))
      go true e more = more
      go false e more =
          All-cons (λ other. other < size - 1) (closed_up place other) (closed place places)
          (closed_within place other size (All-head (λ other. other < size) other places all) within e) more

others_stay : (registered : List Registered) (place : ℕ) (address : List ℕ) (d : Registered) (places : List ℕ) → Leaves registered place address
    → All (λ other. other < length registered) places
    → methods_at (remove registered place) (closed place places) ≡ filter (λ method. not (bytes_eq method.address address)) (methods_at registered places)
others_stay registered place address d [] so all = refl
others_stay registered place address d (other ∷ places) so all =
    go (other == place) refl (others_stay registered place address d places so (All-tail (λ other. other < length registered) other places all)) where
      inside : other < length registered
      inside = All-head (λ other. other < length registered) other places all

      test : Method → Bool
      test method = not (bytes_eq method.address address)

      go : (t : Bool) → (other == place) ≡ t → methods_at (remove registered place) (closed place places) ≡ filter test (methods_at registered places)
          → methods_at (remove registered place)
          (map (closed_up place) (cond (not t) (other ∷ filter (λ other. not (other == place)) places) (filter (λ other. not (other == place)) places)))
          ≡ cond (test (method_at registered other)) (method_at registered other ∷ filter test (methods_at registered places))
          (filter test (methods_at registered places))
      go true e more =
          let is : bytes_eq (method_at registered other).address address ≡ true =
          ap (λ (m : Method). bytes_eq m.address address) (method_at-get registered other d inside)
          ∙ ap (λ (k : ℕ). bytes_eq (get_or registered k d).address address) (eqb-true other place e) ∙ here registered place address d so in
          more ∙ sym (ap
          (λ (t : Bool). cond (not t) (method_at registered other ∷ filter test (methods_at registered places)) (filter test (methods_at registered places)))
          is)
      go false e more =
          let is : bytes_eq (method_at registered other).address address ≡ false =
          ap (λ (m : Method). bytes_eq m.address address) (method_at-get registered other d inside) ∙ elsewhere registered place other address d so inside e in
          ap (λ (m : Method). m ∷ methods_at (remove registered place) (closed place places)) (moved registered place other d so.within inside e)
          ∙ ap (λ l. method_at registered other ∷ l) more
          ∙ sym (ap (λ (t : Bool). cond (not t) (method_at registered other ∷ filter test (methods_at registered places))
          (filter test (methods_at registered places))) is)

-- the place of the method that leaves is taken out, and those above it close up
one_fewer_ordered : (registered : List Registered) (place : ℕ) (address : List ℕ) (d : Registered) (places : List ℕ) → Leaves registered place address
    → IsOrder registered places → IsOrder (remove registered place) (closed place places)
one_fewer_ordered registered place address d places so order = record {
  within = (let long : length registered - 1 ≡ length (remove registered place) = omega (arith, length-remove registered place so.within) in
      subst (λ (n : ℕ). All (λ other. other < n) (closed place places)) long (all_closed place (length registered) places so.within order.within));
  all = others_stay registered place address d places so order.within
      ∙ ap (filter (λ method. not (bytes_eq method.address address))) order.all
      ∙ filter_ordered (λ method. not (bytes_eq method.address address)) (methods_of registered)
      ∙ sym (ap ordered (removed_is registered place address so.list so.first so.within));
}

-- the method whose place stands at an index is the one that leaves
pub leaves_at : (registered : List Registered) (places : List ℕ) (at : ℕ) (address : List ℕ) → IsMethodList (methods_of registered)
    → IsOrder registered places → StandsAt registered places at address → Leaves registered (get_or places at 0) address
leaves_at registered places at address list order stands =
    let within = order.within at 0 stands.0 in
    record {
      list = list;
      first = sym (sym (position-map method_of (λ (method : Method). bytes_eq method.address address) registered)
          ∙ first_there (methods_of registered) (get_or places at 0) (record { id = 0; address = [] }) address list
          (omega (arith, length-map registered method_of)) stands.1);
      within = within;
    }

pub sorted_at : (registered : List Registered) (places : List ℕ) → IsMethodList (methods_of registered) → IsOrder registered places
    → IsSorted (methods_at registered places)
sorted_at registered places list order = subst IsSorted (sym order.all) (ordered_sorted (methods_of registered) list)

-- no place stands at two indexes
places_differ : (registered : List Registered) (places : List ℕ) (i j : ℕ) → IsMethodList (methods_of registered) → IsOrder registered places → i < j
    → j < length places → get_or places i 0 ≡ get_or places j 0 → ⊥
places_differ registered places i j list order lt within same =
    let d : Method = record { id = 0; address = [] } in
    let long = methods_at-length registered places in
    (sorted_at registered places list order).list.addresses i j d lt (omega arith)
    (ap (λ (m : Method). m.address)
    (methods_at-get registered places i d (omega arith) ∙ ap (method_at registered) same ∙ sym (methods_at-get registered places j d within)))

-- to take out the place at an index is to leave that place out
taken_out : (registered : List Registered) (places : List ℕ) (at : ℕ) → IsMethodList (methods_of registered) → IsOrder registered places → at < length places
    → remove places at ≡ filter (λ other. not (other == get_or places at 0)) places
taken_out registered places at list order within =
    ap (remove places) (sym first)
    ∙ remove-filter test places (λ i j d lt in' is. once i j d lt in' is (test (get_or places j d)) refl) (omega (arith, first))
  where
    test : ℕ → Bool
    test other = other == get_or places at 0

    own : (n : ℕ) → (n == n) ≡ true
    own n = grind (arith, nat_tests)

    earlier : (k : ℕ) → k < at → (t : Bool) → test (get_or places k 0) ≡ t → test (get_or places k 0) ≡ false
    earlier k lt false e = e
    earlier k lt true e = absurd (places_differ registered places k at list order lt within (eqb-true (get_or places k 0) (get_or places at 0) e))

    first : position_or_len test places ≡ at
    first = position_or_len_is test places at 0 (omega arith) (λ k lt. earlier k lt (test (get_or places k 0)) refl) (λ _. own (get_or places at 0))

    once : (i j d : ℕ) → i < j → j < length places → test (get_or places i d) ≡ true → (t : Bool) → test (get_or places j d) ≡ t
        → test (get_or places j d) ≡ false
    once i j d lt in' is false e = e
    once i j d lt in' is true e =
        absurd (places_differ registered places i j list order lt in'
        (any_default places i 0 d (omega arith) ∙ eqb-true (get_or places i d) (get_or places at 0) is
        ∙ sym (eqb-true (get_or places j d) (get_or places at 0) e) ∙ any_default places j d 0 in'))

-- the places of the others, in their order
order_left : (registered : List Registered) (places : List ℕ) (at : ℕ) (address : List ℕ) (d : Registered) → IsMethodList (methods_of registered)
    → IsOrder registered places → StandsAt registered places at address
    → IsOrder (remove registered (get_or places at 0)) (map (closed_up (get_or places at 0)) (remove places at))
order_left registered places at address d list order stands =
    subst (λ l. IsOrder (remove registered (get_or places at 0)) (map (closed_up (get_or places at 0)) l))
    (sym (taken_out registered places at list order stands.0))
    (one_fewer_ordered registered (get_or places at 0) address d places (leaves_at registered places at address list order stands) order)

-- the others stand as they did
methods_left : (registered : List Registered) (places : List ℕ) (at : ℕ) (address : List ℕ) (d : Registered) → IsMethodList (methods_of registered)
    → IsOrder registered places → StandsAt registered places at address
    → methods_at (remove registered (get_or places at 0)) (map (closed_up (get_or places at 0)) (remove places at)) ≡ remove (methods_at registered places) at
methods_left registered places at address d list order stands =
    let place = get_or places at 0 in
    let none : Method = record { id = 0; address = [] } in
    let ms = methods_at registered places in
    let sorted = sorted_at registered places list order in
    let long = methods_at-length registered places in
    let within : at < length ms = (let lt = stands.0 in omega arith) in
    let first : position_or_len (λ method. bytes_eq method.address address) ms ≡ at =
    first_there ms at none address sorted.list within (ap (λ (m : Method). m.address) (methods_at-get registered places at none stands.0) ∙ stands.1) in
    ap (λ l. methods_at (remove registered place) (map (closed_up place) l)) (taken_out registered places at list order stands.0)
    ∙ others_stay registered place address d places (leaves_at registered places at address list order stands) order.within
    ∙ sym (remove-filter (λ method. bytes_eq method.address address) ms (once ms address sorted.list) (omega (arith, first)))
    ∙ ap (remove ms) first

-- what is left once the method that a search came to is out
pub record IsLeft (registered : List Registered) (places : List ℕ) (at : ℕ) (address : List ℕ) : Type 0 where
  pub list : IsMethodList (methods_of registered)
  pub order : IsOrder registered places
  pub apart : IsApart (methods_of registered) address
  pub searched : IsSearched address (methods_at registered places) at at

pub left_is : (registered : List Registered) (places : List ℕ) (at : ℕ) (address : List ℕ) (d : Registered) → IsMethodList (methods_of registered)
    → IsOrder registered places → StandsAt registered places at address → IsSearched address (methods_at registered places) at at
    → IsLeft (remove registered (get_or places at 0)) (map (closed_up (get_or places at 0)) (remove places at)) at address
left_is registered places at address d list order stands so =
    let place = get_or places at 0 in
    let none : Method = record { id = 0; address = [] } in
    let leaves = leaves_at registered places at address list order stands in
    let long = methods_at-length registered places in
    record {
      list = subst IsMethodList (sym (removed_is registered place address list leaves.first leaves.within))
          (some_lawful (λ method. not (bytes_eq method.address address)) (methods_of registered) list);
      order = order_left registered places at address d list order stands;
      apart = subst (λ l. IsApart l address) (sym (map-remove method_of registered place))
          (subst (IsApart (remove (methods_of registered) place)) stands.1
          (others_apart (methods_of registered) place none list (let within = leaves.within in omega (arith, length-map registered method_of))));
      searched = subst (λ l. IsSearched address l at at) (sym (methods_left registered places at address d list order stands))
          (searched_without address (methods_at registered places) at so (let lt = stands.0 in omega arith));
    }
