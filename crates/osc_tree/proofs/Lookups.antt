-- What the search for an address tells of the methods in the order of adding.
use Rattle.std.proofs.Common.{◌≡◌, ℕ, ◌+◌, ◌<◌, ◌≤◌, Bool, true, false, cond, List, [], ◌∷◌, ◌++◌, length, take}
use Rattle.std.proofs.Common.{get_or, Option, Some, None, nat_eq, nat_lt, refl, sym}
use Rattle.std.proofs.Common.{ap, subst, ◌∙◌, arith}
use Rattle.std.specs.Prelude.{MatchBool}
use Rattle.std.specs.List.{list_any, position_or_len, remove, starts_with}
use Rattle.std.specs.Option.{option_map}
use Rattle.std.specs.Str.{bytes_eq}
use Rattle.std.proofs.lemmas.List.{length-map}
use Rattle.std.proofs.lemmas.List.Edits.{get_or-remove_below, get_or-remove_above, length-remove}
use Rattle.std.proofs.lemmas.List.Folds.{list_any_none}
use Rattle.std.proofs.lemmas.List.Sums.{position_or_len_is}
use Rattle.std.proofs.lemmas.Slice.Eq.{bytes_eq-Decides}
use Rattle.std.proofs.lemmas.Bool.Decides.{nat_tests}
use Rattle.osc_pattern.specs.Addresses.{is_proper_prefix}
use Rattle.osc_pattern.specs.Items.{is_slash}
use Rattle.osc_pattern.specs.Patterns.{begins_with_slash}
use Rattle.osc_pattern.specs.Methods.{Method, IsMethodList}
use Rattle.osc_pattern.proofs.Cutting.{All-none}
use Rattle.osc_tree.specs.declared.registered.Registered.{Registered}
use Rattle.osc_tree.specs.Registry.{NoneAt, id_at, id_above}
use Rattle.osc_tree.specs.Adding.{IsApart}
use Rattle.osc_tree.specs.Order.{IsOrder, IsSearched, StandsAt, begins_with}
use Rattle.osc_tree.specs.Views.{method_of, methods_of, method_at, methods_at}
use Rattle.osc_tree.proofs.Above.{cut_above, above_begins, above_cut, above_both}
use Rattle.osc_tree.proofs.Lists.{find-at, none-find}
use Rattle.osc_tree.proofs.Lines.{different, id_at-some, id_at-none, none-id_at}
use Rattle.osc_tree.proofs.Lawful.{once}
use Rattle.osc_tree.proofs.Places.{any_default, method_at-get}
use Rattle.osc_tree.proofs.InOrder.{methods_at-get, methods_at-length, order_ascends, order_length}
use Rattle.osc_tree.proofs.Searches.{none_there, begins_there, begins_past}
use Rattle.osc_tree.proofs.Neighbours.{any_ordered}

-- the first method that has an address is the only one
pub first_there : (methods : List Method) (place : ℕ) (d : Method) (address : List ℕ) → IsMethodList methods → place < length methods
    → (get_or methods place d).address ≡ address → position_or_len (λ method. bytes_eq method.address address) methods ≡ place
first_there methods place d address list within is =
    position_or_len_is (λ (method : Method). bytes_eq method.address address) methods place d (omega arith)
    (λ k lt. go k lt (bytes_eq (get_or methods k d).address address) refl) (λ _. here)
  where
    here : bytes_eq (get_or methods place d).address address ≡ true
    here = (bytes_eq-Decides (get_or methods place d).address address).1 is

    go : (k : ℕ) → k < place → (t : Bool) → bytes_eq (get_or methods k d).address address ≡ t → bytes_eq (get_or methods k d).address address ≡ false
    go k lt false e = e
    go k lt true e = let none = once methods address list k place d lt within e in let also = here in absurd (cc)

pub id_found : (methods : List Method) (place : ℕ) (d : Method) (address : List ℕ) → IsMethodList methods → place < length methods
    → (get_or methods place d).address ≡ address → id_at methods address ≡ Some (get_or methods place d).id
id_found methods place d address list within is =
    ap (option_map (λ (method : Method). method.id))
    (find-at (λ (method : Method). bytes_eq method.address address) methods place d (sym (first_there methods place d address list within is)) within)

-- where no method has an address in the order of the addresses, none has it
pub none_has : (registered : List Registered) (places address : List ℕ) → IsOrder registered places
    → list_any (λ method. bytes_eq method.address address) (methods_at registered places) ≡ false → NoneAt (methods_of registered) address
none_has registered places address order e =
    let test : Method → Bool = λ method. bytes_eq method.address address in
    λ k d below.
    different _ _
    (All-none test (methods_of registered)
    (sym (any_ordered test (methods_of registered)) ∙ ap (list_any test) (sym order.all) ∙ e) k d below)

-- a method lies below an address where one begins with it and a slash
pub below_begins : (registered : List Registered) (places address : List ℕ) → IsOrder registered places
    → list_any (begins_with (address ++ 47 ∷ [])) (methods_at registered places)
    ≡ list_any (λ method. is_proper_prefix address method.address) (methods_of registered)
below_begins registered places address order =
    ap (list_any (begins_with (address ++ 47 ∷ []))) order.all ∙ any_ordered (begins_with (address ++ 47 ∷ [])) (methods_of registered)

-- the method at what an address has before a slash is the one that is above it
pub above_found : (methods : List Method) (address : List ℕ) (end id : ℕ) → IsMethodList methods → end < length address
    → is_slash (get_or address end 0) ≡ true → id_at methods (take end address) ≡ Some id → id_above methods address ≡ Some id
above_found methods address end id list lt slash e = found (id_at-some methods (take end address) id e) where
  none : Method
  none = record { id = id; address = take end address }

  test : Method → Bool
  test method = is_proper_prefix method.address address

  above : test none ≡ true
  above = cut_above address end lt slash

  found : (k : ℕ) × (k < length methods) × (get_or methods k none ≡ none) → id_above methods address ≡ Some id
  found (k, within, is) =
      ap (option_map (λ (method : Method). method.id))
      (find-at test methods k none (sym (position_or_len_is test methods k none (omega arith) (λ j less. go j less (test (get_or methods j none)) refl)
      (λ _. ap test is ∙ above))) within)
      ∙ ap (λ (method : Method). Some method.id) is
    where
      go : (j : ℕ) → j < k → (t : Bool) → test (get_or methods j none) ≡ t → test (get_or methods j none) ≡ false
      go j less false f = f
      go j less true f =
          let apart = list.apart j k none less within in
          let one : is_proper_prefix (get_or methods j none).address (take end address) ≡ false =
          ap (λ (m : Method). is_proper_prefix (get_or methods j none).address m.address) (sym is) ∙ apart.0 in
          let other : is_proper_prefix (take end address) (get_or methods j none).address ≡ false =
          ap (λ (m : Method). is_proper_prefix m.address (get_or methods j none).address) (sym is) ∙ apart.1 in
          absurd (list.addresses j k none less within
          (above_both (get_or methods j none).address (take end address) address f above one other ∙ ap (λ (m : Method). m.address) (sym is)))

-- no method is above an address where none is at what it has before any of its slashes
pub none_above : (methods : List Method) (address : List ℕ) → IsMethodList methods
    → ((end : ℕ) → 1 ≤ end → end < length address → is_slash (get_or address end 0) ≡ true → id_at methods (take end address) ≡ None)
    → id_above methods address ≡ None
none_above methods address list each =
    ap (option_map (λ (method : Method). method.id))
    (none-find test methods (λ k d lt. go k d lt (test (get_or methods k d)) refl))
  where
    test : Method → Bool
    test method = is_proper_prefix method.address address

    some : (text : List ℕ) → begins_with_slash text ≡ true → 1 ≤ length text
    some [] e = absurd (cc)
    some (x ∷ text) e = omega arith

    go : (k : ℕ) (d : Method) → k < length methods → (t : Bool) → test (get_or methods k d) ≡ t → test (get_or methods k d) ≡ false
    go k d lt false e = e
    go k d lt true e =
        let above = above_cut (get_or methods k d).address address e in
        let none : id_at methods (get_or methods k d).address ≡ None =
        ap (id_at methods) (sym above.2)
        ∙ each (length (get_or methods k d).address) (some (get_or methods k d).address (list.lawful k d lt).slash) above.0 above.1 in
        absurd (id_at-none methods (get_or methods k d).address none k d lt refl)

-- the others are apart from the address of one that is taken out
pub others_apart : (methods : List Method) (place : ℕ) (d : Method) → IsMethodList methods → place < length methods
    → IsApart (remove methods place) (get_or methods place d).address
others_apart methods place d list within =
    record {
      none_at = λ k e lt. (two k e lt).0;
      none_above = λ k e lt. (two k e lt).1;
      none_below = λ k e lt. (two k e lt).2;
    }
  where
    Two : Method → Method → Type 0
    Two a b = (a.address ≡ b.address → ⊥) × (is_proper_prefix a.address b.address ≡ false) × (is_proper_prefix b.address a.address ≡ false)

    two : (k : ℕ) (e : Method) → k < length (remove methods place) → Two (get_or (remove methods place) k e) (get_or methods place d)
    two k e lt = go (nat_lt k place) refl where
      long : length (remove methods place) + 1 ≡ length methods
      long = omega (arith, length-remove methods place within)

      here : get_or methods place e ≡ get_or methods place d
      here = any_default methods place e d within

      go : (t : Bool) → nat_lt k place ≡ t → Two (get_or (remove methods place) k e) (get_or methods place d)
      go true f =
          let less : k < place = (let h : nat_lt k place ≡ true = f in grind (arith, nat_tests)) in
          let apart = list.apart k place e less within in
          subst (λ (m : Method). Two m (get_or methods place d)) (sym (get_or-remove_below methods place e k less within))
          (subst (λ (m : Method). Two (get_or methods k e) m) here (list.addresses k place e less within, apart.0, apart.1))
      go false f =
          let least : place ≤ k = (let h : nat_lt k place ≡ false = f in grind (arith, nat_tests)) in
          let size = long in
          let apart = list.apart place (k + 1) e (omega arith) (omega arith) in
          let differ = list.addresses place (k + 1) e (omega arith) (omega arith) in
          subst (λ (m : Method). Two m (get_or methods place d)) (sym (get_or-remove_above methods place e k least within))
          (subst (λ (m : Method). Two (get_or methods (k + 1) e) m) here ((λ same. differ (sym same)), apart.1, apart.0))

-- what is told of the method that a search came to
pub there_is : (registered : List Registered) (places : List ℕ) (at : ℕ) (address : List ℕ) (d : Registered) (r : Bool) → IsOrder registered places
    → IsSearched address (methods_at registered places) at at → at < length places
    → r ≡ bytes_eq (get_or registered (get_or places at 0) d).address address
    → MatchBool r (StandsAt registered places at address) (NoneAt (methods_of registered) address)
there_is registered places at address d r order so lt test = go r refl where
  own : List ℕ
  own = (get_or registered (get_or places at 0) d).address

  here : (method_at registered (get_or places at 0)).address ≡ own
  here = ap (λ (m : Method). m.address) (method_at-get registered (get_or places at 0) d (order.within at 0 lt))

  go : (t : Bool) → r ≡ t → MatchBool t (StandsAt registered places at address) (NoneAt (methods_of registered) address)
  go true e = (lt, here ∙ (bytes_eq-Decides own address).0 (sym test ∙ e))
  go false e =
      none_has registered places address order
      (none_there address (methods_at registered places) at (order_ascends registered places order) so
      (λ other within. ap (λ (m : Method). bytes_eq m.address address) (methods_at-get registered places at other lt)
      ∙ ap (λ l. bytes_eq l address) here ∙ sym test ∙ e))

pub none_behind : (registered : List Registered) (places : List ℕ) (at : ℕ) (address : List ℕ) → IsOrder registered places
    → IsSearched address (methods_at registered places) at at → length places ≤ at → NoneAt (methods_of registered) address
none_behind registered places at address order so past =
    let long = methods_at-length registered places in
    none_has registered places address order
    (none_there address (methods_at registered places) at (order_ascends registered places order) so (λ d within. absurd (omega arith)))

-- its id
pub id_at_place : (registered : List Registered) (places : List ℕ) (at : ℕ) (address : List ℕ) (d : Registered) → IsMethodList (methods_of registered)
    → IsOrder registered places → StandsAt registered places at address
    → id_at (methods_of registered) address ≡ Some (get_or registered (get_or places at 0) d).id
id_at_place registered places at address d list order stands =
    let place = get_or places at 0 in
    let within : place < length registered = order.within at 0 stands.0 in
    id_found (methods_of registered) place (record { id = 0; address = [] }) address list (omega (arith, length-map registered method_of)) stands.1
    ∙ ap (λ (m : Method). Some m.id) (method_at-get registered place d within)

-- whether a method begins with a text that was searched for
pub begun_there : (registered : List Registered) (places : List ℕ) (at : ℕ) (text : List ℕ) (d : Registered) → IsOrder registered places
    → IsSearched text (methods_at registered places) at at → at < length places
    → starts_with nat_eq (get_or registered (get_or places at 0) d).address text ≡ list_any (begins_with text) (methods_at registered places)
begun_there registered places at text d order so lt =
    let none : Method = record { id = 0; address = [] } in
    let long = methods_at-length registered places in
    let here : get_or (methods_at registered places) at none ≡ method_of (get_or registered (get_or places at 0) d) =
    methods_at-get registered places at none lt ∙ method_at-get registered (get_or places at 0) d (order.within at 0 lt) in
    ap (begins_with text) (sym here)
    ∙ sym (begins_there text (methods_at registered places) at none (order_ascends registered places order) so (omega arith))

-- whether a method lies below an address
pub below_there : (registered : List Registered) (places : List ℕ) (at : ℕ) (address : List ℕ) (d : Registered) → IsOrder registered places
    → IsSearched (address ++ 47 ∷ []) (methods_at registered places) at at → at < length places
    → is_proper_prefix address (get_or registered (get_or places at 0) d).address
    ≡ list_any (λ method. is_proper_prefix address method.address) (methods_of registered)
below_there registered places at address d order so lt =
    begun_there registered places at (address ++ 47 ∷ []) d order so lt ∙ below_begins registered places address order

pub none_below : (registered : List Registered) (places : List ℕ) (at : ℕ) (address : List ℕ) → IsOrder registered places
    → IsSearched (address ++ 47 ∷ []) (methods_at registered places) at at → length places ≤ at
    → list_any (λ method. is_proper_prefix address method.address) (methods_of registered) ≡ false
none_below registered places at address order so past =
    let long = methods_at-length registered places in
    sym (below_begins registered places address order)
    ∙ begins_past (address ++ 47 ∷ []) (methods_at registered places) at so (omega arith)

-- none lies below an address that none begins with
pub none_begins : (registered : List Registered) (places address : List ℕ) → IsOrder registered places
    → list_any (begins_with address) (methods_at registered places) ≡ false
    → list_any (λ method. is_proper_prefix address method.address) (methods_of registered) ≡ false
none_begins registered places address order e =
    list_any_none below (methods_of registered) (λ k d lt. go k d lt (below (get_or (methods_of registered) k d)) refl) where
      below : Method → Bool
      below method = is_proper_prefix address method.address

      none : list_any (begins_with address) (methods_of registered) ≡ false
      none = sym (any_ordered (begins_with address) (methods_of registered)) ∙ ap (list_any (begins_with address)) (sym order.all) ∙ e

      go : (k : ℕ) (d : Method) → k < length (methods_of registered) → (t : Bool) → below (get_or (methods_of registered) k d) ≡ t
          → below (get_or (methods_of registered) k d) ≡ false
      go k d lt false f = f
      go k d lt true f =
          let yes' = above_begins address (get_or (methods_of registered) k d).address f in
          let no' = All-none (begins_with address) (methods_of registered) none k d lt in absurd (cc)

-- no method is at an address that another lies below
none_over : (methods : List Method) (place : ℕ) (d : Method) (address : List ℕ) → IsMethodList methods → place < length methods
    → is_proper_prefix address (get_or methods place d).address ≡ true → NoneAt methods address
none_over methods place d address list within below = λ k e lt same. none k e lt same where
  none : (k : ℕ) (e : Method) → k < length methods → (get_or methods k e).address ≡ address → ⊥
  none k e lt same = split (nat_lt k place) refl (nat_lt place k) refl where
    own : (get_or methods k d).address ≡ address
    own = ap (λ (m : Method). m.address) (any_default methods k d e lt) ∙ same

    apart : is_proper_prefix (get_or methods k d).address (get_or methods place d).address ≡ false → ⊥
    apart no' =
        let yes' : is_proper_prefix (get_or methods k d).address (get_or methods place d).address ≡ true =
        ap (λ l. is_proper_prefix l (get_or methods place d).address) own ∙ below in cc

    split : (s : Bool) → nat_lt k place ≡ s → (t : Bool) → nat_lt place k ≡ t → ⊥
    split true f t g =
        let less : k < place = (let h : nat_lt k place ≡ true = f in grind (arith, nat_tests)) in apart (list.apart k place d less within).0
    split false f true g =
        let less : place < k = (let h : nat_lt place k ≡ true = g in grind (arith, nat_tests)) in apart (list.apart place k d less lt).1
    split false f false g =
        let here : k ≡ place = (let h : nat_lt k place ≡ false = f in let i : nat_lt place k ≡ false = g in grind (arith, nat_tests)) in
        let is : (get_or methods place d).address ≡ address = ap (λ (n : ℕ). (get_or methods n d).address) (sym here) ∙ own in
        let longer = (above_cut address (get_or methods place d).address below).0 in omega (arith, ap length is)

pub none_at_place : (registered : List Registered) (places : List ℕ) (at : ℕ) (address : List ℕ) (d : Registered) → IsMethodList (methods_of registered)
    → IsOrder registered places → at < length places
    → is_proper_prefix address (get_or registered (get_or places at 0) d).address ≡ true → id_at (methods_of registered) address ≡ None
none_at_place registered places at address d list order lt below =
    let place = get_or places at 0 in
    let within : place < length registered = order.within at 0 lt in
    none-id_at (methods_of registered) address
    (none_over (methods_of registered) place (record { id = 0; address = [] }) address list (omega (arith, length-map registered method_of))
    (ap (λ (m : Method). is_proper_prefix address m.address) (method_at-get registered place d within) ∙ below))

-- there is a place where a method is
pub some_place : (registered : List Registered) (places address : List ℕ) (id : ℕ) → IsOrder registered places
    → id_at (methods_of registered) address ≡ Some id → 0 < length places
some_place registered places address id order e =
    let there = id_at-some (methods_of registered) address id e in
    let within : there.0 < length (methods_of registered) = there.1 in
    omega (arith, order_length registered places order, length-map registered method_of)

-- the method that is told at a slash
pub above_told : (methods : List Method) (address : List ℕ) (end id : ℕ) (told : Option ℕ) → IsMethodList methods → end < length address
    → told ≡ cond (is_slash (get_or address end 0)) (id_at methods (take end address)) None → told ≡ Some id → id_above methods address ≡ Some id
above_told methods address end id told list lt is some = go (is_slash (get_or address end 0)) refl is where
  go : (t : Bool) → is_slash (get_or address end 0) ≡ t → told ≡ cond t (id_at methods (take end address)) None → id_above methods address ≡ Some id
  go true slash e = above_found methods address end id list lt slash (sym e ∙ some)
  go false slash e = absurd (cc)
