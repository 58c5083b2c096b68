-- Methods of a lawful list stay apart in the order of their addresses.
use Rattle.std.proofs.Common.{◌≡◌, ◌≢◌, ◌<◌, ◌≤◌, ℕ, zero, suc, Bool, true, false, List, [], ◌∷◌, length, fold, filter, get_or, refl, sym, ap, subst, ◌∙◌}
use Rattle.std.proofs.Common.{arith}
use Rattle.std.specs.List.{AllByRecursion}
use Rattle.osc_pattern.specs.Addresses.{IsAddress, is_proper_prefix}
use Rattle.osc_pattern.specs.Methods.{Method, IsMethodList}
use Rattle.osc_tree.specs.declared.registered.Registered.{Registered}
use Rattle.osc_tree.specs.Matching.{is_below, in_place}
use Rattle.osc_tree.specs.Order.{IsOrder, ordered, begins_with}
use Rattle.osc_tree.specs.Views.{methods_of, methods_at}
use Rattle.osc_tree.specs.Walking.{most_steps, IsSorted}
use Rattle.std.proofs.lemmas.List.{append-nil}
use Rattle.std.proofs.lemmas.List.Elements.{recursion_from_All, All-from_recursion}
use Rattle.osc_tree.proofs.Counts.{folded_steps, some_steps}
use Rattle.osc_tree.proofs.Lawful.{some_lawful}
use Rattle.osc_tree.proofs.Orders.{all_placed, placed_ahead, placed_behind}
use Rattle.osc_tree.proofs.Sorting.{filter_ordered, ordered_ascend}

record AreTwo (a b : Method) : Type 0 where
  ids : a.id ≢ b.id
  addresses : a.address ≢ b.address
  above : is_proper_prefix a.address b.address ≡ false
  below : is_proper_prefix b.address a.address ≡ false

turned : (a b : Method) → AreTwo a b → AreTwo b a
turned a b two = record { ids = λ e. two.ids (sym e); addresses = λ e. two.addresses (sym e); above = two.below; below = two.above }

abbrev Pairs : List Method → Type 0
Pairs [] = Unit {0}
Pairs (method ∷ methods) = AllByRecursion (AreTwo method) methods × Pairs methods

pairs_of : (methods : List Method) → ((i j : ℕ) (d : Method) → i < j → j < length methods → AreTwo (get_or methods i d) (get_or methods j d)) → Pairs methods
pairs_of [] each = tt
pairs_of (method ∷ methods) each = (
  recursion_from_All (AreTwo method) methods (λ k d lt. each 0 (suc k) d (omega arith) (omega arith)),
  pairs_of methods (λ i j d lt within. each (suc i) (suc j) d (omega arith) (omega arith)),
)

pairs_back : (methods : List Method) (i j : ℕ) (d : Method) → Pairs methods → i < j → j < length methods → AreTwo (get_or methods i d) (get_or methods j d)
pairs_back [] i j d pairs lt within = absurd (omega arith)
pairs_back (method ∷ methods) i zero d pairs lt within = absurd (omega arith)
pairs_back (method ∷ methods) zero (suc j) d pairs lt within = All-from_recursion (AreTwo method) methods pairs.0 j d (omega arith)
pairs_back (method ∷ methods) (suc i) (suc j) d pairs lt within = pairs_back methods i j d pairs.1 (omega arith) (omega arith)

pairs_placed : (method : Method) (others : List Method) → AllByRecursion (AreTwo method) others → Pairs others → Pairs (in_place others method)
pairs_placed method [] all pairs = (tt, tt)
pairs_placed method (other ∷ others) all pairs = go (is_below method other) refl (pairs_placed method others all.1 pairs.1) where
  go : (t : Bool) → is_below method other ≡ t → Pairs (in_place others method) → Pairs (in_place (other ∷ others) method)
  go true e more = subst Pairs (sym (placed_ahead method other others e)) (all, pairs)
  go false e more =
      subst Pairs (sym (placed_behind method other others e)) (all_placed (AreTwo other) method others (turned method other all.0) pairs.0, more)

cross_placed : (method : Method) (others more : List Method) → AllByRecursion (AreTwo method) more
    → AllByRecursion (λ third. AllByRecursion (AreTwo third) others) more
    → AllByRecursion (λ third. AllByRecursion (AreTwo third) (in_place others method)) more
cross_placed method others [] all cross = tt
cross_placed method others (third ∷ more) all cross =
    (all_placed (AreTwo third) method others (turned method third all.0) cross.0, cross_placed method others more all.1 cross.1)

pairs_folded : (methods more : List Method) → Pairs methods → Pairs more → AllByRecursion (λ third. AllByRecursion (AreTwo third) methods) more
    → Pairs (fold in_place methods more)
pairs_folded methods [] pairs rest cross = pairs
pairs_folded methods (method ∷ more) pairs rest cross =
    pairs_folded (in_place methods method) more (pairs_placed method methods cross.0 pairs) rest.1 (cross_placed method methods more rest.0 cross.1)

pub all_folded : (P : Method → Type 0) (methods more : List Method) → AllByRecursion P methods → AllByRecursion P more
    → AllByRecursion P (fold in_place methods more)
all_folded P methods [] all rest = all
all_folded P methods (method ∷ more) all rest = all_folded P (in_place methods method) more (all_placed P method methods rest.0 all) rest.1

none_cross : (methods : List Method) → AllByRecursion (λ third. AllByRecursion (AreTwo third) []) methods
none_cross [] = tt
none_cross (method ∷ methods) = (tt, none_cross methods)

-- a lawful list of methods, in the order of the addresses
pub ordered_sorted : (methods : List Method) → IsMethodList methods → IsSorted (ordered methods)
ordered_sorted methods list =
    let pairs = pairs_folded [] methods tt
    (pairs_of methods (λ i j d lt within. record {
      ids = list.ids i j d lt within;
      addresses = list.addresses i j d lt within;
      above = (list.apart i j d lt within).0;
      below = (list.apart i j d lt within).1;
    })) (none_cross methods) in
    let lawful = all_folded (λ method. IsAddress method.address) [] methods tt (recursion_from_All (λ method. IsAddress method.address) methods list.lawful) in
    record {
      list = record {
        ids = λ i j d lt within. (pairs_back (ordered methods) i j d pairs lt within).ids;
        lawful = All-from_recursion (λ method. IsAddress method.address) (ordered methods) lawful;
        addresses = λ i j d lt within. (pairs_back (ordered methods) i j d pairs lt within).addresses;
        apart = λ i j d lt within.
            ((pairs_back (ordered methods) i j d pairs lt within).above, (pairs_back (ordered methods) i j d pairs lt within).below);
      };
      ascending = ordered_ascend methods;
    }

-- the methods that begin with a text, at their places
pub near_is : (text : List ℕ) (registered : List Registered) (places near : List ℕ) → IsOrder registered places
    → methods_at registered near ≡ filter (begins_with text) (methods_at registered places)
    → methods_at registered near ≡ ordered (filter (begins_with text) (methods_of registered))
near_is text registered places near order e = e ∙ ap (filter (begins_with text)) order.all ∙ filter_ordered (begins_with text) (methods_of registered)

pub near_sorted : (text : List ℕ) (registered : List Registered) (places near : List ℕ) → IsMethodList (methods_of registered) → IsOrder registered places
    → methods_at registered near ≡ filter (begins_with text) (methods_at registered places) → IsSorted (methods_at registered near)
near_sorted text registered places near list order e =
    subst IsSorted (sym (near_is text registered places near order e))
    (ordered_sorted (filter (begins_with text) (methods_of registered)) (some_lawful (begins_with text) (methods_of registered) list))

pub near_steps : (pattern text : List ℕ) (registered : List Registered) (places near : List ℕ) → IsOrder registered places
    → methods_at registered near ≡ filter (begins_with text) (methods_at registered places)
    → most_steps pattern (methods_at registered near) ≤ most_steps pattern (methods_of registered)
near_steps pattern text registered places near order e =
    let some = filter (begins_with text) (methods_of registered) in
    let most = some_steps pattern (begins_with text) [] (methods_of registered) in
    let same : most_steps pattern (methods_at registered near) ≡ most_steps pattern some =
    ap (most_steps pattern) (near_is text registered places near order e) ∙ folded_steps pattern [] some ∙ ap (most_steps pattern) (append-nil some) in
    omega arith
