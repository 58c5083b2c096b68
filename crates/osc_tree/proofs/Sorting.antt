-- To leave methods out before they are put in order is to leave them out after.
use Rattle.std.proofs.Common.{◌≡◌, ℕ, Bool, true, false, cond, List, [], ◌∷◌, filter, fold, refl, sym, ap, ◌∙◌}
use Rattle.std.specs.List.{AllByRecursion}
use Rattle.osc_pattern.specs.Patterns.{matches}
use Rattle.osc_pattern.specs.Methods.{Method}
use Rattle.osc_tree.specs.Matching.{is_below, in_place, matching, IsAscending}
use Rattle.osc_tree.specs.Order.{ordered}
use Rattle.osc_tree.proofs.Orders.{below_order, placed_behind, placed_ahead, ascending_placed, folded_ascend}
use Rattle.osc_tree.proofs.Lists.{all_filter}

-- what is before a method is before all that aren't before that one
before_all : (method other : Method) (others : List Method) → is_below method other ≡ true → AllByRecursion (λ third. is_below third other ≡ false) others
    → AllByRecursion (λ third. is_below method third ≡ true) others
before_all method other [] e first = tt
before_all method other (third ∷ others) e first = (go (is_below method third) refl, before_all method other others e first.1) where
  go : (t : Bool) → is_below method third ≡ t → is_below method third ≡ true
  go true is = is
  go false is = absurd (let no = below_order.chain method third other is first.0 in cc)

placed_first : (method : Method) (others : List Method) → AllByRecursion (λ other. is_below method other ≡ true) others
    → in_place others method ≡ method ∷ others
placed_first method [] all = refl
placed_first method (other ∷ others) all = placed_ahead method other others all.0

filter_placed : (test : Method → Bool) (method : Method) (others : List Method) → IsAscending others
    → filter test (in_place others method) ≡ cond (test method) (in_place (filter test others) method) (filter test others)
filter_placed test method [] ascending = refl
filter_placed test method (other ∷ others) ascending = go (is_below method other) refl (filter_placed test method others ascending.1) where
  ahead : (t : Bool) → in_place (filter test (other ∷ others)) method ≡ method ∷ filter test (other ∷ others)
      → cond t (method ∷ filter test (other ∷ others)) (filter test (other ∷ others))
      ≡ cond t (in_place (filter test (other ∷ others)) method) (filter test (other ∷ others))
  ahead true is = sym is
  ahead false is = refl

  behind : (s t : Bool) → is_below method other ≡ false
      → filter test (in_place others method) ≡ cond t (in_place (filter test others) method) (filter test others)
      → cond s (other ∷ filter test (in_place others method)) (filter test (in_place others method))
      ≡ cond t (in_place (cond s (other ∷ filter test others) (filter test others)) method) (cond s (other ∷ filter test others) (filter test others))
  behind true true e more = ap (λ l. other ∷ l) more ∙ sym (placed_behind method other (filter test others) e)
  behind true false e more = ap (λ l. other ∷ l) more
  behind false true e more = more
  behind false false e more = more

  go : (t : Bool) → is_below method other ≡ t
      → filter test (in_place others method) ≡ cond (test method) (in_place (filter test others) method) (filter test others)
      → filter test (in_place (other ∷ others) method) ≡ cond (test method) (in_place (filter test (other ∷ others)) method) (filter test (other ∷ others))
  go true e more =
      ap (filter test) (placed_ahead method other others e)
      ∙ ahead (test method)
      (placed_first method (filter test (other ∷ others))
      (all_filter (λ third. is_below method third ≡ true) test (other ∷ others) (e, before_all method other others e ascending.0)))
  go false e more = ap (filter test) (placed_behind method other others e) ∙ behind (test other) (test method) e more

filter_folded : (test : Method → Bool) (methods more : List Method) → IsAscending methods
    → filter test (fold in_place methods more) ≡ fold in_place (filter test methods) (filter test more)
filter_folded test methods [] ascending = refl
filter_folded test methods (method ∷ more) ascending =
    filter_folded test (in_place methods method) more (ascending_placed method methods ascending)
    ∙ ap (λ l. fold in_place l (filter test more)) (filter_placed test method methods ascending)
    ∙ go (test method)
  where
    go : (t : Bool) → fold in_place (cond t (in_place (filter test methods) method) (filter test methods)) (filter test more)
        ≡ fold in_place (filter test methods) (cond t (method ∷ filter test more) (filter test more))
    go true = refl
    go false = refl

pub filter_ordered : (test : Method → Bool) (methods : List Method) → filter test (ordered methods) ≡ ordered (filter test methods)
filter_ordered test methods = filter_folded test [] methods tt

pub ordered_ascend : (methods : List Method) → IsAscending (ordered methods)
ordered_ascend methods = folded_ascend [] methods tt

-- the matching methods are those that match of all methods in their order
pub matching_is : (pattern : List ℕ) (methods : List Method) → matching pattern methods ≡ filter (λ method. matches pattern method.address) (ordered methods)
matching_is pattern methods = sym (filter_ordered (λ method. matches pattern method.address) methods)
