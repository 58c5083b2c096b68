-- The matching methods are those that match, in the order of their addresses.
use Rattle.std.proofs.Common.{◌≡◌, ℕ, Bool, true, false, List, [], ◌∷◌, ◌++◌, fold, refl, sym, subst, one-add}
use Rattle.std.specs.List.{AllByRecursion}
use Rattle.std.specs.List.Sorted.{IsPermutation}
use Rattle.std.specs.Cmp.{IsStrictWeakOrder}
use Rattle.std.proofs.lemmas.Cmp.{nat_list_cmp_total}
use Rattle.std.proofs.lemmas.List.{append-nil}
use Rattle.std.proofs.lemmas.List.MinMax.{ranks_by}
use Rattle.std.proofs.lemmas.List.Sorted.{IsPermutation-refl, IsPermutation-sym, IsPermutation-trans, IsPermutation-insert, IsPermutation-middle}
use Rattle.std.proofs.lemmas.List.Sorted.{IsPermutation-append_right}
use Rattle.osc_pattern.specs.Methods.{Method}
use Rattle.osc_tree.specs.Matching.{is_below, matched, matching, matching_ids, in_place, IsAscending, AreHits}

pub below_order : IsStrictWeakOrder is_below
below_order = ranks_by nat_list_cmp_total (λ method. method.address)

pub placed_behind : (method other : Method) (others : List Method) → is_below method other ≡ false
    → in_place (other ∷ others) method ≡ other ∷ in_place others method
placed_behind method other others e = rw (e, one-add) refl

pub placed_ahead : (method other : Method) (others : List Method) → is_below method other ≡ true → in_place (other ∷ others) method ≡ method ∷ other ∷ others
placed_ahead method other others e = rw e refl

-- what holds of a method and of all others holds of all, once it is in its place
pub all_placed : (P : Method → Type 0) (method : Method) (others : List Method) → P method → AllByRecursion P others → AllByRecursion P (in_place others method)
all_placed P method [] one all = (one, all)
all_placed P method (other ∷ others) one all = go (is_below method other) refl (all_placed P method others one all.1) where
  go : (t : Bool) → is_below method other ≡ t → AllByRecursion P (in_place others method) → AllByRecursion P (in_place (other ∷ others) method)
  go true e more = subst (AllByRecursion P) (sym (placed_ahead method other others e)) (one, all)
  go false e more = subst (AllByRecursion P) (sym (placed_behind method other others e)) (all.0, more)

-- what is below a method is below all that the method is below
below_all : (method other : Method) (others : List Method) → is_below method other ≡ true → AllByRecursion (λ third. is_below third other ≡ false) others
    → AllByRecursion (λ third. is_below third method ≡ false) others
below_all method other [] e first = first
below_all method other (third ∷ others) e first =
    (below_order.chain third other method first.0 (below_order.one_way method other e), below_all method other others e first.1)

pub ascending_placed : (method : Method) (others : List Method) → IsAscending others → IsAscending (in_place others method)
ascending_placed method [] ascending = (tt, tt)
ascending_placed method (other ∷ others) ascending = go (is_below method other) refl (ascending_placed method others ascending.1) where
  go : (t : Bool) → is_below method other ≡ t → IsAscending (in_place others method) → IsAscending (in_place (other ∷ others) method)
  go true e more =
      subst IsAscending (sym (placed_ahead method other others e))
      ((below_order.one_way method other e, below_all method other others e ascending.0), ascending)
  go false e more =
      subst IsAscending (sym (placed_behind method other others e)) (all_placed (λ third. is_below third other ≡ false) method others e ascending.0, more)

pub folded_ascend : (methods more : List Method) → IsAscending methods → IsAscending (fold in_place methods more)
folded_ascend methods [] ascending = ascending
folded_ascend methods (method ∷ more) ascending = folded_ascend (in_place methods method) more (ascending_placed method methods ascending)

pub matching_ascend : (pattern : List ℕ) (methods : List Method) → IsAscending (matching pattern methods)
matching_ascend pattern methods = folded_ascend [] (matched pattern methods) tt

folded_same : (methods more : List Method) → IsPermutation (more ++ methods) (fold in_place methods more)
folded_same methods [] = IsPermutation-refl methods
folded_same methods (method ∷ more) =
    let front = IsPermutation-sym _ _ (IsPermutation-middle more method methods) in
    let placed = IsPermutation-append_right more (method ∷ methods) (in_place methods method) (IsPermutation-insert methods _ method) in
    IsPermutation-trans _ _ _ front (IsPermutation-trans _ _ _ placed (folded_same (in_place methods method) more))

pub exactly_matching : (pattern : List ℕ) (methods : List Method) → IsPermutation (matched pattern methods) (matching pattern methods)
exactly_matching pattern methods =
    subst (λ (l : List Method). IsPermutation l (matching pattern methods)) (append-nil (matched pattern methods)) (folded_same [] (matched pattern methods))

-- the numbers that are read are those of the methods that match
pub are_hits : (pattern : List ℕ) (methods : List Method) (ids : List ℕ) → ids ≡ matching_ids pattern methods → AreHits pattern methods ids
are_hits pattern methods ids e =
    record { found = matching pattern methods; numbers = e; each = exactly_matching pattern methods; ascending = matching_ascend pattern methods }
