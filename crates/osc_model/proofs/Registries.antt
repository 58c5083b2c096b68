-- Lists of methods that grow and shrink, and stay lawful.
use Rattle.std.proofs.Common.{◌≡◌, ◌≢◌, ℕ, zero, suc, ◌+◌, ◌≤◌, ◌==◌, Bool, true, false, not, cond, List, [], ◌∷◌, ◌++◌, filter, find}
use Rattle.std.proofs.Common.{Some, ap, subst, arith, append_assoc}
use Rattle.std.specs.List.{AllPairs, Contains}
use Rattle.std.specs.Str.{bytes_eq}
use Rattle.std.proofs.lemmas.Bool.Decides.{nat_tests}
use Rattle.osc_pattern.specs.Methods.{Method, nodes}
use Rattle.osc_tree.specs.Registry.{Registry, IsLawful, without}
use Rattle.osc_tree.specs.Nodes.{new_nodes}
use Rattle.osc_tree.proofs.Lists.{filter_few}
use Rattle.osc_tree.proofs.Lawful.{some_lawful}

-- a list with one more method has the nodes of the others and those that the method's address adds
abbrev pub AddsNodes : Type 0
AddsNodes = (method : Method) (front back : List Method) → nodes (front ++ method ∷ back) ≡ nodes (front ++ back) + new_nodes (front ++ back) method.address

-- behind some methods, some of the others have no more nodes than all of them
some_nodes : AddsNodes → (test : Method → Bool) (front back : List Method) → nodes (front ++ filter test back) ≤ nodes (front ++ back)
some_nodes adds test front [] = omega arith
some_nodes adds test front (method ∷ back) = go (test method) (some_nodes adds test (front ++ method ∷ []) back) (some_nodes adds test front back) where
  moved : (others : List Method) → nodes ((front ++ method ∷ []) ++ others) ≡ nodes (front ++ method ∷ others)
  moved others = ap nodes (append_assoc front (method ∷ []) others)

  go : (t : Bool) → nodes ((front ++ method ∷ []) ++ filter test back) ≤ nodes ((front ++ method ∷ []) ++ back)
      → nodes (front ++ filter test back) ≤ nodes (front ++ back)
      → nodes (front ++ cond t (method ∷ filter test back) (filter test back)) ≤ nodes (front ++ method ∷ back)
  go true kept left = omega (arith, moved (filter test back), moved back)
  go false kept left = omega (arith, adds method front back)

-- the methods but for the one at an address are lawful
pub without_lawful : AddsNodes → (tree : Registry) (address : List ℕ) → IsLawful tree → IsLawful (record tree { methods = without tree.methods address })
without_lawful adds tree address lawful =
    let others : Method → Bool = λ method. not (bytes_eq method.address address) in
    let few_methods = lawful.few_methods in
    let few_nodes = lawful.few_nodes in
    record {
      list = some_lawful others tree.methods lawful.list;
      few_methods = omega (arith, filter_few others tree.methods);
      few_nodes = omega (arith, some_nodes adds others [] tree.methods);
    }

-- A method is found by its id.

pub by_id : (methods : List Method) (method : Method) → AllPairs (λ a b. a.id ≢ b.id) methods → Contains methods method
    → find (λ other. other.id == method.id) methods ≡ Some method
by_id [] method pairs (k, within, is) = absurd (omega arith)
by_id (first ∷ methods) method pairs (zero, within, is) = rw same (ap Some is) where
  same : (first.id == method.id) ≡ true
  same = let e : first.id ≡ method.id = ap (λ (m : Method). m.id) is in grind (arith, nat_tests)
by_id (first ∷ methods) method pairs (suc k, within, is) =
    rw other (by_id methods method (λ i j d less inside. pairs (suc i) (suc j) d (omega arith) (omega arith)) (k, omega arith, is))
  where
    other : (first.id == method.id) ≡ false
    other = let differs : first.id ≢ method.id = subst (λ (m : Method). first.id ≢ m.id) is (pairs 0 (suc k) method (omega arith) within) in
        grind (arith, nat_tests)
