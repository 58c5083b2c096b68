-- Methods by their ids: those that match have their addresses, and are few.
use Rattle.std.proofs.Common.{◌≡◌, ◌≢◌, ℕ, ◌≤◌, ◌==◌, Bool, false, List, length, find, get_or, Option, Some, None, All, Contains, inl}
use Rattle.std.proofs.Common.{inr, refl, sym, ap, ◌∙◌, arith}
use Rattle.std.specs.List.{AllPairs}
use Rattle.std.specs.Option.{option_map}
use Rattle.std.specs.List.Sorted.{IsPermutation}
use Rattle.std.proofs.lemmas.Bool.{eq-eqb, eqb-true, cases_order}
use Rattle.std.proofs.lemmas.List.{get_or_default, length-map}
use Rattle.std.proofs.lemmas.List.Elements.{All-filter, All-contains}
use Rattle.std.proofs.lemmas.List.Sorted.{All-permutation, length_permutation}
use Rattle.std.proofs.lemmas.List.Sums.{length-filter, count_by-le-length}
use Rattle.osc_pattern.specs.Patterns.{matches}
use Rattle.osc_pattern.specs.Methods.{Method}
use Rattle.osc_tree.specs.Registry.{Registry, IsLawful, address_by_id}
use Rattle.osc_tree.specs.Matching.{matched, matching, matching_ids}
use Rattle.osc_tree.proofs.Lists.{find-some, find-none}

-- methods with one id are one, where ids differ
one_by_id : (methods : List Method) (x y : Method) → AllPairs (λ a b. a.id ≢ b.id) methods → Contains methods x → Contains methods y → x.id ≡ y.id → x ≡ y
one_by_id methods x y apart (i, i_below, at_i) (j, j_below, at_j) same = elim (cases_order i j) [
  | inl e ↦ sym at_i ∙ get_or_default methods i x y i_below ∙ ap (λ k. get_or methods k y) e ∙ at_j
  | inr (inl before) ↦ absurd (apart i j x before j_below (ap (λ m. m.id) at_i ∙ same ∙ ap (λ m. m.id) (sym at_j ∙ get_or_default methods j y x j_below)))
  | inr (inr after) ↦ absurd (apart j i x after i_below (ap (λ m. m.id) (get_or_default methods j x y j_below ∙ at_j) ∙ sym same ∙ ap (λ m. m.id) (sym at_i)))
]

-- the address by a method's id is its own
pub address_found : (methods : List Method) (method : Method) → AllPairs (λ a b. a.id ≢ b.id) methods → Contains methods method
    → address_by_id methods method.id ≡ Some method.address
address_found methods method apart here = go (find (λ other. other.id == method.id) methods) refl where
  go : (o : Option Method) → find (λ other. other.id == method.id) methods ≡ o → option_map (λ m. m.address) o ≡ Some method.address
  go None e =
      let other = All-contains (λ m. (m.id == method.id) ≡ false) methods method (find-none (λ m. m.id == method.id) methods e) here in
      let own = eq-eqb method.id method.id refl in
      absurd (cc)
  go (Some other) e =
      let is = find-some (λ m. m.id == method.id) methods other e in
      let same : other.id ≡ method.id = eqb-true other.id method.id is.1 in
      ap (λ (m : Method). Some m.address) (one_by_id methods other method apart is.0 here same)

-- the matching methods have their addresses by their ids
pub matching_found : (pattern : List ℕ) (tree : Registry) → IsLawful tree → IsPermutation (matched pattern tree.methods) (matching pattern tree.methods)
    → All (λ method. address_by_id tree.methods method.id ≡ Some method.address) (matching pattern tree.methods)
matching_found pattern tree lawful same =
    let own : Method → Type 0 = λ method. address_by_id tree.methods method.id ≡ Some method.address in
    All-permutation own (matched pattern tree.methods) (matching pattern tree.methods) same
    (All-filter (λ method. matches pattern method.address) own tree.methods
    (λ k d below. address_found tree.methods (get_or tree.methods k d) lawful.list.ids
    (k, below, get_or_default tree.methods k (get_or tree.methods k d) d below)))

-- few methods match
pub few_matching : (pattern : List ℕ) (tree : Registry) → IsLawful tree → IsPermutation (matched pattern tree.methods) (matching pattern tree.methods)
    → length (matching_ids pattern tree.methods) ≤ tree.method_limit
few_matching pattern tree lawful same =
    let test : Method → Bool = λ method. matches pattern method.address in
    omega (
      arith,
      length-map (matching pattern tree.methods) (λ (method : Method). method.id),
      length_permutation (matched pattern tree.methods)
          (matching pattern tree.methods) same,
      length-filter test tree.methods,
      count_by-le-length test tree.methods,
      lawful.few_methods,
    )
