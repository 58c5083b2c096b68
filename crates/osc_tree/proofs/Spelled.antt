-- A pattern without special bytes matches the method at the address that it spells, and no other.
use Rattle.std.proofs.Common.{◌≡◌, ◌↔◌, ℕ, suc, Bool, true, false, cond, List, [], ◌∷◌, filter, find, map, get_or, All, IsTrue, Option, Some, None, refl, sym}
use Rattle.std.proofs.Common.{ap, ◌∙◌, arith}
use Rattle.std.specs.List.{AllPairs}
use Rattle.std.specs.Option.{option_map, option_to_list}
use Rattle.std.specs.Str.{bytes_eq}
use Rattle.std.proofs.lemmas.List.Elements.{All-head, All-tail}
use Rattle.std.proofs.lemmas.Slice.Eq.{bytes_eq-Decides}
use Rattle.osc_pattern.specs.Addresses.{IsAddress}
use Rattle.osc_pattern.specs.Patterns.{Match, matches}
use Rattle.osc_pattern.specs.Methods.{Method, IsMethodList}
use Rattle.osc_tree.specs.Registry.{id_at}
use Rattle.osc_tree.specs.Matching.{matching_ids}
use Rattle.osc_tree.proofs.Lawful.{once}
use Rattle.osc_tree.specs.Order.{ordered}

filter_none : {X : Type 0} (test : X → Bool) (xs : List X) → All (λ x. test x ≡ false) xs → filter test xs ≡ []
filter_none test [] all = refl
filter_none test (x ∷ xs) all = rw (All-head (λ x. test x ≡ false) x xs all) (filter_none test xs (All-tail (λ x. test x ≡ false) x xs all))

-- where at most one passes a test, those that pass are the first that does
pub filter_one : {X : Type 0} (test : X → Bool) (xs : List X) → AllPairs (λ a b. test a ≡ true → test b ≡ false) xs
    → filter test xs ≡ option_to_list (find test xs)
filter_one test [] alone = refl
filter_one test (x ∷ xs) alone = go (test x) refl (filter_one test xs (λ i j d lt within. alone (suc i) (suc j) d (omega arith) (omega arith))) where
  go : (t : Bool) → test x ≡ t → filter test xs ≡ option_to_list (find test xs)
      → cond t (x ∷ filter test xs) (filter test xs) ≡ option_to_list (cond t (Some x) (find test xs))
  go true is more = ap (λ l. x ∷ l) (filter_none test xs (λ k d below. alone 0 (suc k) d (omega arith) (omega arith) is))
  go false is more = more

pub filter_alike : {X : Type 0} (p q : X → Bool) (xs : List X) → All (λ x. p x ≡ q x) xs → filter p xs ≡ filter q xs
filter_alike p q [] all = refl
filter_alike p q (x ∷ xs) all =
    go (q x) (All-head (λ x. p x ≡ q x) x xs all) (filter_alike p q xs (All-tail (λ x. p x ≡ q x) x xs all)) where
      go : (t : Bool) → p x ≡ t → filter p xs ≡ filter q xs → filter p (x ∷ xs) ≡ cond t (x ∷ filter q xs) (filter q xs)
      go true e more = rw e (ap (λ l. x ∷ l) more)
      go false e more = rw e more

-- the test is whether it is the same text
same_test : (pattern address : List ℕ) → (Match pattern address ↔ (pattern ≡ address)) → (IsTrue (matches pattern address) ↔ Match pattern address)
    → matches pattern address ≡ bytes_eq address pattern
same_test pattern address alone exact = go (matches pattern address) refl (bytes_eq address pattern) refl where
  go : (s : Bool) → matches pattern address ≡ s → (t : Bool) → bytes_eq address pattern ≡ t → matches pattern address ≡ bytes_eq address pattern
  go true e true f = e ∙ sym f
  go false e false f = e ∙ sym f
  go true e false f =
      let is : bytes_eq address pattern ≡ true = (bytes_eq-Decides address pattern).1 (sym (alone.0 (exact.0 e))) in absurd (cc)
  go false e true f =
      let is : matches pattern address ≡ true = exact.1 (alone.1 (sym ((bytes_eq-Decides address pattern).0 f))) in absurd (cc)

pub spelled_ids : (pattern : List ℕ) (methods : List Method) → IsMethodList methods
    → ((address : List ℕ) → IsAddress address → (Match pattern address ↔ (pattern ≡ address)))
    → ((address : List ℕ) → (IsTrue (matches pattern address) ↔ Match pattern address))
    → matching_ids pattern methods ≡ option_to_list (id_at methods pattern)
spelled_ids pattern methods list alone exact =
    ap (λ l. map (λ (method : Method). method.id) (ordered l))
    (filter_alike (λ method. matches pattern method.address) here methods
    (λ k d lt. same_test pattern (get_or methods k d).address (alone (get_or methods k d).address (list.lawful k d lt)) (exact (get_or methods k d).address))
    ∙ filter_one here methods (once methods pattern list))
    ∙ last (find here methods)
  where
    here : Method → Bool
    here method = bytes_eq method.address pattern

    last : (o : Option Method) → map (λ (method : Method). method.id) (ordered (option_to_list o))
        ≡ option_to_list (option_map (λ (method : Method). method.id) o)
    last None = refl
    last (Some method) = refl
