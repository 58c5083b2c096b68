-- The ids of the methods, where one leaves.
use Rattle.std.proofs.Common.{◌≡◌, ◌≢◌, ℕ, suc, Bool, true, false, ◌==◌, not, cond, List, [], ◌∷◌, filter, All, Some, refl, sym, subst, ◌∙◌, arith, map, ap}
use Rattle.std.specs.List.{AllByRecursion, AllPairs}
use Rattle.std.specs.Str.{bytes_eq}
use Rattle.std.proofs.lemmas.Bool.Decides.{nat_tests}
use Rattle.std.proofs.lemmas.Bool.{ne_eqb}
use Rattle.std.proofs.lemmas.List.Elements.{All-from_recursion, recursion_from_All, All-from_get_or}
use Rattle.std.proofs.lemmas.Slice.Eq.{bytes_eq-Decides}
use Rattle.osc_pattern.specs.Methods.{Method, IsMethodList}
use Rattle.osc_tree.specs.Registry.{id_at, without}
use Rattle.osc_tree.proofs.Lines.{unequal}

pairs_behind : {X : Type 0} (R : X → X → Type 0) (x : X) (xs : List X) → AllPairs R (x ∷ xs) → AllPairs R xs
pairs_behind R x xs pairs = λ i j d lt within. pairs (suc i) (suc j) d (omega arith) (omega arith)

pairs_ahead : {X : Type 0} (R : X → X → Type 0) (x : X) (xs : List X) → AllPairs R (x ∷ xs) → AllByRecursion (R x) xs
pairs_ahead R x xs pairs = recursion_from_All (R x) xs (All-from_get_or (R x) xs x (λ k lt. pairs 0 (suc k) x (omega arith) (omega arith)))

-- the address is the method's exactly where the id is
abbrev pub Agrees : List ℕ → ℕ → Method → Type 0
Agrees address id method = bytes_eq method.address address ≡ (method.id == id)

others_agree : (first : Method) (methods : List Method) → AllByRecursion (λ other. first.id ≢ other.id) methods
    → AllByRecursion (λ other. first.address ≢ other.address) methods → AllByRecursion (Agrees first.address first.id) methods
others_agree first [] ids addresses = tt
others_agree first (other ∷ methods) ids addresses =
    let a : bytes_eq other.address first.address ≡ false = unequal other.address first.address (λ same. addresses.0 (sym same)) in
    let b : (other.id == first.id) ≡ false = ne_eqb other.id first.id (λ same. ids.0 (sym same)) in
    (a ∙ sym b, others_agree first methods ids.1 addresses.1)

-- what holds of the ids of all methods holds of the one that is found
pub found_id : (P : ℕ → Type 0) (methods : List Method) (address : List ℕ) (id : ℕ) → id_at methods address ≡ Some id
    → AllByRecursion (λ method. P method.id) methods → P id
found_id P [] address id at all = absurd (cc)
found_id P (method ∷ methods) address id at all = go (bytes_eq method.address address) refl (found_id P methods address id) where
  go : (t : Bool) → bytes_eq method.address address ≡ t → (id_at methods address ≡ Some id → AllByRecursion (λ method. P method.id) methods → P id) → P id
  go true e more = let f : Some method.id ≡ Some id = rw e at at in let same : method.id ≡ id = cc in subst P same all.0
  go false e more = more (rw e at at) all.1

-- in a lawful list the method at an address is the one with its id
pub all_agree : (methods : List Method) (address : List ℕ) (id : ℕ) → AllPairs (λ a b. a.id ≢ b.id) methods → AllPairs (λ a b. a.address ≢ b.address) methods
    → id_at methods address ≡ Some id → AllByRecursion (Agrees address id) methods
all_agree [] address id ids addresses at = tt
all_agree (method ∷ methods) address id ids addresses at =
    go (bytes_eq method.address address) refl
    (all_agree methods address id (pairs_behind (λ a b. a.id ≢ b.id) method methods ids)
    (pairs_behind (λ a b. a.address ≢ b.address) method methods addresses))
  where
    go : (t : Bool) → bytes_eq method.address address ≡ t → (id_at methods address ≡ Some id → AllByRecursion (Agrees address id) methods)
        → AllByRecursion (Agrees address id) (method ∷ methods)
    go true e more =
        let f : Some method.id ≡ Some id = rw e at at in
        let same : method.id ≡ id = cc in
        let text : method.address ≡ address = (bytes_eq-Decides method.address address).0 e in
        let b : (method.id == id) ≡ true = grind (arith, nat_tests) in
        let others = others_agree method methods (pairs_ahead (λ a b. a.id ≢ b.id) method methods ids)
        (pairs_ahead (λ a b. a.address ≢ b.address) method methods addresses) in (
          e ∙ sym b,
          subst (λ (n : ℕ). AllByRecursion (Agrees address n) methods) same
              (subst (λ (l : List ℕ). AllByRecursion (Agrees l method.id) methods) text others),
        )
    go false e more =
        let f : id_at methods address ≡ Some id = rw e at at in
        let other : method.id ≢ id = λ same. found_id (λ n. method.id ≢ n) methods address id f (pairs_ahead (λ a b. a.id ≢ b.id) method methods ids) same in
        let b : (method.id == id) ≡ false = ne_eqb method.id id other in
        (e ∙ sym b, more f)

-- the methods that stay are those with another id
pub others_stay : (methods : List Method) (address : List ℕ) (id : ℕ) → IsMethodList methods → id_at methods address ≡ Some id
    → without methods address ≡ filter (λ method. not (method.id == id)) methods
others_stay methods address id list at = go methods (all_agree methods address id list.ids list.addresses at) where
  go : (some : List Method) → AllByRecursion (Agrees address id) some → without some address ≡ filter (λ method. not (method.id == id)) some
  go [] agree = refl
  go (method ∷ more) agree = λ i. cond (not (agree.0 i)) (method ∷ go more agree.1 i) (go more agree.1 i)

-- two lists with the same ids have the same ids left, where one id is taken out
pub filter_ids : {X : Type 0} (of : X → ℕ) (id : ℕ) (xs : List X) → map of (filter (λ x. not (of x == id)) xs) ≡ filter (λ n. not (n == id)) (map of xs)
filter_ids of id [] = refl
filter_ids {X} of id (x ∷ xs) = go (not (of x == id)) (filter_ids of id xs) where
  go : (t : Bool) → map of (filter (λ y. not (of y == id)) xs) ≡ filter (λ n. not (n == id)) (map of xs)
      → map of (cond t (x ∷ filter (λ y. not (of y == id)) xs) (filter (λ y. not (of y == id)) xs))
      ≡ cond t (of x ∷ filter (λ n. not (n == id)) (map of xs)) (filter (λ n. not (n == id)) (map of xs))
  go true more = ap (λ (l : List ℕ). of x ∷ l) more
  go false more = more

pub ids_left : (methods : List Method) (address : List ℕ) (id : ℕ) → IsMethodList methods → id_at methods address ≡ Some id
    → map (λ method. method.id) (without methods address) ≡ filter (λ n. not (n == id)) (map (λ method. method.id) methods)
ids_left methods address id list at =
    ap (map (λ (method : Method). method.id)) (others_stay methods address id list at) ∙ filter_ids (λ (method : Method). method.id) id methods

-- none of those with another id has the id
pub none_has : (methods : List Method) (id : ℕ) → All (λ method. method.id ≢ id) (filter (λ method. not (method.id == id)) methods)
none_has methods id = All-from_recursion (λ method. method.id ≢ id) (filter (λ method. not (method.id == id)) methods) (each methods) where
  each : (some : List Method) → AllByRecursion (λ method. method.id ≢ id) (filter (λ method. not (method.id == id)) some)
  each [] = tt
  each (method ∷ more) = go (method.id == id) refl (each more) where
    go : (t : Bool) → (method.id == id) ≡ t → AllByRecursion (λ method. method.id ≢ id) (filter (λ method. not (method.id == id)) more)
        → AllByRecursion (λ method. method.id ≢ id)
        (cond (not t) (method ∷ filter (λ method. not (method.id == id)) more) (filter (λ method. not (method.id == id)) more))
    go true e rest = rest
    go false e rest = ((λ same. let yes : (method.id == id) ≡ true = grind (arith, nat_tests) in cc), rest)
