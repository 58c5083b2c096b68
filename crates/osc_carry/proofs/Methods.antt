-- Methods at the same addresses, with ids from 0 on.
use Rattle.std.proofs.Common.{◌≡◌, ◌≢◌, ℕ, zero, suc, ◌+◌, ◌<◌, false, List, [], ◌∷◌, length, map, get_or, AllPairs, refl, sym, ap, ◌∙◌, subst, subst₂, arith}
use Rattle.std.proofs.lemmas.List.{get_or-map}
use Rattle.osc_pattern.specs.Addresses.{IsAddress, is_proper_prefix}
use Rattle.osc_pattern.specs.Methods.{Method, IsMethodList}
use Rattle.osc_score.specs.Scores.{methods_from}
use Rattle.osc_alike.specs.Alike.{address_of}
use Rattle.osc_alike.proofs.Tables.{Same, same_length}

same_at : (xs ys : List Method) → Same xs ys → (i : ℕ) (d : Method) → i < length xs → (get_or xs i d).address ≡ (get_or ys i d).address
same_at xs ys same i d below =
    sym (get_or-map address_of xs i d [] below)
    ∙ ap (λ (l : List (List ℕ)). get_or l i []) same
    ∙ get_or-map address_of ys i d [] (subst (λ (n : ℕ). i < n) (same_length xs ys same) below)

pub same_list : (xs ys : List Method) → Same xs ys → AllPairs (λ a b. a.id ≢ b.id) ys → IsMethodList xs → IsMethodList ys
same_list xs ys same ids list =
    let count : length xs ≡ length ys = same_length xs ys same in
    record {
      ids = ids;
      lawful = λ i d below.
          let there : i < length xs = omega arith in
          subst IsAddress (same_at xs ys same i d there) (list.lawful i d there);
      addresses = λ i j d less within.
          let there : j < length xs = omega arith in
          subst₂ (λ (a b : List ℕ). a ≢ b) (same_at xs ys same i d (omega arith)) (same_at xs ys same j d there) (list.addresses i j d less there);
      apart = λ i j d less within.
          let there : j < length xs = omega arith in
          subst₂ (λ (a b : List ℕ). (is_proper_prefix a b ≡ false) × (is_proper_prefix b a ≡ false))
          (same_at xs ys same i d (omega arith)) (same_at xs ys same j d there) (list.apart i j d less there);
    }

pub from_addresses : (id : ℕ) (addresses : List (List ℕ)) → map address_of (methods_from id addresses) ≡ addresses
from_addresses id [] = refl
from_addresses id (address ∷ addresses) = ap (λ (l : List (List ℕ)). address ∷ l) (from_addresses (id + 1) addresses)

id_is : (id : ℕ) (addresses : List (List ℕ)) (k : ℕ) (d : Method) → k < length (methods_from id addresses)
    → (get_or (methods_from id addresses) k d).id ≡ id + k
id_is id [] k d below = absurd (omega arith)
id_is id (first ∷ addresses) zero d below = omega arith
id_is id (first ∷ addresses) (suc k) d below = omega (arith, id_is (id + 1) addresses k d (omega arith))

pub from_ids : (addresses : List (List ℕ)) → AllPairs (λ a b. a.id ≢ b.id) (methods_from 0 addresses)
from_ids addresses i j d less within same =
    omega (arith, id_is 0 addresses i d (omega arith), id_is 0 addresses j d within, same)
