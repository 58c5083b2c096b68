-- The calls of methods that are named by their ids.
use Rattle.std.proofs.Common.{◌≡◌, ℕ, List, [], ◌∷◌, map, Some, All, IsSome, refl, sym, ap, subst}
use Rattle.std.proofs.lemmas.List.Elements.{All-cons, All-head, All-tail, All-nil}
use Rattle.osc_pattern.specs.Methods.{Method}
use Rattle.osc_tree.specs.Registry.{address_by_id}
use Rattle.osc_model.specs.Events.{Call}
use Rattle.osc_model.specs.Calls.{call_by}

-- calls by ids are the calls of the methods
pub called : (all methods : List Method) (index : ℕ) (message : List ℕ) → All (λ method. address_by_id all method.id ≡ Some method.address) methods
    → map (call_by all index message) (map (λ method. method.id) methods)
    ≡ map (λ method. record { index = index; id = method.id; address = method.address; message = message }) methods
called all [] index message known = refl
called all (method ∷ methods) index message known =
    let own : Method → Type 0 = λ m. address_by_id all m.id ≡ Some m.address in
    rw (All-head own method methods known)
    (ap (λ (l : List Call). record { index = index; id = method.id; address = method.address; message = message } ∷ l)
    (called all methods index message (All-tail own method methods known)))

-- each of their ids has an address
pub named : (all methods : List Method) → All (λ method. address_by_id all method.id ≡ Some method.address) methods
    → All (λ id. IsSome (address_by_id all id)) (map (λ method. method.id) methods)
named all [] known = All-nil (λ id. IsSome (address_by_id all id))
named all (method ∷ methods) known =
    let own : Method → Type 0 = λ m. address_by_id all m.id ≡ Some m.address in
    All-cons (λ id. IsSome (address_by_id all id)) method.id (map (λ m. m.id) methods) (subst (λ o. IsSome o) (sym (All-head own method methods known)) refl)
    (named all methods (All-tail own method methods known))
