-- The matching methods, by their places among all.
use Rattle.std.proofs.Common.{◌≡◌, ℕ, zero, suc, ◌<◌, List, [], ◌∷◌, ◌++◌, length, map, take, drop, get_or, refl, arith}
use Rattle.std.proofs.lemmas.List.{get_or-map}
use Rattle.osc_tree.specs.declared.registered.Registered.{Registered}
use Rattle.osc_tree.specs.Views.{method_of, method_at}

pub method_at-get : (registered : List Registered) (place : ℕ) (d : Registered) → place < length registered
    → method_at registered place ≡ method_of (get_or registered place d)
method_at-get registered place d within = get_or-map method_of registered place d (record { id = 0; address = [] }) within

-- an element that a loop hasn't reached yet
pub not_yet : (f : ℕ → ℕ) (xs : List ℕ) (i d : ℕ) → i < length xs → get_or (map f (take i xs) ++ drop i xs) i d ≡ get_or xs i d
not_yet f [] i d within = absurd (omega arith)
not_yet f (x ∷ xs) zero d within = refl
not_yet f (x ∷ xs) (suc i) d within = not_yet f xs i d (omega arith)

-- an element that is there is read alike, whatever stands for none
pub any_default : {X : Type 0} (xs : List X) (i : ℕ) (d e : X) → i < length xs → get_or xs i d ≡ get_or xs i e
any_default [] i d e within = absurd (omega arith)
any_default (x ∷ xs) zero d e within = refl
any_default (x ∷ xs) (suc i) d e within = any_default xs i d e (omega arith)
