-- What is added twice, and the tokens of an array.
use Rattle.std.proofs.Common.{◌≡◌, List, [], ◌∷◌, ◌++◌, refl, sym, ap, ◌∙◌, subst, append_assoc, append-nil}
use Rattle.std.specs.List.{flat_map}
use Rattle.json.specs.Token.{Token, begin_array, end_array}
use Rattle.json.specs.Json.{Json, array}
use Rattle.json.specs.Tree.{json_tokens, items_tokens}
use Rattle.json.specs.Written.{Written}
use Rattle.osc_page.specs.States.{items_of}
use Rattle.osc_page.specs.Added.{Adds}

-- what is added twice is added at once
pub also : {u v w : Written} {a b : List Token} → Adds u v a → Adds v w b → Adds u w (a ++ b)
also {u} {v} {w} {a} {b} first second = record {
  tokens_are = second.tokens_are ∙ ap (λ (ts : List Token). ts ++ b) first.tokens_are ∙ append_assoc u.tokens a b;
  before = second.before ∙ first.before;
}

items_tokens_of : {A : Type 0} (f : A → Json) (xs : List A)
    → items_tokens (items_of f xs) ≡ flat_map (λ x. json_tokens (f x)) xs ++ end_array ∷ []
items_tokens_of f [] = refl
items_tokens_of f (x ∷ xs) =
    ap (λ (ts : List Token). json_tokens (f x) ++ ts) (items_tokens_of f xs)
    ∙ sym (append_assoc (json_tokens (f x)) (flat_map (λ y. json_tokens (f y)) xs) (end_array ∷ []))

-- an array is its items, between the brackets
pub array_added : {A : Type 0} (f : A → Json) (xs : List A) {u v w x : Written} → Adds u v (begin_array ∷ [])
    → Adds v w (flat_map (λ x. json_tokens (f x)) xs) → Adds w x (end_array ∷ []) → Adds u x (json_tokens (array (items_of f xs)))
array_added f xs {u} {v} {w} {x} first middle last =
    subst (λ (ts : List Token). Adds u x (begin_array ∷ ts)) (sym (items_tokens_of f xs)) (also first (also middle last))

pub nothing_added : (u : Written) → Adds u u []
nothing_added u = record { tokens_are = sym (append-nil u.tokens); before = refl }

pub ruleset writes = (also, nothing_added)
