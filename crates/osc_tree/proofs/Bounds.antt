-- Patterns with more parts than any address has names, and a search that ends at once.
use Rattle.std.proofs.Common.{◌≡◌, ℕ, ◌<◌, ◌≤◌, Bool, true, false, ◌&&◌, not, List, [], ◌∷◌, length, filter, map, All, get_or, refl, ap, arith}
use Rattle.std.specs.List.{position_or_len}
use Rattle.std.proofs.lemmas.List.Elements.{All-tail}
use Rattle.osc_pattern.specs.Methods.{Method}
use Rattle.osc_pattern.specs.Patterns.{parts_of, match_parts, matches}
use Rattle.osc_pattern.specs.Reading.{match_part}
use Rattle.osc_tree.specs.Matching.{matching_ids, in_place}
use Rattle.osc_tree.specs.Order.{IsDepth}
use Rattle.std.proofs.Common.{fold}

never : (t : Bool) → (t && false) ≡ false
never true = refl
never false = refl

more_parts : (parts names : List (List ℕ)) → length names < length parts → match_parts parts names ≡ false
more_parts [] names lt = absurd (omega arith)
more_parts (part ∷ parts) [] lt = refl
more_parts (part ∷ parts) (name ∷ names) lt = rw (more_parts parts names (omega arith)) (never (match_part part name))

none_match : (pattern : List ℕ) (depth : ℕ) (methods : List Method) → All (λ method. length (parts_of method.address) ≤ depth) methods
    → depth < length (parts_of pattern)
    → filter (λ method. matches pattern method.address) methods ≡ []
none_match pattern depth [] names many = refl
none_match pattern depth (method ∷ methods) names many =
    let few = names 0 method (omega arith) in
    rw (more_parts (parts_of pattern) (parts_of method.address) (omega arith))
    (none_match pattern depth methods (All-tail (λ (m : Method). length (parts_of m.address) ≤ depth) method methods names) many)

-- a pattern with more parts than any address has names matches no method
pub no_ids : (pattern : List ℕ) (depth : ℕ) (methods : List Method) → IsDepth methods depth → depth < length (parts_of pattern)
    → matching_ids pattern methods ≡ []
no_ids pattern depth methods deep many = ap (λ found. map (λ (m : Method). m.id) (fold in_place [] found)) (none_match pattern depth methods deep.names many)

pub none_first : (p : ℕ → Bool) (xs : List ℕ) → 1 ≤ length xs → p (get_or xs 0 0) ≡ false → 0 ≡ position_or_len (λ x. not (p x)) xs
none_first p [] some e = absurd (omega arith)
none_first p (x ∷ xs) some e = rw e refl
