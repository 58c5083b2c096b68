-- How the parts of a pattern match names, one after another.
use Rattle.std.proofs.Common.{◌≡◌, ℕ, zero, suc, ◌+◌, ◌<◌, ◌≤◌, ◌==◌, Bool, true, false, ◌&&◌, List, [], ◌∷◌, length, drop, refl, ap, ◌∙◌, arith}
use Rattle.std.proofs.lemmas.Bool.Decides.{nat_tests}
use Rattle.std.specs.Prelude.{slice_get, unwrap_or}
use Rattle.std.specs.List.{list_all}
use Rattle.osc_pattern.specs.Patterns.{match_parts}
use Rattle.osc_pattern.specs.Reading.{match_part}
use Rattle.osc_report.specs.Selections.{is_short}

-- the parts match the names, which are short
abbrev pub all_match : List (List ℕ) → List (List ℕ) → Bool
all_match parts names = list_all is_short names && match_parts parts names

-- the first of both, and the others
both : (a b m k : Bool) → ((a && b) && (m && k)) ≡ ((a && m) && (b && k))
both true true true k = refl
both true true false k = refl
both true false true k = refl
both true false false k = refl
both false b m k = refl

pub one_on : (part name : List ℕ) (parts names : List (List ℕ)) → all_match (part ∷ parts) (name ∷ names) ≡ ((is_short name && match_part part name) && all_match parts names)
one_on part name parts names = both (is_short name) (list_all is_short names) (match_part part name) (match_parts parts names)

-- the part at a place begins those from there on
pub from_place : (parts : List (List ℕ)) (place : ℕ) → place < length parts
    → drop place parts ≡ unwrap_or (slice_get parts place) [] ∷ drop (place + 1) parts
from_place [] place less = absurd (omega (arith, less))
from_place (part ∷ parts) zero less = refl
from_place (part ∷ parts) (suc place) less =
    let next : suc (place + 1) ≡ suc place + 1 = omega arith in
    from_place parts place (omega (arith, less)) ∙ ap (λ (n : ℕ). unwrap_or (slice_get parts place) [] ∷ drop n (part ∷ parts)) next

-- nothing is left from the end on
gone : (parts : List (List ℕ)) (place : ℕ) → length parts ≤ place → drop place parts ≡ []
gone [] zero less = refl
gone [] (suc place) less = refl
gone (part ∷ parts) zero less = absurd (omega (arith, less))
gone (part ∷ parts) (suc place) less = gone parts place (omega (arith, less))

and_none : (b : Bool) → (b && false) ≡ false
and_none true = refl
and_none false = refl

-- a name is left, and no part
pub none_left : (parts : List (List ℕ)) (place : ℕ) (names : List (List ℕ)) (name : List ℕ) (others : List (List ℕ)) → length parts ≤ place → names ≡ name ∷ others
    → all_match (drop place parts) names ≡ false
none_left parts place names name others less is =
    ap (λ (l : List (List ℕ)). all_match (drop place parts) l) is ∙ ap (λ (l : List (List ℕ)). all_match l (name ∷ others)) (gone parts place less)
    ∙ and_none (list_all is_short (name ∷ others))

-- the first part that is left, and the first name
pub first_on : (parts : List (List ℕ)) (place : ℕ) (names : List (List ℕ)) (name : List ℕ) (others : List (List ℕ)) → place < length parts → names ≡ name ∷ others
    → all_match (drop place parts) names ≡ ((is_short name && match_part (unwrap_or (slice_get parts place) []) name) && all_match (drop (place + 1) parts) others)
first_on parts place names name others less is =
    ap (λ (l : List (List ℕ)). all_match (drop place parts) l) is ∙ ap (λ (l : List (List ℕ)). all_match l (name ∷ others)) (from_place parts place less)
    ∙ one_on (unwrap_or (slice_get parts place) []) name (drop (place + 1) parts) others

-- they don't match, or do
pub first_fails : (parts : List (List ℕ)) (place : ℕ) (names : List (List ℕ)) (name : List ℕ) (others : List (List ℕ)) → place < length parts → names ≡ name ∷ others
    → (is_short name && match_part (unwrap_or (slice_get parts place) []) name) ≡ false → all_match (drop place parts) names ≡ false
first_fails parts place names name others less is fails =
    first_on parts place names name others less is ∙ ap (λ (b : Bool). b && all_match (drop (place + 1) parts) others) fails

pub first_matches : (parts : List (List ℕ)) (place : ℕ) (names : List (List ℕ)) (name : List ℕ) (others : List (List ℕ)) → place < length parts → names ≡ name ∷ others
    → (is_short name && match_part (unwrap_or (slice_get parts place) []) name) ≡ true → all_match (drop place parts) names ≡ all_match (drop (place + 1) parts) others
first_matches parts place names name others less is matches =
    first_on parts place names name others less is ∙ ap (λ (b : Bool). b && all_match (drop (place + 1) parts) others) matches

same_next : (m n : ℕ) → (m == n) ≡ (suc m == suc n)
same_next m n = grind (arith, nat_tests)

none_more : (n : ℕ) → false ≡ (0 == suc n)
none_more n = grind (arith, nat_tests)

-- no name is left: whether no part is
pub ends : (parts : List (List ℕ)) (place : ℕ) → place ≤ length parts → all_match (drop place parts) [] ≡ (place == length parts)
ends [] zero less = refl
ends [] (suc place) less = absurd (omega (arith, less))
ends (part ∷ parts) zero less = none_more (length parts)
ends (part ∷ parts) (suc place) less = ends parts place (omega (arith, less)) ∙ same_next place (length parts)
