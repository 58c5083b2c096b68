-- Patterns and addresses matched part by part, where one of them has ended.
use Rattle.std.proofs.Common.{◌≡◌, ℕ, ◌+◌, ◌*◌, ◌≤◌, Bor, Bool, true, false, cond, ◌&&◌, Option, Some, None, List, [], ◌∷◌, length, refl, arith, ap, ◌∙◌}
use Rattle.std.specs.Prelude.{MatchOption}
use Rattle.std.proofs.lemmas.Nat.{mul-le}
use Rattle.std.specs.List.{slice_split, onto_first}
use Rattle.std.proofs.Math.Bool.{and-false}
use Rattle.osc_pattern.specs.Items.{is_slash}
use Rattle.osc_pattern.specs.Reading.{match_part}
use Rattle.osc_pattern.specs.Patterns.{match_parts}

-- a cut gives at least one part
pub split-cons : (bytes : List ℕ) → (part : List ℕ) × (parts : List (List ℕ)) × (slice_split is_slash bytes ≡ part ∷ parts)
split-cons [] = ([], [], refl)
split-cons (x ∷ xs) = go (is_slash x) (split-cons xs) where
  go : (t : Bool) → (part : List ℕ) × (parts : List (List ℕ)) × (slice_split is_slash xs ≡ part ∷ parts)
      → (part : List ℕ) × (parts : List (List ℕ)) × (cond t ([] ∷ slice_split is_slash xs) (onto_first x (slice_split is_slash xs)) ≡ part ∷ parts)
  go true found = ([], slice_split is_slash xs, refl)
  go false (part, parts, e) = (x ∷ part, parts, ap (onto_first x) e)

-- parts are left, and no name
pub names_ended : (bytes names part rest name : List ℕ) → slice_split is_slash bytes ≡ part ∷ slice_split is_slash rest
    → slice_split is_slash names ≡ name ∷ []
    → match_parts (slice_split is_slash bytes) (slice_split is_slash names) ≡ false
names_ended bytes names part rest name e f =
    let more = split-cons rest in
    rw (e, f) (ap (λ parts. match_part part name && match_parts parts []) more.2 ∙ and-false (match_part part name))

-- names are left, and no part
pub parts_ended : (bytes names part rest name : List ℕ) → slice_split is_slash bytes ≡ part ∷ []
    → slice_split is_slash names ≡ name ∷ slice_split is_slash rest
    → match_parts (slice_split is_slash bytes) (slice_split is_slash names) ≡ false
parts_ended bytes names part rest name e f =
    let more = split-cons rest in
    rw (e, f) (ap (λ others. match_part part name && match_parts [] others) more.2 ∙ and-false (match_part part name))

-- a part is no longer than the parts together
pub piece_within : (rest : Option (Bor (List ℕ))) (piece whole : ℕ)
    → MatchOption rest (piece ≡ whole) (λ others. piece + (1 + length others.now) ≡ whole) → piece ≤ whole
piece_within None piece whole size = omega arith
piece_within (Some others) piece whole size = omega arith

-- the steps of one part
pub part_steps : (name part : ℕ) → name ≤ 63 → (name + 1) * part ≤ 64 * part
part_steps name part short = mul-le (name + 1) part 64 part (omega arith) (omega arith)
