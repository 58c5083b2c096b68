-- A lawful pattern has no zero byte, and a pattern's fault stands within it.
use Rattle.std.proofs.Common.{◌≡◌, ℕ, suc, ◌+◌, ◌<◌, ◌≤◌, true, false, not, ◌==◌, List, [], ◌∷◌, ◌++◌, length, refl, sym, ◌∙◌, ap, arith, eqb-true}
use Rattle.std.proofs.Common.{length-append}
use Rattle.std.specs.List.{list_any, flat_map, slice_split, join_with_byte}
use Rattle.std.proofs.lemmas.Bool.{ltb-true, and_from, or_parts}
use Rattle.std.proofs.lemmas.Bool.Decides.{nat_tests}
use Rattle.std.proofs.lemmas.Option.{cond_some}
use Rattle.std.proofs.lemmas.List.{append-nil}
use Rattle.std.proofs.lemmas.List.Splits.{join_with_byte-slice_split, length-slice_split}
use Rattle.osc_atoms.specs.Atoms.{string, has_no_zero}
use Rattle.osc_pattern.specs.Items.{is_slash, item_text}
use Rattle.osc_pattern.specs.Patterns.{IsPattern, IsFault, start, byte, unclosed, IsOpenAt, begins_with_slash, parts_of, is_outside}
use Rattle.osc_message.specs.Reading.{begins}

byte_nonzero : (b : ℕ) → is_outside b ≡ false → not (b == 0) ≡ true
byte_nonzero b inside = grind (arith, nat_tests)

inside_nonzero : (text : List ℕ) → list_any is_outside text ≡ false → has_no_zero text ≡ true
inside_nonzero [] inside = refl
inside_nonzero (b ∷ text) inside =
    let both = or_parts (is_outside b) (list_any is_outside text) inside in
    and_from _ _ (byte_nonzero b both.0) (inside_nonzero text both.1)

pub pattern_nonzero : (text : List ℕ) → IsPattern text → has_no_zero text ≡ true
pattern_nonzero text lawful = inside_nonzero text lawful.inside

slash_first : (text rest : List ℕ) → begins_with_slash text ≡ true → begins 47 (string text ++ rest) ≡ true
slash_first [] rest slash = absurd (cc)
slash_first (x ∷ text) rest slash = slash

pub pattern_first : (text rest : List ℕ) → IsPattern text → begins 47 (string text ++ rest) ≡ true
pattern_first text rest lawful = slash_first text rest lawful.slash

-- parts, a slash before each
abbrev spelled : List (List ℕ) → List ℕ
spelled parts = flat_map (λ part. 47 ∷ part) parts

-- parts with one slash between them, behind a slash, have a slash before each
joined : (parts : List (List ℕ)) → 0 < length parts → 47 ∷ join_with_byte 47 parts ≡ spelled parts
joined [] some = absurd (omega arith)
joined (part ∷ []) some = sym (append-nil (47 ∷ part))
joined (part ∷ next ∷ parts) some = ap (λ (l : List ℕ). (47 ∷ part) ++ l) (joined (next ∷ parts) (omega arith))

-- a text with a slash first is its parts
parts_again : (text : List ℕ) → begins_with_slash text ≡ true → text ≡ spelled (parts_of text)
parts_again [] slash = absurd (cc)
parts_again (x ∷ rest) slash =
    let first : x ≡ 47 = eqb-true x 47 slash in
    let many = length-slice_split is_slash rest in
    (λ i. first i ∷ rest) ∙ ap (λ (l : List ℕ). 47 ∷ l) (sym (join_with_byte-slice_split 47 rest)) ∙ joined (slice_split is_slash rest) (omega (arith, many))

-- a part ends within the whole
part_within : (before : List (List ℕ)) (part : List ℕ) (behind : List (List ℕ))
    → length (spelled before) + (1 + length part) ≤ length (spelled (before ++ part ∷ behind))
part_within [] part behind = omega (arith, length-append part (spelled behind))
part_within (first ∷ before) part behind =
    omega (arith, part_within before part behind, length-append first (spelled before), length-append first (spelled (before ++ part ∷ behind)))

open_within : (text : List ℕ) (at : ℕ) → begins_with_slash text ≡ true → IsOpenAt (parts_of text) at → at ≤ length text
open_within text at slash there =
    let items : List ℕ = flat_map item_text there.items in
    let part : List ℕ = items ++ there.first ∷ there.rest in
    let size : length part ≡ length items + suc (length there.rest) = length-append items (there.first ∷ there.rest) in
    let whole : length text ≡ length (spelled (there.before ++ part ∷ there.after)) =
    ap length (parts_again text slash) ∙ ap (λ (l : List (List ℕ)). length (spelled l)) there.cut in
    let within = part_within there.before part there.after in
    let place = there.place in
    omega arith

-- the fault of a pattern has its place in the pattern
pub pattern_fault_within : (text : List ℕ) (kind at : ℕ) → IsFault text kind at → at ≤ length text
pattern_fault_within text kind at (start slash) = omega arith
pattern_fault_within text kind at (byte place slash outside) =
    let found = cond_some _ _ _ outside in
    let below = ltb-true _ _ found.0 in
    let is = found.1 in
    omega arith
pattern_fault_within text kind at (unclosed place slash inside there) = open_within text place slash there
