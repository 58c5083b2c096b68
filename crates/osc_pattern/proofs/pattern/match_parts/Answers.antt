use Rattle.std.proofs.Common.{◌≡◌, ◌≤◌, ◌+◌, ◌∷◌, [], ◌∙◌, length, sym, arith, rules}
use Rattle.std.specs.List.{slice_split}
use Rattle.osc_pattern.specs.Items.{is_slash}
use Rattle.osc_pattern.proofs.Parts.{names_ended, parts_ended, piece_within, part_steps}
use Rattle.osc_pattern.proofs.pattern.match_parts.Goals as goal

pub returns-in_default-clause-value : goal.returns-in_default-clause-value
returns-in_default-clause-value g c =
    let parts = c.loop-other_parts.parts.now in
    let names = c.loop-other_parts.names.now in
    let more : slice_split is_slash parts ≡ c.first_piece.result.0.now ∷ slice_split is_slash c.in_default.field-0-0.now = search rules in
    let last : slice_split is_slash names ≡ c.first_piece-in-loop-other_parts.result.0.now ∷ [] = search rules in
    sym (names_ended parts names _ c.in_default.field-0-0.now _ more last) ∙ c.loop-other_parts.invariant.0

pub returns-in_default-2-clause-value : goal.returns-in_default-2-clause-value
returns-in_default-2-clause-value g c =
    let parts = c.loop-other_parts.parts.now in
    let names = c.loop-other_parts.names.now in
    let last : slice_split is_slash parts ≡ c.first_piece.result.0.now ∷ [] = search rules in
    let more : slice_split is_slash names ≡ c.first_piece-in-loop-other_parts.result.0.now ∷ slice_split is_slash c.in_default.field-0-1.now = search rules in
    sym (parts_ended parts names _ c.in_default.field-0-1.now _ last more) ∙ c.loop-other_parts.invariant.0

pub returns-then-not-match_part-clause-bounded : goal.returns-then-not-match_part-clause-bounded
returns-then-not-match_part-clause-bounded g c =
    let part = c.first_piece.result.0.now in
    let name = c.first_piece-in-loop-other_parts.result.0.now in
    let short : length name ≤ 63 = search rules in
    let within = piece_within c.first_piece.result.1 (length part) (length c.loop-other_parts.parts.now) c.first_piece.ensures.size in
    let spent = part_steps (length name) (length part) short in
    let most = c.match_part.ensures.bounded in
    let so_far = c.loop-other_parts.invariant in omega arith

pub returns-in-None-None-clause-bounded : goal.returns-in-None-None-clause-bounded
returns-in-None-None-clause-bounded g c =
    let part = c.first_piece.result.0.now in
    let name = c.first_piece-in-loop-other_parts.result.0.now in
    let short : length name ≤ 63 = search rules in
    let within = piece_within c.first_piece.result.1 (length part) (length c.loop-other_parts.parts.now) c.first_piece.ensures.size in
    let spent = part_steps (length name) (length part) short in
    let most = c.match_part.ensures.bounded in
    let so_far = c.loop-other_parts.invariant in omega arith

pub returns-in_default-clause-bounded : goal.returns-in_default-clause-bounded
returns-in_default-clause-bounded g c =
    let part = c.first_piece.result.0.now in
    let name = c.first_piece-in-loop-other_parts.result.0.now in
    let short : length name ≤ 63 = search rules in
    let within = piece_within c.first_piece.result.1 (length part) (length c.loop-other_parts.parts.now) c.first_piece.ensures.size in
    let spent = part_steps (length name) (length part) short in
    let most = c.match_part.ensures.bounded in
    let so_far = c.loop-other_parts.invariant in omega arith

pub returns-in_default-2-clause-bounded : goal.returns-in_default-2-clause-bounded
returns-in_default-2-clause-bounded g c =
    let part = c.first_piece.result.0.now in
    let name = c.first_piece-in-loop-other_parts.result.0.now in
    let short : length name ≤ 63 = search rules in
    let within = piece_within c.first_piece.result.1 (length part) (length c.loop-other_parts.parts.now) c.first_piece.ensures.size in
    let spent = part_steps (length name) (length part) short in
    let most = c.match_part.ensures.bounded in
    let so_far = c.loop-other_parts.invariant in omega arith

pub loop-other_parts-preserved : goal.loop-other_parts-preserved
loop-other_parts-preserved g c =
    let part = c.first_piece.result.0.now in
    let name = c.first_piece-in-loop-other_parts.result.0.now in
    let short : length name ≤ 63 = search rules in
    let size : length part + (1 + length c.in-Some-Some.more_parts.now) ≡ length c.loop-other_parts.parts.now = search rules in
    let spent = part_steps (length name) (length part) short in
    let most = c.match_part.ensures.bounded in
    let more = c.match_part.ensures.begun in
    let so_far = c.loop-other_parts.invariant in (
      search rules,
      omega arith,
      search rules,
      omega arith,
    )
