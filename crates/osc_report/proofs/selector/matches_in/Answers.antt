use Rattle.std.proofs.Common.{◌≡◌, ◌≤◌, ◌<◌, ◌+◌, ◌==◌, ◌∷◌, ◌∙◌, ◌&&◌, [], length, true, false, sym, ap, arith, rules}
use Rattle.std.specs.List.{slice_split}
use Rattle.osc_pattern.specs.Items.{is_slash}
use Rattle.osc_pattern.specs.Patterns.{parts_of, part_at}
use Rattle.osc_pattern.specs.Reading.{match_part}
use Rattle.osc_report.specs.Selections.{is_short}
use Rattle.osc_report.proofs.Selecting.{none_left, first_fails, first_matches, ends}
use Rattle.osc_report.proofs.selector.matches_in.Goals as goal

pub returns-then-place-parts : goal.returns-then-place-parts
returns-then-place-parts g c =
    let parts = parts_of c.args.pattern.now in
    let first = c.first_name.ensures.first in
    let done : length parts ≤ c.loop-place.place = omega arith in
    sym (none_left parts c.loop-place.place (slice_split is_slash c.loop-place.rest.now) c.first_name.result.0.now first.0 done first.1)
    ∙ c.loop-place.invariant.same

pub returns-then-not-matches_name : goal.returns-then-not-matches_name
returns-then-not-matches_name g c =
    let parts = parts_of c.args.pattern.now in
    let first = c.first_name.ensures.first in
    let less : c.loop-place.place < length parts = omega arith in
    let fails : (is_short c.first_name.result.0.now && match_part (part_at c.args.pattern.now c.loop-place.place) c.first_name.result.0.now) ≡ false = search rules in
    sym (first_fails parts c.loop-place.place (slice_split is_slash c.loop-place.rest.now) c.first_name.result.0.now first.0 less first.1 fails)
    ∙ c.loop-place.invariant.same

pub loop-place-preserved : goal.loop-place-preserved
loop-place-preserved g c =
    let parts = parts_of c.args.pattern.now in
    let less : c.loop-place.place < length parts = omega arith in
    let name = c.first_name.result.0.now in
    let more : slice_split is_slash c.loop-place.rest.now ≡ name ∷ slice_split is_slash c.in-Some.more.now = search rules in
    let matches : (is_short name && match_part (part_at c.args.pattern.now c.loop-place.place) name) ≡ true = search rules in
    record {
      within = omega arith;
      same = sym (first_matches parts c.loop-place.place (slice_split is_slash c.loop-place.rest.now) name (slice_split is_slash c.in-Some.more.now) less more matches)
          ∙ c.loop-place.invariant.same;
    }

pub returns-in-None : goal.returns-in-None
returns-in-None g c =
    let parts = parts_of c.args.pattern.now in
    let less : c.loop-place.place < length parts = omega arith in
    let next : c.loop-place.place + 1 ≤ length parts = omega arith in
    let name = c.first_name.result.0.now in
    let last : slice_split is_slash c.loop-place.rest.now ≡ name ∷ [] = search rules in
    let matches : (is_short name && match_part (part_at c.args.pattern.now c.loop-place.place) name) ≡ true = search rules in
    ap (λ n. c.loop-place.place + 1 == n) c.parts-in-None.ensures.parts ∙ sym (ends parts (c.loop-place.place + 1) next)
    ∙ sym (first_matches parts c.loop-place.place (slice_split is_slash c.loop-place.rest.now) name [] less last matches)
    ∙ c.loop-place.invariant.same
