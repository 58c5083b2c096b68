use Rattle.std.proofs.Common.{◌≡◌, ◌≤◌, ◌<◌, ◌+◌, ◌∷◌, [], true, false, cond, length, drop, All, ap, sym, subst, ◌∙◌, arith, rules}
use Rattle.std.specs.List.{slice_split}
use Rattle.std.proofs.lemmas.List.{length-drop}
use Rattle.std.proofs.lemmas.List.Elements.{All-drop, All-head, All-tail}
use Rattle.std.proofs.lemmas.List.Splits.{length-slice_split}
use Rattle.osc_pattern.specs.declared.limits.TheConstants.{MAX_NAME}
use Rattle.osc_pattern.specs.Items.{is_slash}
use Rattle.osc_pattern.specs.Reading.{match_part}
use Rattle.osc_pattern.specs.Patterns.{parts_of, part_at}
use Rattle.osc_tree.specs.Walking.{agreeing, spent}
use Rattle.osc_tree.proofs.Alike.{agree_here, spent_here, agree_from, spent_from, tried, agreeing_parts, agreeing_names, none_left, first_piece_is}
use Rattle.osc_tree.proofs.Fronts.{names_behind}
use Rattle.osc_tree.proofs.Walks.{whole_parts, whole_names, whole_ends}
use Rattle.std.specs.Prelude.{is_none}
use Rattle.osc_tree.proofs.Advances.{one_left}
use Rattle.osc_tree.proofs.agreement.count_matching.Goals as goal

pub overflow_cast-place : goal.overflow_cast-place
overflow_cast-place g c =
    omega (arith, agreeing_parts (parts_of c.args.pattern.now) (slice_split is_slash c.args.names.now), c.requires.known, c.requires.parts, c.requires.few)

pub loop-place-init : goal.loop-place-init
loop-place-init g c =
    let parts = parts_of c.args.pattern.now in
    let names = c.args.names.now in
    let known = c.args.known.names in
    let behind = names_behind names known c.args.known.bytes c.requires.cut in
    let most = agreeing_parts parts (slice_split is_slash names) in
    let within = agreeing_names parts (slice_split is_slash names) in
    let le = c.requires.known in
    record {
      bound = omega arith;
      short = subst (All (λ name. length name ≤ MAX_NAME)) (sym behind)
          (All-drop (λ name. length name ≤ MAX_NAME) known (slice_split is_slash names) c.requires.short);
      count = ap (λ l. known + agreeing (drop known parts) l) behind ∙ agree_from known parts (slice_split is_slash names) le;
      names = omega (arith, ap length behind, length-drop known (slice_split is_slash names));
      counted = omega arith;
      bounded = omega (arith, spent_from known parts (slice_split is_slash names), ap (spent 0 (drop known parts)) behind);
    }

pub matches_name-requires-clause-name : goal.matches_name-requires-clause-name
matches_name-requires-clause-name g c =
    let cut = first_piece_is c.loop-place.rest.now c.first_name.result.0.now c.first_name.result.1 c.first_name.ensures.names in
    All-head (λ name. length name ≤ MAX_NAME) c.first_name.result.0.now cut.0
    (subst (All (λ name. length name ≤ MAX_NAME)) cut.1 c.loop-place.invariant.short)

pub matches_name-requires-clause-found : goal.matches_name-requires-clause-found
matches_name-requires-clause-found g c = c.requires.found c.loop-place.place _ (omega (arith, c.requires.parts))

pub returns-then-not-matches_name-clause-count : goal.returns-then-not-matches_name-clause-count
returns-then-not-matches_name-clause-count g c =
    let pattern = c.args.pattern.now in
    let place = c.loop-place.place in
    let within : place < length (parts_of pattern) = omega (arith, c.requires.parts) in
    let cut = first_piece_is c.loop-place.rest.now c.first_name.result.0.now c.first_name.result.1 c.first_name.ensures.names in
    let no : match_part (part_at pattern place) c.first_name.result.0.now ≡ false = search rules in
    let here : agreeing (drop place (parts_of pattern)) (slice_split is_slash c.loop-place.rest.now) ≡ 0 =
    agree_here pattern place (slice_split is_slash c.loop-place.rest.now) c.first_name.result.0.now cut.0 within cut.1
    ∙ ap (λ t. cond t (agreeing (drop (place + 1) (parts_of pattern)) cut.0 + 1) 0) no in
    omega (arith, c.loop-place.invariant.count)

pub returns-then-not-matches_name-clause-bounded : goal.returns-then-not-matches_name-clause-bounded
returns-then-not-matches_name-clause-bounded g c =
    let pattern = c.args.pattern.now in
    let place = c.loop-place.place in
    let within : place < length (parts_of pattern) = omega (arith, c.requires.parts) in
    let cut = first_piece_is c.loop-place.rest.now c.first_name.result.0.now c.first_name.result.1 c.first_name.ensures.names in
    let here = spent_here pattern place 0 (slice_split is_slash c.loop-place.rest.now) c.first_name.result.0.now cut.0 within cut.1 in
    let most = tried (part_at pattern place) c.first_name.result.0.now (All-head (λ name. length name ≤ MAX_NAME) c.first_name.result.0.now _
    (subst (All (λ name. length name ≤ MAX_NAME)) cut.1 c.loop-place.invariant.short)) in
    omega (arith, c.loop-place.invariant.bounded, c.matches_name.ensures.bounded)

pub loop-place-preserved : goal.loop-place-preserved
loop-place-preserved g c =
    let pattern = c.args.pattern.now in
    let place = c.loop-place.place in
    let within : place < length (parts_of pattern) = omega (arith, c.requires.parts) in
    let cut : slice_split is_slash c.loop-place.rest.now ≡ c.first_name.result.0.now ∷ slice_split is_slash c.in-Some.more.now = search rules in
    let yes : match_part (part_at pattern place) c.first_name.result.0.now ≡ true = search rules in
    let here = agree_here pattern place (slice_split is_slash c.loop-place.rest.now) c.first_name.result.0.now
    (slice_split is_slash c.in-Some.more.now) within cut in
    let agree : agreeing (drop place (parts_of pattern)) (slice_split is_slash c.loop-place.rest.now)
    ≡ agreeing (drop (place + 1) (parts_of pattern)) (slice_split is_slash c.in-Some.more.now) + 1 =
    here ∙ ap (λ t. cond t (agreeing (drop (place + 1) (parts_of pattern)) (slice_split is_slash c.in-Some.more.now) + 1) 0) yes in
    let cost = spent_here pattern place 0 (slice_split is_slash c.loop-place.rest.now) c.first_name.result.0.now
    (slice_split is_slash c.in-Some.more.now) within cut in
    let most = tried (part_at pattern place) c.first_name.result.0.now (All-head (λ name. length name ≤ MAX_NAME) c.first_name.result.0.now _
    (subst (All (λ name. length name ≤ MAX_NAME)) cut c.loop-place.invariant.short)) in
    record {
      bound = omega arith;
      short = All-tail (λ name. length name ≤ MAX_NAME) c.first_name.result.0.now (slice_split is_slash c.in-Some.more.now)
          (subst (All (λ name. length name ≤ MAX_NAME)) cut c.loop-place.invariant.short);
      count = omega (arith, c.loop-place.invariant.count);
      names = omega (arith, c.loop-place.invariant.names, ap length cut);
      counted = omega (arith, c.loop-place.invariant.counted, c.matches_name.ensures.counted);
      bounded = omega (arith, c.loop-place.invariant.bounded, c.matches_name.ensures.bounded);
    }

pub returns-in-None-clause-count : goal.returns-in-None-clause-count
returns-in-None-clause-count g c =
    let pattern = c.args.pattern.now in
    let place = c.loop-place.place in
    let within : place < length (parts_of pattern) = omega (arith, c.requires.parts) in
    let cut : slice_split is_slash c.loop-place.rest.now ≡ c.first_name.result.0.now ∷ [] = search rules in
    let yes : match_part (part_at pattern place) c.first_name.result.0.now ≡ true = search rules in
    let agree : agreeing (drop place (parts_of pattern)) (slice_split is_slash c.loop-place.rest.now) ≡ agreeing (drop (place + 1) (parts_of pattern)) [] + 1 =
    agree_here pattern place (slice_split is_slash c.loop-place.rest.now) c.first_name.result.0.now [] within cut
    ∙ ap (λ t. cond t (agreeing (drop (place + 1) (parts_of pattern)) [] + 1) 0) yes in
    omega (arith, c.loop-place.invariant.count, none_left (drop (place + 1) (parts_of pattern)))

pub returns-in-None-clause-bounded : goal.returns-in-None-clause-bounded
returns-in-None-clause-bounded g c =
    let pattern = c.args.pattern.now in
    let place = c.loop-place.place in
    let within : place < length (parts_of pattern) = omega (arith, c.requires.parts) in
    let cut : slice_split is_slash c.loop-place.rest.now ≡ c.first_name.result.0.now ∷ [] = search rules in
    let cost = spent_here pattern place 0 (slice_split is_slash c.loop-place.rest.now) c.first_name.result.0.now [] within cut in
    let most = tried (part_at pattern place) c.first_name.result.0.now (All-head (λ name. length name ≤ MAX_NAME) c.first_name.result.0.now []
    (subst (All (λ name. length name ≤ MAX_NAME)) cut c.loop-place.invariant.short)) in
    omega (arith, c.loop-place.invariant.bounded, c.matches_name.ensures.bounded)

pub returns-then-not-matches_name-clause-whole : goal.returns-then-not-matches_name-clause-whole
returns-then-not-matches_name-clause-whole g c =
    whole_parts c.loop-place.place c.args.parts (length (slice_split is_slash c.args.names.now)) (omega arith)

pub returns-in-None-clause-whole : goal.returns-in-None-clause-whole
returns-in-None-clause-whole g c =
    let cut : slice_split is_slash c.loop-place.rest.now ≡ c.first_name.result.0.now ∷ [] = search rules in
    c.ended.ensures.whole
    ∙ whole_ends c.ended.result.matching c.args.parts (length (slice_split is_slash c.args.names.now))
    (omega (arith, c.ended.ensures.count, c.loop-place.invariant.names, ap length cut))

pub returns-clause-whole : goal.returns-clause-whole
returns-clause-whole g c =
    whole_names c.loop-place.place c.args.parts (length (slice_split is_slash c.args.names.now))
    (omega (arith, c.loop-place.invariant.names, length-slice_split is_slash c.loop-place.rest.now))

pub returns-then-not-matches_name-clause-last : goal.returns-then-not-matches_name-clause-last
returns-then-not-matches_name-clause-last g c =
    λ last. (let none : is_none c.first_name.result.1 ≡ true = search rules in
    let one = one_left c.loop-place.rest.now c.first_name.result.0.now c.first_name.result.1 none c.first_name.ensures.names in
    omega (arith, c.loop-place.invariant.names))
