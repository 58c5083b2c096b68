use Rattle.std.proofs.Common.{◌||◌, ◌∷◌, ◌++◌, [], ◌-◌, length, take, drop, refl, ap, ◌∙◌, arith}
use Rattle.std.specs.List.{slice_split, list_any, flat_map}
use Rattle.std.proofs.Math.ListN.{get_or}
use Rattle.osc_pattern.specs.Items.{is_comma}
use Rattle.osc_pattern.specs.Cuts.{after_text}
use Rattle.osc_pattern.specs.Views.{is_place_of, passes, texts_left}
use Rattle.osc_pattern.proofs.Reaches.{any_rest-none, first_and_rest, no_rest}
use Rattle.osc_pattern.proofs.Moves.{any_rest-joined, choice_start, choice_end}
use Rattle.osc_pattern.proofs.Repeats.{no_end, choice_found, moved_on, none_after, still_none}
use Rattle.osc_pattern.proofs.matcher.after_texts.Goals as goal

pub loop-rest-init : goal.loop-rest-init
loop-rest-init g c =
    let all = is_place_of c.args.reached.now in (
      [],
      refl,
      refl,
      λ name others test short marked.
          ap (λ p. passes test c.none-next.result name || texts_left test (is_place_of p) all (slice_split is_comma others) name) c.again-places.ensures
          ∙ choice_start test all others name (passes test c.none-next.result name)
          (any_rest-none test (is_place_of c.none-next.result) c.none-next.ensures 0 name),
      omega arith,
      omega arith,
    )

pub returns-in_default-clause-value : goal.returns-in_default-clause-value
returns-in_default-clause-value g c =
    let so_far = c.loop-rest.invariant in
    no_end c.args.texts.now so_far.0 c.loop-rest.rest.now so_far.1 (no_rest c.loop-rest.rest.now c.in_default.len_below) so_far.2

pub returns-then-byte-eq125-clause-value : goal.returns-then-byte-eq125-clause-value
returns-then-byte-eq125-clause-value g c =
    let so_far = c.loop-rest.invariant in
    let front = so_far.0 in
    let rest = c.loop-rest.rest.now in
    let others = take (length rest - 1) (drop 1 rest) in
    let all = is_place_of c.args.reached.now in
    let places = is_place_of c.loop-rest.places in
    let next = is_place_of c.loop-rest.next in (
      front,
      choice_found c.args.texts.now front rest others (get_or rest 0 0) so_far.1 (first_and_rest rest 0 c.in-len1-up.len_at_least)
          c.if-byte-eq125.true so_far.2,
      λ name test short marked.
          choice_end test places all [] name (passes test c.loop-rest.next name) (passes test c.join.new.self name) _ refl
          (any_rest-joined test places next (is_place_of c.join.new.self) c.join.ensures 0 name) (so_far.3 name [] test short marked)
          ∙ ap (λ xs. passes (λ left. list_any test (flat_map (after_text left) (slice_split is_comma xs))) c.args.reached.now name) (none_after front),
    )

pub loop-rest-preserved : goal.loop-rest-preserved
loop-rest-preserved g c =
    let so_far = c.loop-rest.invariant in
    let front = so_far.0 in
    let rest = c.loop-rest.rest.now in
    let byte = get_or rest 0 0 in
    let left = take (length rest - 1) (drop 1 rest) in
    let spelled = first_and_rest rest 0 c.in-len1-up.len_at_least in
    let size = ap length spelled in (
      front ++ byte ∷ [],
      so_far.1 ∙ ap (λ xs. front ++ xs) spelled ∙ moved_on front byte left,
      still_none front byte so_far.2 c.if-byte-eq125.false,
      λ name others test short marked.
          c.try_byte.ensures.value name others test short marked
          ∙ so_far.3 name (byte ∷ others) test short marked
          ∙ ap (λ xs. passes (λ left. list_any test (flat_map (after_text left) (slice_split is_comma xs))) c.args.reached.now name)
          (moved_on front byte others),
      omega (arith, c.try_byte.ensures.counted),
      omega (arith, size, c.try_byte.ensures.counted),
    )
