use Rattle.std.proofs.Common.{◌||◌, ◌-◌, length, take, drop, ap, sym, ◌∙◌, arith}
use Rattle.std.specs.List.{slice_split}
use Rattle.osc_pattern.specs.Items.{is_comma}
use Rattle.osc_pattern.specs.Views.{is_place_of, passes, texts_left}
use Rattle.osc_pattern.proofs.Reaches.{any_rest-none, first_and_rest, no_rest}
use Rattle.osc_pattern.proofs.Moves.{any_rest-joined, choice_start, choice_end}
use Rattle.osc_pattern.proofs.matcher.after_choice.Goals as goal

pub loop-texts-init : goal.loop-texts-init
loop-texts-init g c =
    let all = is_place_of c.args.reached.now in
    let texts = c.args.texts.now in (
      λ name test short marked.
          c.try_eights-texts.ensures.value name test short marked
          ∙ ap (λ p. passes test c.none-next.result name || texts_left test (is_place_of p) all (slice_split is_comma texts) name) c.again-places.ensures
          ∙ choice_start test all texts name (passes test c.none-next.result name)
          (any_rest-none test (is_place_of c.none-next.result) c.none-next.ensures 0 name),
      omega arith,
      omega arith,
    )

pub returns-clause-value : goal.returns-clause-value
returns-clause-value g c name test short marked =
    let places = is_place_of c.loop-texts.places in
    let next = is_place_of c.loop-texts.next in
    choice_end test places (is_place_of c.args.reached.now) c.loop-texts.texts.now name (passes test c.loop-texts.next name)
    (passes test c.join.new.self name) _ (no_rest c.loop-texts.texts.now c.in_default.len_below)
    (any_rest-joined test places next (is_place_of c.join.new.self) c.join.ensures 0 name) (c.loop-texts.invariant.0 name test short marked)

pub loop-texts-preserved : goal.loop-texts-preserved
loop-texts-preserved g c =
    let texts = c.loop-texts.texts.now in
    let others = take (length texts - 1) (drop 1 texts) in
    let spelled = first_and_rest texts 0 c.in-len1-up.len_at_least in
    let all = is_place_of c.args.reached.now in
    let places = is_place_of c.loop-texts.places in
    let next = c.loop-texts.next in
    let size = ap length spelled in
    let so_far = c.loop-texts.invariant in (
      λ name test short marked.
          c.try_byte.ensures.value name others test short marked
          ∙ sym (ap (λ xs. passes test next name || texts_left test places all (slice_split is_comma xs) name) spelled)
          ∙ so_far.0 name test short marked,
      omega (arith, c.try_byte.ensures.counted),
      omega (arith, size, c.try_byte.ensures.counted),
    )
