use Rattle.std.proofs.Common.{false, sym, ap, ◌∙◌, arith}
use Rattle.std.specs.List.{list_any}
use Rattle.osc_pattern.specs.Cuts.{after_item}
use Rattle.osc_pattern.specs.Views.{is_place_of, passes}
use Rattle.osc_pattern.specs.Repeats.{after_part}
use Rattle.osc_pattern.proofs.Reaches.{any_rest-none, any_rest-never, any_rest-same}
use Rattle.osc_pattern.proofs.Repeats.{part_first, part_end, part_stuck}
use Rattle.osc_pattern.proofs.matcher.places_after_all.Goals as goal

pub loop-next-init : goal.loop-next-init
loop-next-init g c = (
  λ test. ap (λ p. passes (λ rest. list_any test (after_part c.args.items.now rest)) p c.args.name.now) c.again-reached.ensures,
  omega arith,
  omega arith,
)

pub loop-next-preserved : goal.loop-next-preserved
loop-next-preserved g c =
    let items = c.loop-next.items.now in
    let others = c.in-Some.others.now in
    let name = c.args.name.now in
    let after = c.in-Some.ensures.value in
    let so_far = c.loop-next.invariant in (
      λ test.
          after.2 (λ left. list_any test (after_part others left))
          ∙ any_rest-same (λ rest. list_any (λ left. list_any test (after_part others left)) (after_item after.0 rest))
          (λ rest. list_any test (after_part items rest))
          (λ rest. sym (part_first test items after.0 others rest after.1)) (is_place_of c.loop-next.reached) 0 name
          ∙ so_far.0 test,
      omega (arith, c.in-Some.ensures.counted),
      omega (arith, c.in-Some.ensures.size),
    )

pub returns-then-is_empty-clause-value : goal.returns-then-is_empty-clause-value
returns-then-is_empty-clause-value g c test =
    let items = c.loop-next.items.now in
    let empty = sym c.is_empty.ensures ∙ c.if-is_empty.true in
    sym (any_rest-same (λ rest. list_any test (after_part items rest)) test (λ rest. part_end test items rest empty)
    (is_place_of c.loop-next.reached) 0 c.args.name.now)
    ∙ c.loop-next.invariant.0 test

pub returns-clause-value : goal.returns-clause-value
returns-clause-value g c test =
    let items = c.loop-next.items.now in
    let name = c.args.name.now in
    let places = is_place_of c.loop-next.reached in
    let filled = sym c.is_empty.ensures ∙ c.if-is_empty.false in
    any_rest-none test (is_place_of c.none.result) c.none.ensures 0 name
    ∙ sym (any_rest-never places 0 name)
    ∙ sym (any_rest-same (λ rest. list_any test (after_part items rest)) (λ rest. false)
    (λ rest. part_stuck test items rest c.in_default.ensures.value filled) places 0 name)
    ∙ c.loop-next.invariant.0 test
