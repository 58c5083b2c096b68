use Rattle.std.proofs.Common.{◌≡◌, ◌+◌, ◌-◌, ◌*◌, zero, suc, length, sym, ap, ◌∙◌, arith}
use Rattle.std.specs.List.{list_any}
use Rattle.osc_pattern.specs.Views.{is_place_of, passes}
use Rattle.osc_pattern.specs.Repeats.{after_times}
use Rattle.osc_pattern.proofs.Reaches.{rows_split, next_row}
use Rattle.osc_pattern.proofs.Repeats.{times_first, times_none, times_steady}
use Rattle.osc_pattern.proofs.matcher.after_many.Goals as goal

pub loop-left-init : goal.loop-left-init
loop-left-init g c = (
  λ test. ap (λ p. passes (λ rest. list_any test (after_times c.args.many.now.times c.args.many.now.unit.now rest)) p c.args.name.now) c.again-reached.ensures,
  omega arith,
  omega arith,
)

pub returns-then-is_same-clause-value : goal.returns-then-is_same-clause-value
returns-then-is_same-clause-value g c test =
    let name = c.args.name.now in
    let unit = c.args.many.now.unit.now in
    let same = c.is_same.ensures c.if-is_same.true in
    ap (λ p. passes test p name) same
    ∙ times_steady unit (is_place_of c.loop-left.reached) name
    (λ any. ap (λ p. passes any p name) (sym same) ∙ c.places_after_all-next.ensures.value any) c.loop-left.left test
    ∙ c.loop-left.invariant.0 test

pub loop-left-preserved : goal.loop-left-preserved
loop-left-preserved g c =
    let name = c.args.name.now in
    let unit = c.args.many.now.unit.now in
    let left = c.loop-left.left in
    let reached = c.loop-left.reached in
    let next : suc (left - 1) ≡ left = omega arith in
    let more = c.places_after_all-next.ensures.counted in
    let most = c.places_after_all-next.ensures.bounded in
    let last : left - 1 + 1 ≡ left = omega arith in
    let row : length unit + (left - 1) * length unit ≡ left * length unit
    = omega (arith, next_row (left - 1) (length unit), ap (λ n. n * length unit) last) in
    let rows = rows_split (length name + 1) (length unit) ((left - 1) * length unit) (left * length unit) row in
    let so_far = c.loop-left.invariant in (
      λ test.
          c.places_after_all-next.ensures.value (λ rest. list_any test (after_times (left - 1) unit rest))
          ∙ times_first test (left - 1) unit (is_place_of reached) name
          ∙ ap (λ n. passes (λ rest. list_any test (after_times n unit rest)) reached name) next
          ∙ so_far.0 test,
      omega arith,
      omega arith,
    )

pub returns-clause-value : goal.returns-clause-value
returns-clause-value g c test =
    let name = c.args.name.now in
    let unit = c.args.many.now.unit.now in
    let reached = c.loop-left.reached in
    let none : zero ≡ c.loop-left.left = omega arith in
    sym (times_none test unit (is_place_of reached) name)
    ∙ ap (λ n. passes (λ rest. list_any test (after_times n unit rest)) reached name) none
    ∙ c.loop-left.invariant.0 test
