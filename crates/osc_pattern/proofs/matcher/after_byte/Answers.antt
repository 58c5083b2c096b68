use Rattle.std.proofs.Common.{◌≡◌, ◌≤◌, ◌+◌, ◌||◌, ◌&&◌, ℕ, Bool, List, ◌∷◌, length, take, drop, ◌-◌, refl, sym, ap, ◌∙◌, arith}
use Rattle.std.proofs.Math.ListN.{get_or}
use Rattle.std.specs.List.{list_any}
use Rattle.osc_pattern.specs.Items.{item_text}
use Rattle.osc_pattern.specs.Cuts.{has_byte, after_byte}
use Rattle.osc_pattern.specs.Views.{item_of, is_place_of, passes}
use Rattle.osc_pattern.proofs.Reaches.{any_rest-none, any_rest-next, any_rest-byte, not_reached, other_byte, next_row, first_and_rest}
use Rattle.osc_pattern.proofs.Reaches.{drop-next}
use Rattle.osc_pattern.proofs.matcher.after_byte.Goals.{then-has+then-has_byte, else-has, else-has-via-then-has+else-has_byte, else-has-via-else-has}
use Rattle.osc_pattern.proofs.matcher.after_byte.Goals as goal
use Rattle.osc_pattern.proofs.Readings.{item_text-long}

pub loop-rest-init : goal.loop-rest-init
loop-rest-init g c = (
  λ test. ap (λ t. t || passes (λ rest. list_any test (after_byte (item_of c.args.item) rest)) c.args.reached.now c.args.name.now)
      (any_rest-none test (is_place_of c.none-next.result) c.none-next.ensures 0 c.args.name.now),
  refl,
  omega arith,
  omega arith,
  omega arith,
)

pub loop-rest-preserved : goal.loop-rest-preserved
loop-rest-preserved g c =
    let item = item_of c.args.item in
    let name = c.args.name.now in
    let place = c.loop-rest.place in
    let rest = c.loop-rest.rest.now in
    let byte = get_or rest 0 0 in
    let after = take (length rest - 1) (drop 1 rest) in
    let spelled : rest ≡ byte ∷ after = first_and_rest rest 0 c.in-len1-up.len_at_least in
    let left : drop (place + 1) name ≡ after = drop-next place name byte after (c.loop-rest.invariant.1 ∙ spelled) in
    let size = c.loop-rest.invariant.2 in
    let some = c.in-len1-up.len_at_least in
    let within : place + 1 ≤ length name = omega arith in
    let places = is_place_of c.args.reached.now in
    let here = places place in
    let before : (List ℕ → Bool) → Bool = λ test. passes test c.loop-rest.next name in
    let added : (test : List ℕ → Bool) → passes test c.if-has.next name ≡ (before test || (here && list_any test (after_byte item (byte ∷ after)))) = λ test.
    elim c.if-has.branch [
      | then-has+then-has_byte w ↦
          ap (λ p. passes test p name) w.next-is
          ∙ any_rest-byte (has_byte item byte) test (is_place_of c.loop-rest.next) (is_place_of w.add.new.self) here place name after left within
          (sym c.has.ensures ∙ w.if-has.true) (sym w.has_byte.ensures.value ∙ w.if-has_byte.true) w.add.ensures
      | else-has w ↦
          ap (λ p. passes test p name) w.next-is
          ∙ elim w.else-has.branch [
            | else-has-via-then-has+else-has_byte u ↦
                other_byte (has_byte item byte) test (before test) here after (sym u.has_byte.ensures.value ∙ u.if-has_byte.false)
            | else-has-via-else-has u ↦ not_reached (before test) here _ (sym c.has.ensures ∙ u.if-has.false)
          ]
    ] in
    let ticked = c.tick.ensures in
    let some_text = item_text-long item in
    let spent : (c.loop-rest.steps ≤ c.if-has.steps) × (c.if-has.steps ≤ c.loop-rest.steps + length (item_text item)) =
    elim c.if-has.branch [
      | then-has+then-has_byte w ↦
          let is = w.steps-is in
          let more = w.has_byte.ensures.counted in
          let most = w.has_byte.ensures.bounded in (omega arith, omega arith)
      | else-has w ↦
          let is = w.steps-is in
          elim w.else-has.branch [
            | else-has-via-then-has+else-has_byte u ↦
                let same = u.steps-is in
                let more = u.has_byte.ensures.counted in
                let most = u.has_byte.ensures.bounded in (omega arith, omega arith)
            | else-has-via-else-has u ↦ let same = u.steps-is in (omega arith, omega arith)
          ]
    ] in
    let rows = next_row place (length (item_text item)) in (
      λ test. any_rest-next (λ rest. list_any test (after_byte item rest)) places place rest byte after (before test) _ _ spelled (c.loop-rest.invariant.0 test)
          (added test),
      left,
      omega arith,
      omega arith,
      omega arith,
    )
