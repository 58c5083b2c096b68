use Rattle.std.proofs.Common.{true, false, ◌≡◌, ◌≤◌, ◌+◌, ◌||◌, ◌&&◌, ℕ, Bool, List, ◌∷◌, length, take, drop, ◌-◌, refl, sym, ap, ◌∙◌, arith}
use Rattle.std.proofs.Math.ListN.{get_or}
use Rattle.std.specs.List.{list_any}
use Rattle.osc_pattern.specs.Views.{is_place_of, passes}
use Rattle.osc_pattern.specs.ReadyParts.{after_one, is_as}
use Rattle.osc_pattern.proofs.Reaches.{any_rest-none, any_rest-next, any_rest-byte, not_reached, other_byte, first_and_rest}
use Rattle.osc_pattern.proofs.Reaches.{drop-next}
use Rattle.osc_pattern.proofs.ReadOnce.{as_is}
use Rattle.osc_pattern.proofs.matcher.after_one.Goals.{then-has+then-has-within, else-has, else-has-via-then-has+else-has-within, else-has-via-else-has}
use Rattle.osc_pattern.proofs.matcher.after_one.Goals as goal

pub loop-rest-init : goal.loop-rest-init
loop-rest-init g c = (
  λ test. ap (λ t. t || passes (λ rest. list_any test (after_one (is_as c.args.bytes.now c.args.within) rest)) c.args.reached.now c.args.name.now)
      (any_rest-none test (is_place_of c.none-next.result) c.none-next.ensures 0 c.args.name.now),
  refl,
  omega arith,
  omega arith,
  omega arith,
)

pub loop-rest-preserved : goal.loop-rest-preserved
loop-rest-preserved g c =
    let own = is_as c.args.bytes.now c.args.within in
    let name = c.args.name.now in
    let place = c.loop-rest.place in
    let rest = c.loop-rest.rest.now in
    let byte = get_or rest 0 0 in
    let after = take (length rest - 1) (drop 1 rest) in
    let spelled : rest ≡ byte ∷ after = first_and_rest rest 0 c.in-len1-up.len_at_least in
    let left : drop (place + 1) name ≡ after = drop-next place name byte after (c.loop-rest.invariant.1 ∙ spelled) in
    let size = c.loop-rest.invariant.2 in
    let some = c.in-len1-up.len_at_least in
    let within : place + 1 ≤ length name = omega arith in
    let places = is_place_of c.args.reached.now in
    let here = places place in
    let before : (List ℕ → Bool) → Bool = λ test. passes test c.loop-rest.next name in
    let added : (test : List ℕ → Bool) → passes test c.if-has.next name ≡ (before test || (here && list_any test (after_one own (byte ∷ after)))) = λ test.
    elim c.if-has.branch [
      | then-has+then-has-within w ↦
          ap (λ p. passes test p name) w.next-is
          ∙ any_rest-byte (own byte) test (is_place_of c.loop-rest.next) (is_place_of w.add.new.self) here place name after left within
          (sym c.has.ensures ∙ w.if-has.true)
          (as_is c.args.bytes.now c.args.within byte w.has-then-has.result true w.has-then-has.ensures w.if-has-within.true) w.add.ensures
      | else-has w ↦
          ap (λ p. passes test p name) w.next-is
          ∙ elim w.else-has.branch [
            | else-has-via-then-has+else-has-within u ↦
                other_byte (own byte) test (before test) here after
                (as_is c.args.bytes.now c.args.within byte u.has-then-has.result false u.has-then-has.ensures
                u.if-has-within.false)
            | else-has-via-else-has u ↦ not_reached (before test) here _ (sym c.has.ensures ∙ u.if-has.false)
          ]
    ] in
    let ticked = c.tick.ensures in (
      λ test. any_rest-next (λ rest. list_any test (after_one own rest)) places place rest byte after (before test) _ _ spelled (c.loop-rest.invariant.0 test)
          (added test),
      left,
      omega arith,
      omega arith,
      omega arith,
    )
