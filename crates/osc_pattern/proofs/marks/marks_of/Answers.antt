use Rattle.std.proofs.Common.{refl, ◌∙◌, arith}
use Rattle.std.specs.Int.RustNames.{bit_or}
use Rattle.std.proofs.Common.{◌*◌, ◌^◌, ◌%◌}
use Rattle.std.proofs.Math.ListN.{get_or}
use Rattle.std.proofs.lemmas.List.{length-set}
use Rattle.osc_pattern.proofs.Moves.{marked-none, marked-next}
use Rattle.osc_pattern.proofs.marks.marks_of.Goals as goal

pub loop-place-init : goal.loop-place-init
loop-place-init c = (refl, marked-none c.args.name.now)

pub loop-place-preserved : goal.loop-place-preserved
loop-place-preserved c =
    let marks = c.loop-place.marks in
    let place = c.loop-place.place in
    let own = get_or c.args.name.now place 0 in
    let next = marked-next marks c.args.name.now own place c.loop-place.invariant.0
    (omega (arith, c.type_inv.name place)) (omega arith) refl c.loop-place.invariant.1 in (
      length-set marks own (bit_or (get_or marks own 0) (1 * 2 ^ place % 2 ^ 64)) ∙ c.loop-place.invariant.0,
      next,
    )
