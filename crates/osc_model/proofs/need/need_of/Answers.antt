use Rattle.std.proofs.Common.{List, [], ◌∷◌, refl, sym, ap, arith}
use Rattle.osc_packet.specs.Reading.{units_read}
use Rattle.osc_packet.specs.Units.{TimedUnit, blocks_of}
use Rattle.osc_model.specs.Step.{kept}
use Rattle.osc_model.proofs.Blocks.{valid_few}
use Rattle.osc_model.proofs.Queues.{kept_few}
use Rattle.osc_model.proofs.Needs.{places_fit, blocks_fit}
use Rattle.osc_model.proofs.need.need_of.Goals as goal

pub with_unit-need-requires-clause-places : goal.with_unit-need-requires-clause-places
with_unit-need-requires-clause-places c =
    places_fit c.args.late c.args.clock c.loop-unit.need.places c.in-Some-unit.unit c.next.new.self c.loop-unit.unit-iterator (units_read c.args.packet.now)
    c.in-Some-unit.ensures.steps c.loop-unit.invariant.places c.units-unit-items.ensures.few

pub with_unit-need-requires-clause-blocks : goal.with_unit-need-requires-clause-blocks
with_unit-need-requires-clause-blocks c =
    blocks_fit c.args.late c.args.clock c.loop-unit.need.blocks c.in-Some-unit.unit c.next.new.self c.loop-unit.unit-iterator (units_read c.args.packet.now)
    c.in-Some-unit.ensures.steps c.loop-unit.invariant.blocks (omega (arith, valid_few c.args.packet.now c.bytes.ensures.read))

pub with_unit-requires-clause-blocks : goal.with_unit-requires-clause-blocks
with_unit-requires-clause-blocks c =
    let all = units_read c.args.packet.now in
    blocks_fit c.args.late c.args.clock 0 c.in-Some.unit [] (c.in-Some.unit ∷ []) all
    refl (omega (arith, ap (λ (units : List TimedUnit). blocks_of (kept c.args.late c.args.clock units)) (sym c.in-Some.ensures.only)))
    (omega (arith, valid_few c.args.packet.now c.bytes.ensures.read))

pub returns-clause-few : goal.returns-clause-few
returns-clause-few c = omega (arith, c.loop-unit.invariant.places, kept_few c.args.late c.args.clock (units_read c.args.packet.now))
