use Rattle.std.proofs.Common.{◌<◌, ◌^◌, length, ap, inl, arith, rules}
use Rattle.osc_packet.proofs.packet.Packet.count.Goals as goal

pub count-requires-clause-fits : goal.count-requires-clause-fits
count-requires-clause-fits c = inl (omega (arith, ap length c.units.ensures.value, c.units.ensures.few))

pub overflow_cast-result : goal.overflow_cast-result
overflow_cast-result c =
    let few : c.count.result < 2 ^ 32 = omega (arith, c.count.ensures.bound, ap length c.units.ensures.value, c.units.ensures.few) in
    search rules
