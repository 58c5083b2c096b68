use Rattle.std.proofs.Common.{◌≡◌, ◌≤◌, length, ap, arith}
use Rattle.osc_packet.specs.Units.{TimedUnit, stored_size}
use Rattle.osc_packet.specs.Contents.{messages_of}
use Rattle.osc_packet.proofs.Bodies.{stored_small, count_stored}
use Rattle.osc_packet.proofs.unit.Unit.count.Goals as goal

pub loop-after-init : goal.loop-after-init
loop-after-init c =
    let same : length (messages_of c.self.inside.content) ≡ length c.args.self.now.messages = ap (λ (u : TimedUnit). length u.messages) c.self.view_is in
    let few : stored_size (messages_of c.self.inside.content) ≤ 65508 = stored_small c.self.inside.content c.self.invariant in
    record { sound = c.self.invariant; counted = omega arith; few = omega (arith, count_stored (messages_of c.self.inside.content)) }
