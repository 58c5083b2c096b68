use Rattle.std.proofs.Common.{◌≡◌, ◌≤◌, ap, arith}
use Rattle.osc_packet.specs.Units.{TimedUnit, stored_size}
use Rattle.osc_packet.specs.Contents.{messages_of}
use Rattle.osc_packet.proofs.Bodies.{stored_small}
use Rattle.osc_packet.proofs.unit.Unit.stored.Goals as goal

pub loop-message-init : goal.loop-message-init
loop-message-init c =
    let same : stored_size (messages_of c.self.inside.content) ≡ stored_size c.args.self.now.messages =
    ap (λ (u : TimedUnit). stored_size u.messages) c.self.view_is in
    let few : stored_size (messages_of c.self.inside.content) ≤ 65508 = stored_small c.self.inside.content c.self.invariant in
    record { sound = c.self.invariant; sized = omega arith; few = omega arith }
