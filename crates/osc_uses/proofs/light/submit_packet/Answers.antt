use Rattle.std.proofs.Common.{◌≡◌, true, false, rules}
use Rattle.osc_atoms.specs.declared.limits.TheConstants.{MAX_PACKET}
use Rattle.osc_packet.specs.Reading.{is_packet}
use Rattle.osc_uses.proofs.ServedTurns.{a_packet, no_packet}
use Rattle.osc_uses.proofs.light.submit_packet.Goals as goal

pub returns-in-Ok : goal.returns-in-Ok
returns-in-Ok c =
    let is : is_packet MAX_PACKET c.args.datagram.now ≡ true = search rules in
    let alike : c.in-Ok.packet ≡ c.args.datagram.now = search rules in
    a_packet c.args.core.now.performance _ _ c.args.datagram.now is alike c.submit.ensures.performance

pub returns-in_default : goal.returns-in_default
returns-in_default c =
    let isnt : is_packet MAX_PACKET c.args.datagram.now ≡ false = search rules in
    no_packet c.args.core.now.performance c.args.datagram.now isnt
