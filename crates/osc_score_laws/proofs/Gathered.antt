-- What the laws of the lower crates give.
use Rattle.osc_atoms.specs.declared.limits.TheConstants.{MAX_PACKET}
use Rattle.std.proofs.Common.{◌≡◌, ◌↔◌, ◌<◌, ◌^◌, true, refl, ap, arith}
use Rattle.std.specs.Prelude.{is_none}
use Rattle.osc_packet.specs.Known.{OfMessages}
use Rattle.osc_packet.specs.Packets.{Packet, packet_text, IsValid}
use Rattle.osc_packet.specs.Reading.{is_packet}
use Rattle.osc_packet.proofs.Silent.{valid_silent}

pub small : MAX_PACKET < 2 ^ 32
small = omega arith

pub text_accepted : OfMessages → (packet : Packet) → IsValid MAX_PACKET packet → is_packet MAX_PACKET (packet_text packet) ≡ true
text_accepted messages packet valid =
    ap is_none (valid_silent messages MAX_PACKET (packet_text packet) small (record { packet = packet; valid = valid; spelled = refl }))

pub both : {A B C : Type 0} → (A ↔ B) → (B ↔ C) → (A ↔ C)
both one two = (λ a. two.0 (one.0 a), λ c. one.1 (two.1 c))
