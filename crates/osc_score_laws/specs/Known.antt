-- Inside the crate: what the laws of the lower crates say, as one.
use Rattle.osc_atoms.specs.declared.limits.TheConstants.{MAX_PACKET}
use Rattle.std.specs.Prelude.{◌≡◌, ◌↔◌, ℕ, true, IsTrue, List, map, Some, None}
use Rattle.osc_message.specs.Messages.{Argument, tag_of, known, message_text, IsLawful}
use Rattle.osc_message.specs.Reading.{pattern_of}
use Rattle.osc_message.specs.Arguments.{tags_of, unknown_of, message_arguments}
use Rattle.osc_packet.specs.Packets.{Packet, packet_text, IsValid}
use Rattle.osc_packet.specs.Units.{units_of}
use Rattle.osc_packet.specs.Reading.{is_packet, units_read}
use Rattle.osc_pattern.specs.Addresses.{IsAddress, is_address}
use Rattle.osc_pattern.specs.Patterns.{IsPattern, matches}

-- a message is read as its pattern, its tags and its arguments
pub record IsReadAs (bytes pattern : List ℕ) (arguments : List Argument) : Type 0 where
  pub pattern_is : pattern_of bytes ≡ pattern
  pub tags_are : tags_of bytes ≡ Some (map tag_of arguments)
  pub arguments_are : message_arguments bytes ≡ arguments
  pub all_known : unknown_of bytes ≡ None

pub record Known : Type 0 where
  pub accepted : (packet : Packet) → IsValid MAX_PACKET packet
      → is_packet MAX_PACKET (packet_text packet) ≡ true
  pub units : (packet : Packet) → IsValid MAX_PACKET packet
      → units_read (packet_text packet) ≡ units_of packet
  pub message : (pattern : List ℕ) (arguments : List Argument) → IsLawful (known pattern arguments)
      → IsReadAs (message_text (known pattern arguments)) pattern arguments
  pub spelled : (address : List ℕ) → IsAddress address → IsTrue (is_address address)
  pub pattern : (address : List ℕ) → IsAddress address → IsPattern address
  pub itself : (address other : List ℕ) → IsAddress address → IsAddress other
      → (IsTrue (matches address other) ↔ (address ≡ other))
