-- Units: the messages that are released together, and when.
use Rattle.std.specs.Prelude.{ℕ, ◌+◌, ◌/◌, List, [], ◌∷◌, ◌++◌, length, Option, Some, None, ◌-◌}
use Rattle.osc_message.specs.Messages.{message_text}
use Rattle.osc_packet.specs.Packets.{Packet, Elements, message, bundle, none, more, effective_tag}

-- a unit: its effective tag, and the bytes of its messages in the order of the packet
pub record TimedUnit : Type 0 where
  pub tag : ℕ
  pub messages : List (List ℕ)

-- the messages of a bundle itself, in order
abbrev pub own_messages : Elements → List (List ℕ)
own_messages none = []
own_messages (more (message form) elements) = message_text form ∷ own_messages elements
own_messages (more (bundle own inner) elements) = own_messages elements

-- a bundle's unit is its own messages under its effective tag; the units of the bundles that it
-- encloses follow, in order
abbrev mutual
  pub bundle_units : Option ℕ → Packet → List TimedUnit
  bundle_units outer (message form) = []
  bundle_units outer (bundle own elements) =
      record { tag = effective_tag outer own; messages = own_messages elements }
      ∷ enclosed_units (effective_tag outer own) elements

  pub enclosed_units : ℕ → Elements → List TimedUnit
  enclosed_units outer none = []
  enclosed_units outer (more packet elements) =
      bundle_units (Some outer) packet ++ enclosed_units outer elements

-- the units of a packet; a message alone is a unit of tag 1, "immediately"
abbrev pub units_of : Packet → List TimedUnit
units_of (message form) = record { tag = 1; messages = message_text form ∷ [] } ∷ []
units_of (bundle own elements) = bundle_units None (bundle own elements)

-- the bytes that messages take where they are kept, each after its size
abbrev pub stored_size : List (List ℕ) → ℕ
stored_size [] = 0
stored_size (bytes ∷ messages) = 4 + length bytes + stored_size messages

-- how many bytes a block of room for messages has
abbrev pub block_size : ℕ
block_size = 64

-- the blocks that a unit takes
abbrev pub blocks : TimedUnit → ℕ
blocks unit = (stored_size unit.messages + (block_size - 1)) / block_size

-- the blocks that units take, each of which begins one
abbrev pub blocks_of : List TimedUnit → ℕ
blocks_of [] = 0
blocks_of (unit ∷ units) = blocks unit + blocks_of units
