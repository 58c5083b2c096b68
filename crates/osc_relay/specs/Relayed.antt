-- Messages that are sent on to another address.
use Rattle.std.specs.Prelude.{ℕ, List, ◌++◌, length, drop, nat_le, if◌then◌else◌, Option, Some}
use Rattle.std.specs.Prelude.{None}
use Rattle.osc_atoms.specs.Atoms.{string}
use Rattle.osc_message.specs.Messages.{Form, bare, known, unknown}
use Rattle.osc_message.specs.Reading.{pattern_of}

-- what follows the pattern of a message: its tag string and its arguments
abbrev pub after_pattern : List ℕ → List ℕ
after_pattern message = drop (length (string (pattern_of message))) message

-- a message with an address in place of its pattern
abbrev pub relayed : List ℕ → List ℕ → List ℕ
relayed address message = string address ++ after_pattern message

-- the form of a message with another pattern
abbrev pub to_address : List ℕ → Form → Form
to_address address (bare pattern) = bare address
to_address address (known pattern arguments) = known address arguments
to_address address (unknown pattern tags rest) = unknown address tags rest

-- a datagram that has room, or none
abbrev pub within : ℕ → List ℕ → Option (List ℕ)
within room datagram = if nat_le (length datagram) room then Some datagram else None
