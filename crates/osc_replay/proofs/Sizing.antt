-- How many messages a unit has.
use Rattle.std.proofs.Common.{ℕ, ◌*◌, ◌≤◌, List, [], ◌∷◌, length, arith}
use Rattle.osc_packet.specs.Units.{stored_size}

-- each message takes 4 bytes and more
pub messages_within : (messages : List (List ℕ)) → 4 * length messages ≤ stored_size messages
messages_within [] = omega arith
messages_within (message ∷ messages) = omega (arith, messages_within messages)
