-- Inside the crate: how messages are kept in a list of bytes: each after its length in 4 bytes.
use Rattle.osc_packet.specs.declared.limits.TheConstants.{MAX_STORED}
use Rattle.osc_atoms.specs.declared.limits.TheConstants.{MAX_BYTES}
use Rattle.std.specs.Prelude.{◌≡◌, ℕ, zero, suc, ◌+◌, ◌≤◌, IsTrue, List, [], ◌∷◌, ◌++◌}
use Rattle.std.specs.Prelude.{length, take, drop}
use Rattle.std.specs.List.{list_all}
use Rattle.std.specs.Int.{w32, from_be_bytes}
use Rattle.osc_atoms.specs.Atoms.{word}
use Rattle.osc_message.specs.Reading.{is_message}

-- messages, each after its length
abbrev pub framed : List (List ℕ) → List ℕ
framed [] = []
framed (message ∷ messages) = word (length message) ++ (message ++ framed messages)

-- the length that the bytes begin with
abbrev pub first_length : List ℕ → ℕ
first_length bytes = from_be_bytes w32 (take 4 bytes)

-- the first message, and what follows it
abbrev pub first_framed : List ℕ → List ℕ
first_framed bytes = take (first_length bytes) (drop 4 bytes)

abbrev pub after_framed : List ℕ → List ℕ
after_framed bytes = drop (first_length bytes) (drop 4 bytes)

-- the bytes begin with a message after its length
abbrev pub BeginsFramed : List ℕ → Type 0
BeginsFramed bytes = (4 + first_length bytes ≤ length bytes)
    × IsTrue (is_message MAX_BYTES (first_framed bytes))

-- the messages of bytes, at most so many
abbrev pub messages_from : ℕ → List ℕ → List (List ℕ)
messages_from most [] = []
messages_from zero (byte ∷ bytes) = []
messages_from (suc most) (byte ∷ bytes) =
    first_framed (byte ∷ bytes) ∷ messages_from most (after_framed (byte ∷ bytes))

-- all of them, each of which has a byte at least
abbrev pub messages_in : List ℕ → List (List ℕ)
messages_in bytes = messages_from (length bytes) bytes

-- the bytes are messages that can be read, each after its length
pub record AreFramed (bytes : List ℕ) : Type 0 where
  pub messages : List (List ℕ)
  pub is : bytes ≡ framed messages
  pub read : IsTrue (list_all (is_message MAX_BYTES) messages)
  pub few : length bytes ≤ MAX_STORED
