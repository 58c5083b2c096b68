-- Packets written one after the other, each after its size.
use Rattle.std.specs.Prelude.{ℕ, Bool, true, ◌&&◌, List, [], ◌∷◌, ◌++◌, length}
use Rattle.osc_stream.specs.Frames.{frame, is_length}

-- the packets, each after its size
abbrev pub written : List (List ℕ) → List ℕ
written [] = []
written (packet ∷ packets) = frame packet ++ written packets

-- each packet has a length that it may have
abbrev pub are_lawful : List (List ℕ) → Bool
are_lawful [] = true
are_lawful (packet ∷ packets) = is_length (length packet) && are_lawful packets
