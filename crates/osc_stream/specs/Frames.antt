-- Frames: a stream of packets, each after its size.
use Rattle.std.specs.Prelude.{ℕ, zero, suc, ◌+◌, ◌-◌, ◌%◌, Bool, ◌&&◌, ◌==◌, nat_lt, nat_le}
use Rattle.std.specs.Prelude.{if◌then◌else◌, List, [], ◌∷◌, ◌++◌, length, take, drop}
use Rattle.std.specs.Int.{w32, from_be_bytes}
use Rattle.osc_atoms.specs.Atoms.{word}
use Rattle.osc_stream.specs.declared.front.Front.{Front}
use Rattle.osc_stream.specs.declared.front.Front.TheVariants.{Short, Whole, Bad}
use Rattle.osc_atoms.specs.declared.limits.TheConstants.{MAX_PACKET}

-- a packet, written: its size, and its bytes
abbrev pub frame : List ℕ → List ℕ
frame packet = word (length packet) ++ packet

-- how many bytes a packet may have: a multiple of 4, at most 65,504; none is allowed
abbrev pub is_length : ℕ → Bool
is_length size = size % 4 == 0 && nat_le size MAX_PACKET

-- what stands at the front of so many bytes that begin with a word
abbrev pub front_by : ℕ → ℕ → Front
front_by size count = if is_length size
    then (if nat_lt count (4 + size) then Short else Whole size) else Bad size

-- the word that bytes begin with
abbrev pub first_word : List ℕ → ℕ
first_word bytes = from_be_bytes w32 (take 4 bytes)

-- what stands at the front of bytes
abbrev pub front : List ℕ → Front
front bytes = if nat_lt (length bytes) 4 then Short
    else front_by (first_word bytes) (length bytes)

-- how many more bytes there have to be before more can be told of the front: those of the word, or
-- else of the packet
abbrev pub wanted : List ℕ → ℕ
wanted bytes = if nat_lt (length bytes) 4 then 4 - length bytes
    else (if is_length (first_word bytes) then 4 + first_word bytes - length bytes else 0)

-- how a stream ends: after a whole packet, at a word that is no size, or within a frame
pub data Ending : Type 0 where
  Clean : Ending
  Broken : ℕ → ℕ → Ending
  Cut : ℕ → Ending

-- the packets of a stream, and its end
pub record Framing : Type 0 where
  pub packets : List (List ℕ)
  pub ending : Ending

-- no packet, and this end
abbrev pub ends : Ending → Framing
ends ending = record { packets = []; ending = ending }

-- a packet more, before the others
abbrev pub with_packet : List ℕ → Framing → Framing
with_packet packet framing =
    record { packets = packet ∷ framing.packets; ending = framing.ending }

-- packets more, before the others
abbrev pub with_packets : List (List ℕ) → Framing → Framing
with_packets [] others = others
with_packets (packet ∷ packets) others = with_packet packet (with_packets packets others)

-- the end at a place from which less than a frame is left
abbrev pub rest_ending : ℕ → List ℕ → Ending
rest_ending at [] = Clean
rest_ending at (byte ∷ bytes) = Cut at

-- the frames from a place on, by what stands there and by the frames after it
abbrev pub next_frames : Front → ℕ → List ℕ → (ℕ → List ℕ → Framing) → Framing
next_frames Short at bytes others = ends (rest_ending at bytes)
next_frames (Whole size) at bytes others =
    with_packet (take size (drop 4 bytes)) (others (at + (4 + size)) (drop (4 + size) bytes))
next_frames (Bad size) at bytes others = ends (Broken at size)

-- the first so many frames from a place on
abbrev pub frames_in : ℕ → ℕ → List ℕ → Framing
frames_in zero at bytes = ends (rest_ending at bytes)
frames_in (suc steps) at bytes = next_frames (front bytes) at bytes (frames_in steps)

-- all frames from a place on, of which each has a byte at least
abbrev pub frames : ℕ → List ℕ → Framing
frames at bytes = frames_in (length bytes) at bytes

-- the frames of a stream: as many packets as there are whole, one after the other, and how it ends
abbrev pub Frames : List ℕ → Framing
Frames bytes = frames 0 bytes
