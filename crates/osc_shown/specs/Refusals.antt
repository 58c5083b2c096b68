-- The line of a datagram that is no packet.
use Rattle.std.specs.Prelude.{ℕ, ◌==◌, if◌then◌else◌, List, ◌++◌, length, take, map, codes}
use Rattle.osc_atoms.specs.declared.fault.Fault.{Fault}
use Rattle.osc_shown.specs.declared.arrival.Arrival.{Arrival}
use Rattle.osc_shown.specs.declared.look.Look.{Look}
use Rattle.osc_shown.specs.Columns.{line_text}
use Rattle.osc_shown.specs.Numbers.{thousands}
use Rattle.osc_shown.specs.Tails.{joined, from_words}
use Rattle.osc_shown.specs.Texts.{is_printed}

-- a byte that can't be printed as a full stop
abbrev pub dotted : ℕ → ℕ
dotted byte = if is_printed byte then byte else 46

-- how many bytes are shown
abbrev pub most_bytes : ℕ
most_bytes = 20

-- a number of bytes
abbrev pub bytes_text : ℕ → List ℕ
bytes_text count =
    if count == 1 then codes " (1 byte)" else codes " (" ++ thousands count ++ codes " bytes)"

-- the first bytes of a datagram, and how many it has
abbrev pub datagram_text : List ℕ → List ℕ
datagram_text datagram = map dotted (take most_bytes datagram) ++ bytes_text (length datagram)

-- what is wrong, by the numbers of docs/FORMATS.md, "Kinds of faults"
unfoldable pub fault_words : ℕ → List ℕ
fault_words kind =
    if kind == 1 then codes "it is empty" else
    if kind == 2 then codes "its size is no multiple of 4" else
    if kind == 3 then codes "it is over 65,504 bytes" else
    if kind == 4 then codes "no slash and no # begins it" else
    if kind == 5 then codes "#bundle is misspelt" else
    if kind == 6 then codes "a bundle has no whole time tag" else
    if kind == 7 then codes "a size in a bundle is wrong" else
    if kind == 8 then codes "a text has no end" else
    if kind == 9 then codes "padding isn't zero" else
    if kind == 10 then codes "no address has such a byte" else
    if kind == 11 then codes "a bracket isn't closed" else
    if kind == 12 then codes "it has no type tags" else
    if kind == 13 then codes "the size of a blob is wrong" else
    if kind == 14 then codes "an argument is cut off" else
    if kind == 15 then codes "array brackets don't match" else
    if kind == 16 then codes "bytes are left over" else
    if kind == 17 then codes "bundles lie over 16 deep" else
    if kind == 18 then codes "a bundle in a bundle is for an earlier time" else
    codes "it is no packet"

-- where it is wrong, and what
abbrev pub refusal_words : Fault → List ℕ
refusal_words fault =
    codes "no packet, byte " ++ thousands fault.at ++ codes ": " ++ fault_words fault.kind

-- the line of a datagram that is refused for a fault
abbrev pub refusal_text : Look → Arrival → List ℕ → Fault → List ℕ
refusal_text look arrival datagram fault =
    line_text look arrival.moment 33 32 (datagram_text datagram)
    (joined (refusal_words fault) (from_words arrival.sender))
