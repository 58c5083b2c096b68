-- Atoms, read: the value at a place and the place after the atom, or the first fault. `laws` ties
-- them to what is written.
use Rattle.std.specs.Prelude.{ℕ, ◌+◌, ◌-◌, ◌^◌, Bool, not, ◌&&◌, ◌==◌, nat_lt, nat_le}
use Rattle.std.specs.Prelude.{if◌then◌else◌, List, length, take, drop, Option, Some, None, position}
use Rattle.std.specs.Prelude.{Result, Ok, Err}
use Rattle.std.specs.Int.{w32, w64, from_be_bytes}
use Rattle.osc_atoms.specs.declared.fault.Fault.{Fault}
use Rattle.osc_atoms.specs.Atoms.{string_end, blob_end}
use Rattle.osc_atoms.specs.Faults.{unterminated, padding, blob_size, short}

-- what a first reading gives is handed on, and its fault is kept
abbrev pub and_then : {X Y : Type 0} → Result X Fault → (X → Result Y Fault) → Result Y Fault
and_then (Ok value) next = next value
and_then (Err fault) next = Err fault

-- four bytes, big-endian
abbrev pub word_read : List ℕ → ℕ → Result (ℕ × ℕ) Fault
word_read bytes at = if nat_le (at + 4) (length bytes)
    then Ok (from_be_bytes w32 (take 4 (drop at bytes)), at + 4) else Err (short at)

-- eight bytes, big-endian
abbrev pub tag_read : List ℕ → ℕ → Result (ℕ × ℕ) Fault
tag_read bytes at = if nat_le (at + 8) (length bytes)
    then Ok (from_be_bytes w64 (take 8 (drop at bytes)), at + 8) else Err (short at)

-- a byte that ends a string or pads an atom
abbrev pub is_zero : ℕ → Bool
is_zero byte = byte == 0

-- any other byte
abbrev pub is_other : ℕ → Bool
is_other byte = not (byte == 0)

-- where the first other byte is, if there is one
abbrev pub past_padding : ℕ → ℕ → Option ℕ → Result ℕ Fault
past_padding from size None = Ok (from + size)
past_padding from size (Some other) = Err (padding (from + other))

-- the place after so many zero bytes from a place on, or the fault at the first other byte among
-- them
abbrev pub padding_read : List ℕ → ℕ → ℕ → Result ℕ Fault
padding_read bytes from size =
    past_padding from size (position is_other (take size (drop from bytes)))

-- how long the text is, if a zero byte ends it
abbrev pub text_read : List ℕ → ℕ → Option ℕ → Result (List ℕ × ℕ) Fault
text_read bytes at None = Err (unterminated at)
text_read bytes at (Some size) =
    and_then (padding_read bytes (at + size) (string_end size))
    (λ next. Ok (take size (drop at bytes), next))

-- the text before the first zero byte from a place on, and its end
abbrev pub string_read : List ℕ → ℕ → Result (List ℕ × ℕ) Fault
string_read bytes at = text_read bytes at (position is_zero (drop at bytes))

-- the bytes after their count, and their padding
abbrev pub content_read : List ℕ → ℕ → ℕ → Result (List ℕ × ℕ) Fault
content_read bytes at count =
    if nat_lt count (2 ^ 31) && nat_le (count + blob_end count) (length bytes - (at + 4))
    then and_then (padding_read bytes (at + 4 + count) (blob_end count))
    (λ next. Ok (take count (drop (at + 4) bytes), next)) else Err (blob_size at)

-- a count, so many bytes, and their padding
abbrev pub blob_read : List ℕ → ℕ → Result (List ℕ × ℕ) Fault
blob_read bytes at = and_then (word_read bytes at) (λ count. content_read bytes at count.0)
