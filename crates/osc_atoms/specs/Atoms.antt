-- Atoms: what stands in the bytes of a packet, written. Every atom has a size that is a multiple of
-- 4.
use Rattle.std.specs.Prelude.{ℕ, ◌+◌, ◌-◌, ◌%◌, ◌<◌, Bool, not, ◌==◌, List, ◌++◌, length}
use Rattle.std.specs.Prelude.{slice_index, take, drop, replicate}
use Rattle.std.specs.List.{list_all}
use Rattle.std.specs.Int.{w32, w64, to_be_bytes}

-- each number of a list is a byte
abbrev pub AreBytes : List ℕ → Type 0
AreBytes bytes = (i : ℕ) → slice_index bytes i < 256

-- a number below 2^32, big-endian
abbrev pub word : ℕ → List ℕ
word number = to_be_bytes w32 number

-- a number below 2^64, big-endian
abbrev pub tag : ℕ → List ℕ
tag number = to_be_bytes w64 number

-- how many zero bytes end a string of so many bytes: one, and then the fewest that reach a multiple
-- of 4
abbrev pub string_end : ℕ → ℕ
string_end size = 4 - size % 4

-- the bytes of a text, and its end
abbrev pub string : List ℕ → List ℕ
string text = text ++ replicate (string_end (length text)) 0

-- a text of a string has no zero byte
abbrev pub has_no_zero : List ℕ → Bool
has_no_zero text = list_all (λ byte. not (byte == 0)) text

-- how many zero bytes pad a blob of so many bytes: the fewest that reach a multiple of 4
abbrev pub blob_end : ℕ → ℕ
blob_end size = (4 - size % 4) % 4

-- the count of a blob's bytes, the bytes, and their padding
abbrev pub blob : List ℕ → List ℕ
blob content = word (length content) ++ (content ++ replicate (blob_end (length content)) 0)

-- the bytes with an atom in place of as many of them, from a place on
abbrev pub with_atom : List ℕ → ℕ → List ℕ → List ℕ
with_atom bytes at atom = take at bytes ++ (atom ++ drop (at + length atom) bytes)
