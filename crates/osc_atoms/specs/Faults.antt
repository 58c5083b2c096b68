-- The faults of bytes that several crates name, each with its number and its place.
use Rattle.std.specs.Prelude.{ℕ}
use Rattle.osc_atoms.specs.declared.fault.Fault.{Fault}
use Rattle.osc_atoms.specs.declared.fault.TheConstants.Fault.{EMPTY, NOT_FOUR, TOO_LONG, START}
use Rattle.osc_atoms.specs.declared.fault.TheConstants.Fault.{UNTERMINATED, PADDING, BLOB_SIZE}
use Rattle.osc_atoms.specs.declared.fault.TheConstants.Fault.{SHORT}

-- no byte
abbrev pub empty : Fault
empty = record { kind = EMPTY; at = 0 }

-- a length that isn't a multiple of 4, at the end
abbrev pub not_four : ℕ → Fault
not_four size = record { kind = NOT_FOUR; at = size }

-- more bytes than the limit, at the limit
abbrev pub too_long : ℕ → Fault
too_long most = record { kind = TOO_LONG; at = most }

-- a first byte that begins nothing that may stand there, at that byte
abbrev pub start : ℕ → Fault
start at = record { kind = START; at = at }

-- a string without a zero byte, at its first byte
abbrev pub unterminated : ℕ → Fault
unterminated at = record { kind = UNTERMINATED; at = at }

-- a padding byte that isn't zero, at that byte
abbrev pub padding : ℕ → Fault
padding at = record { kind = PADDING; at = at }

-- a blob's count that is negative or runs past the end, at the count
abbrev pub blob_size : ℕ → Fault
blob_size at = record { kind = BLOB_SIZE; at = at }

-- fewer bytes than the atom has, at its first byte
abbrev pub short : ℕ → Fault
short at = record { kind = SHORT; at = at }
