use Rattle.std.proofs.Common.{◌≡◌, ◌||◌, ◌&&◌, ℕ, nat_lt, nat_le, min}
use Rattle.osc_pattern.specs.ReadyParts.{is_one_of}
use Rattle.osc_pattern.proofs.bytes.ByteSet.add_range.Given as goal

abbrev pub invariant-loop-byte : goal.invariant-loop-byte
invariant-loop-byte l = (byte : ℕ) → is_one_of l.self byte ≡ ((nat_le (min l.first l.last) byte && nat_lt byte l.byte) || is_one_of l.initial.self byte)
