use Rattle.std.proofs.Common.{◌≡◌, ◌++◌, length, map}
use Rattle.osc_drawing.specs.Carried.{plain}
use Rattle.osc_drawing.proofs.words.plain_bytes.Given as goal

abbrev pub invariant-loop-byte : goal.invariant-loop-byte
invariant-loop-byte l = l.words.items ++ map plain l.rest ≡ map plain l.bytes

abbrev pub decreases-loop-byte : goal.decreases-loop-byte
decreases-loop-byte l = length l.rest
