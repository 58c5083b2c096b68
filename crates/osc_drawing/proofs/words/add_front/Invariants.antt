use Rattle.std.proofs.Common.{◌≡◌, ◌++◌, length}
use Rattle.osc_drawing.specs.Carried.{front}
use Rattle.osc_drawing.proofs.words.add_front.Given as goal

abbrev pub invariant-loop-byte : goal.invariant-loop-byte
invariant-loop-byte l = l.out.items ++ front l.left l.rest ≡ l.initial.out.items ++ front l.most l.bytes

abbrev pub decreases-loop-byte : goal.decreases-loop-byte
decreases-loop-byte l = length l.rest
