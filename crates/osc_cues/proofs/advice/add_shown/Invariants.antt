use Rattle.std.proofs.Common.{◌≡◌, ◌++◌, map, drop}
use Rattle.osc_cues.specs.Texts
use Rattle.osc_cues.proofs.advice.add_shown.Given as goal

abbrev pub invariant-loop-byte : goal.invariant-loop-byte
invariant-loop-byte l = l.out.items ++ map Texts.shown (drop l.byte-index l.bytes) ≡ l.initial.out.items ++ map Texts.shown l.bytes
