use Rattle.std.proofs.Common.{◌≡◌, ◌++◌, map, drop}
use Rattle.osc_patch.specs.Texts
use Rattle.osc_patch.proofs.advice.add_word.Given as goal

abbrev pub invariant-loop-byte : goal.invariant-loop-byte
invariant-loop-byte l = l.text.items ++ map Texts.shown (drop l.byte-index l.word) ≡ l.initial.text.items ++ map Texts.shown l.word
