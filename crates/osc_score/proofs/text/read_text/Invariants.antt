use Rattle.std.proofs.Common.{◌≡◌, length}
use Rattle.osc_score.specs.ArgumentWords.{text_read}
use Rattle.osc_score.proofs.Texts.{after_front}
use Rattle.osc_score.proofs.text.read_text.Given as goal

abbrev pub invariant-loop-rest : goal.invariant-loop-rest
invariant-loop-rest l = after_front l.text.items (text_read l.rest) ≡ text_read l.word

abbrev pub decreases-loop-rest : goal.decreases-loop-rest
decreases-loop-rest l = length l.rest
