use Rattle.std.proofs.Common.{◌≡◌, length, IfOk}
use Rattle.osc_message.specs.Messages.{AllFit}
use Rattle.osc_cues.specs.Cues.{arguments_at}
use Rattle.osc_cues.specs.LineAnswers.{onto}
use Rattle.osc_cues.proofs.message.put_words.Given as goal

abbrev pub invariant-loop-span : goal.invariant-loop-span
invariant-loop-span l = record {
  read : onto l.tags.items l.atoms.items (arguments_at l.line l.rest)
      ≡ onto l.initial.tags.items l.initial.atoms.items (arguments_at l.line l.spans);
  fit : IfOk (arguments_at l.line l.rest) AllFit → IfOk (arguments_at l.line l.spans) AllFit;
}

abbrev pub decreases-loop-span : goal.decreases-loop-span
decreases-loop-span l = length l.rest
