use Rattle.std.proofs.Common.{◌≡◌, ◌≤◌, length}
use Rattle.osc_score.specs.ArgumentWords.{arguments_read}
use Rattle.osc_script.specs.Words.{words_of}
use Rattle.osc_score.specs.Argued.{arguments_onto}
use Rattle.osc_score.proofs.note.put_words.Given as goal

abbrev pub invariant-loop-word : goal.invariant-loop-word
invariant-loop-word l = record {
  read : arguments_onto l.tags.items l.atoms.items (arguments_read (words_of l.rest))
      ≡ arguments_onto l.fn.tags.items l.fn.atoms.items (arguments_read (words_of l.words));
  few : length l.rest ≤ length l.words;
}

abbrev pub decreases-loop-word : goal.decreases-loop-word
decreases-loop-word l = length l.rest
