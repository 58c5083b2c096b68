use Rattle.std.proofs.Common.{◌∙◌, arith}
use Rattle.osc_score.proofs.Putting.{word_few, word_on}
use Rattle.osc_score.proofs.note.put_words.Goals as goal

pub put_word-requires : goal.put_word-requires
put_word-requires c =
    omega (
      arith,
      word_few c.loop-word.rest.now c.in-Some.word.now c.in-Some.after.now c.in-Some.ensures.words,
      c.loop-word.invariant.few,
      c.requires,
    )

pub loop-word-preserved : goal.loop-word-preserved
loop-word-preserved c = record {
  read = word_on c.loop-word.rest.now c.in-Some.word.now c.in-Some.after.now c.loop-word.tags.items c.loop-word.atoms.items c.put_word.new.tags.items
      c.put_word.new.atoms.items c.in-Some.ensures.words c.in-Ok.ensures
      ∙ c.loop-word.invariant.read;
  few = omega (arith, c.in-Some.ensures.shorter, c.loop-word.invariant.few);
}
