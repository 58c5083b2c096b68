use Rattle.std.proofs.Common.{◌≡◌, ◌++◌}
use Rattle.osc_message.specs.Left.{left}
use Rattle.osc_print.specs.Words.{argument_words, BeginsWith}
use Rattle.osc_print.proofs.text.Text.space_arguments.Given as goal

-- the words so far and those of the arguments that are left are all words
abbrev pub invariant-loop-argument : goal.invariant-loop-argument
invariant-loop-argument l = record {
  can : (goal.iterator-loop-argument).can_next l.argument-iterator;
  finite : (goal.iterator-loop-argument).is_finite l.argument-iterator;
  said : l.self ++ argument_words (left l.argument-iterator) ≡ l.initial.self ++ argument_words (left l.initial.argument-iterator);
  begins : BeginsWith l.self l.fn.self;
}
