use Rattle.std.proofs.Common.{◌≡◌}
use Rattle.osc_message.specs.Arguments.{message_arguments}
use Rattle.osc_message.specs.Left.{left}
use Rattle.osc_uses.specs.Light.{level_after}
use Rattle.osc_uses.proofs.light.level_of.Given as goal

-- what the arguments that are left make of the level so far is what all of them make
abbrev pub invariant-loop-argument : goal.invariant-loop-argument
invariant-loop-argument l = record {
  can : (goal.iterator-loop-argument).can_next l.argument-iterator;
  finite : (goal.iterator-loop-argument).is_finite l.argument-iterator;
  level : level_after (left l.argument-iterator) l.level ≡ level_after (message_arguments l.message) l.before;
}
