use Rattle.std.proofs.Common.{◌≡◌, ◌++◌, ℕ, List}
use Rattle.osc_message.specs.Left.{left}
use Rattle.osc_shown.specs.Arguments.{AreWords}
use Rattle.osc_shown.proofs.message.add_arguments.Given as goal

abbrev pub invariant-loop-argument : goal.invariant-loop-argument
invariant-loop-argument l = record {
  can : (goal.iterator-loop-argument).can_next l.argument-iterator;
  finite : (goal.iterator-loop-argument).is_finite l.argument-iterator;
  goes : (others : List ℕ) → AreWords l.whole (left l.argument-iterator) others
      → (said : List ℕ) × AreWords l.whole (left l.initial.argument-iterator) said × (l.out.items ++ others ≡ l.initial.out.items ++ said);
}
