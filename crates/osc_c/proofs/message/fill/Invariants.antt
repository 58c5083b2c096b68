use Rattle.std.proofs.Common.{◌≡◌, ◌+◌, ◌≤◌, length}
use Rattle.std.specs.List.{flat_map}
use Rattle.osc_message.specs.Messages.{atom_of}
use Rattle.osc_message.specs.Left.{left}
use Rattle.osc_c.specs.Arguments.{arguments_at, put_from}
use Rattle.osc_c.proofs.message.fill.Given as goal

-- what the arguments that are left do now is what all of them did at first
abbrev pub invariant-loop-argument : goal.invariant-loop-argument
invariant-loop-argument l = record {
  can : (goal.iterator-loop-argument).can_next l.argument-iterator;
  finite : (goal.iterator-loop-argument).is_finite l.argument-iterator;
  written : put_from l.arguments l.count (arguments_at l.place (left l.argument-iterator))
      ≡ put_from l.initial.arguments 0 (arguments_at l.fn.place (left l.fn.args));
  counted : l.count + length (left l.argument-iterator) ≡ length (left l.fn.args);
  inside : l.place + length (flat_map atom_of (left l.argument-iterator)) ≤ 65504;
}
