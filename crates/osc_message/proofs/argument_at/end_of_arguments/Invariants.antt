-- The arguments that are left end where all of them end.
use Rattle.std.proofs.Common.{◌≡◌, ◌%◌, ◌≤◌, length}
use Rattle.osc_message.specs.ArgumentReading.{arguments_end}
use Rattle.osc_message.proofs.argument_at.end_of_arguments.Given as goal

abbrev pub invariant-loop-tag : goal.invariant-loop-tag
invariant-loop-tag l = record {
  read : arguments_end l.left l.bytes l.at ≡ arguments_end l.tags l.bytes l.start;
  aligned : l.at % 4 ≡ 0;
  inside : l.at ≤ length l.bytes;
}

abbrev pub decreases-loop-tag : goal.decreases-loop-tag
decreases-loop-tag l = length l.left
