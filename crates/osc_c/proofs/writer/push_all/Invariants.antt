use Rattle.std.proofs.Common.{◌≡◌, drop}
use Rattle.osc_c.specs.Building.{pushed_from}
use Rattle.osc_c.proofs.writer.push_all.Given as goal

-- what the arguments that are left give is what all of them give
abbrev pub invariant-loop-argument : goal.invariant-loop-argument
invariant-loop-argument l = record {
  pushed : pushed_from l.bytes l.builder l.at (drop l.argument-index l.arguments) ≡ pushed_from l.bytes l.initial.builder 0 l.arguments;
  at_argument : l.at ≡ l.argument-index;
}
