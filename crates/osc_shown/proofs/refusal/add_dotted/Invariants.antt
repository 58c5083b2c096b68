use Rattle.std.proofs.Common.{◌≡◌, ◌++◌, map, take}
use Rattle.osc_shown.specs.Refusals.{dotted}
use Rattle.osc_shown.proofs.refusal.add_dotted.Given as goal

abbrev pub invariant-loop-byte : goal.invariant-loop-byte
invariant-loop-byte l = l.out.items ≡ l.initial.out.items ++ map dotted (take l.byte-index l.bytes)
