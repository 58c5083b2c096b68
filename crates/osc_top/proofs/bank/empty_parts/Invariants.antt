use Rattle.std.proofs.Common.{◌≡◌, map, replicate}
use Rattle.osc_lanes.specs.Performs.{part_of}
use Rattle.osc_top.specs.Dealt.{no_part}
use Rattle.osc_top.proofs.bank.empty_parts.Given as goal

abbrev pub invariant-loop-made : goal.invariant-loop-made
invariant-loop-made g l = map part_of l.parts.items ≡ replicate l._made no_part
