use Rattle.std.proofs.Common.{map}
use Rattle.std.specs.Vec.Iter.{into_iter_items}
use Rattle.osc_lanes.specs.Performs.{part_of}
use Rattle.osc_top.proofs.Dealt.{IsDealing}
use Rattle.osc_top.proofs.bank.deal.Given as goal

abbrev pub invariant-loop-line : goal.invariant-loop-line
invariant-loop-line g l =
    IsDealing l.fn.lines.items l.fn.bank.items (map part_of l.parts.items) (into_iter_items l.line-iterator) (into_iter_items l.boxes)
