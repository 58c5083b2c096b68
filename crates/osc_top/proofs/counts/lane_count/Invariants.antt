use Rattle.std.proofs.Common.{◌≡◌, max, drop}
use Rattle.osc_top.specs.Lanes.{lane_count}
use Rattle.osc_top.proofs.counts.lane_count.Given as goal

abbrev pub invariant-loop-line : goal.invariant-loop-line
invariant-loop-line l = max l.count (lane_count (drop l.line-index l.lines)) ≡ lane_count l.lines
