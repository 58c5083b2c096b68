use Rattle.std.proofs.Common.{◌≡◌, ◌≤◌, ◌-◌, length, take}
use Rattle.osc_pattern.specs.ReadyParts.{IsReady}
use Rattle.osc_pattern.proofs.ready.ReadyPart.read.Given as goal

abbrev pub invariant-loop-count : goal.invariant-loop-count
invariant-loop-count l = (length l.items ≡ 144) × (l.count ≤ 144) × IsReady (take l.count l.items) l.rest l.part

abbrev pub decreases-loop-count : goal.decreases-loop-count
decreases-loop-count l = 144 - l.count
