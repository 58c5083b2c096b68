use Rattle.std.proofs.Common.{length}
use Rattle.osc_report.specs.Stretches.{placed}
use Rattle.osc_report.proofs.Stretching.{Goes}
use Rattle.osc_report.proofs.stretch.read_stretch.Given as goal

-- so far entries were read, none of which ends a stretch
abbrev pub invariant-loop-stretch : goal.invariant-loop-stretch
invariant-loop-stretch l = Goes l.initial.unread l.clock l.unread (placed l.stretch.entries.items) l.stretch.clock

abbrev pub decreases-loop-stretch : goal.decreases-loop-stretch
decreases-loop-stretch l = length l.unread.rest
