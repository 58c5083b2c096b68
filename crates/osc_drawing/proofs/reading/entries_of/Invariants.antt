use Rattle.std.proofs.Common.{length}
use Rattle.osc_drawing.proofs.EntriesRead.{ReadSo}
use Rattle.osc_drawing.proofs.reading.entries_of.Given as goal

-- these entries were read so far
abbrev pub invariant-loop-entry : goal.invariant-loop-entry
invariant-loop-entry l = ReadSo l.initial.unread l.entries.items l.unread

abbrev pub decreases-loop-entry : goal.decreases-loop-entry
decreases-loop-entry l = length l.unread.rest
