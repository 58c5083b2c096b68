use Rattle.std.proofs.Common.{length}
use Rattle.osc_board.proofs.Onward.{SeenSo}
use Rattle.osc_board.proofs.reader.see_all.Given as goal

-- so far entries were seen
abbrev pub invariant-loop-stop : goal.invariant-loop-stop
invariant-loop-stop l = SeenSo l.initial.sight l.initial.unread l.sight l.unread

abbrev pub decreases-loop-stop : goal.decreases-loop-stop
decreases-loop-stop l = length l.unread.rest
