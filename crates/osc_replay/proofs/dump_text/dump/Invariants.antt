use Rattle.std.proofs.Common.{length}
use Rattle.osc_replay.proofs.Listed.{IsListed}
use Rattle.osc_replay.proofs.dump_text.dump.Given as goal

-- the entries so far are dumped
abbrev pub invariant-loop-text : goal.invariant-loop-text
invariant-loop-text l = record { listed : IsListed l.recording l.unread l.text }

abbrev pub decreases-loop-text : goal.decreases-loop-text
decreases-loop-text l = length l.unread.rest
