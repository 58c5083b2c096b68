use Rattle.std.proofs.Common.{◌≡◌, false, length}
use Rattle.osc_replay.proofs.Tallying.{IsCheckedTo}
use Rattle.osc_replay.proofs.checked.check.Given as goal

-- the entries so far are played and counted
abbrev pub invariant-loop-calls : goal.invariant-loop-calls
invariant-loop-calls l = record {
  checked : IsCheckedTo l.recording l.unread l.server l.entries l.adds;
  caps : l.caps ≡ l.unread.caps;
  unprinted : l.calls.prints ≡ false;
}

abbrev pub decreases-loop-calls : goal.decreases-loop-calls
decreases-loop-calls l = length l.unread.rest
