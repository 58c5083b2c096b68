use Rattle.std.proofs.Common.{◌≡◌, true, length}
use Rattle.osc_replay.specs.Onward.{IsReplayedTo}
use Rattle.osc_replay.proofs.played.Played.play_rest.Given as goal

-- the rows so far are played, printed and counted
abbrev pub invariant-loop-row : goal.invariant-loop-row
invariant-loop-row l = record {
  replayed : IsReplayedTo l.initial.self.recording.now l.unread l.self.server l.self.text l.self.entries l.self.adds;
  recording : l.self.recording.now ≡ l.initial.self.recording.now;
  caps : l.unread.caps ≡ l.initial.unread.caps;
  printed : l.self.calls.prints ≡ true;
}

abbrev pub decreases-loop-row : goal.decreases-loop-row
decreases-loop-row l = length l.unread.rest
