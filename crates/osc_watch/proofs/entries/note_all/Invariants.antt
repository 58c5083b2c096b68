use Rattle.std.proofs.Common.{◌≡◌, ◌≤◌, ◌+◌, length}
use Rattle.osc_model.specs.Limits.{header_size}
use Rattle.osc_watch.specs.Watching.{noted, published, IsSameBoard}
use Rattle.osc_watch.proofs.EntriesRead.{Looks}
use Rattle.osc_watch.proofs.entries.note_all.Given as goal

-- so far entries were read, and their edits noted
abbrev pub invariant-loop-stop : goal.invariant-loop-stop
invariant-loop-stop l = record {
  board : IsSameBoard l.initial.board l.board;
  published : published l.board ≡ published l.initial.board;
  low : header_size ≤ l.unread.at;
  total : l.unread.at + length l.unread.rest ≡ length l.bytes;
  within : length l.bytes ≤ l.unread.caps.recording;
  looks : Looks l.bytes (noted l.initial.board) (noted l.board) l.unread;
}

abbrev pub decreases-loop-stop : goal.decreases-loop-stop
decreases-loop-stop l = length l.unread.rest
