use Rattle.std.proofs.Common.{◌≡◌, ◌<◌, length}
use Rattle.osc_turn.specs.History.{StartsWith}
use Rattle.osc_model.specs.Limits.{header_size}
use Rattle.osc_model.specs.Recordings.{header_text}
use Rattle.osc_watch.specs.Watching.{published, IsOneBoard}
use Rattle.osc_watch.specs.Refreshing.{HasReadPart, GoesOn}
use Rattle.osc_live.specs.Looks.{HasLooked}
use Rattle.osc_watch.proofs.refresh.read_all.Given as goal

-- so far a beginning was read
abbrev pub invariant-loop : goal.invariant-loop
invariant-loop g l = record {
  ours : g.S.Recorded.ours l.fn.server l.token;
  board : IsOneBoard l.initial.board l.board;
  published : published l.board ≡ published l.initial.board;
  goes_on : StartsWith (g.S.Recorded.seen l.token) (g.S.Recorded.seen l.fn.token);
  onward : GoesOn l.initial.board l.board;
  read : HasReadPart (g.S.Recorded.caps l.fn.server) l.board (g.S.Recorded.seen l.token);
  taken : g.S.Recorded.taken l.fn.token < g.S.Recorded.taken l.token;
  number : g.S.Recorded.number l.token ≡ g.S.Recorded.number l.fn.token;
  looks : HasLooked (g.S.Recorded.knows l.fn.token) (g.S.Recorded.knows l.token);
  header : length l.header.items ≡ header_size;
  text : l.header.items ≡ header_text (g.S.Recorded.caps l.fn.server);
}
