use Rattle.std.proofs.Common.{◌≡◌, ◌≤◌, length}
use Rattle.osc_ends.specs.Sinks.{change}
use Rattle.osc_turn.specs.Passes.{view}
use Rattle.osc_live.specs.Seen.{IsTokenOf, history_of}
use Rattle.osc_live.specs.Looks.{HasLooked}
use Rattle.osc_growing.specs.Growing.{HasGrown, recorded}
use Rattle.osc_growing.specs.Entries.{HasEndIn, texts_of}
use Rattle.osc_growing.proofs.pieces.write_pieces.Given as goal

abbrev pub invariant-loop : goal.invariant-loop
invariant-loop g l = record {
  ours : IsTokenOf l.live.turn l.live.caps l.first.pass;
  number : l.first.number ≡ l.fn.first.number;
  space : 4 ≤ length l.space;
  looked : HasLooked (view l.fn.first.pass) (view l.first.pass);
  between : HasEndIn l.growth (texts_of l.live.caps (history_of (view l.first.pass)));
  grown : HasGrown l.growth (change g.R.Sink l.initial.rec l.rec) (recorded l.live.caps (view l.first.pass));
}
