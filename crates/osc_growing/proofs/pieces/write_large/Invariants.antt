use Rattle.std.proofs.Common.{◌≡◌, ◌≤◌, ◌-◌, length}
use Rattle.osc_ends.specs.Sinks.{change}
use Rattle.osc_turn.specs.Passes.{view}
use Rattle.osc_live.specs.Seen.{IsTokenOf}
use Rattle.osc_live.specs.Looks.{HasLooked}
use Rattle.osc_growing.specs.declared.growth.Growth.TheVariants.{Written}
use Rattle.osc_growing.specs.Growing.{HasGrown, recorded}
use Rattle.osc_growing.proofs.pieces.write_large.Given as goal

abbrev pub invariant-loop-at : goal.invariant-loop-at
invariant-loop-at g l = record {
  ours : IsTokenOf l.live.turn l.live.caps l.caller.pass;
  number : l.caller.number ≡ l.fn.caller.number;
  looked : HasLooked (view l.fn.caller.pass) (view l.caller.pass);
  space : length l.space ≡ length l.initial.space;
  forward : l.at ≤ l.span.end;
  within : l.span.end ≤ length (recorded l.live.caps (view l.caller.pass));
  grown : (start : _) → HasGrown (Written l.span.from) (change g.R.Sink start l.initial.rec)
      (recorded l.live.caps (view l.fn.caller.pass))
      → HasGrown (Written l.at) (change g.R.Sink start l.rec) (recorded l.live.caps (view l.caller.pass));
}

abbrev pub decreases-loop-at : goal.decreases-loop-at
decreases-loop-at g l = l.span.end - l.at
