use Rattle.std.proofs.Common.{◌≡◌, ◌*◌, ◌≤◌}
use Rattle.osc_turn.specs.Passes.{view}
use Rattle.osc_live.specs.Seen.{IsTokenOf}
use Rattle.osc_live.specs.Pumps.{Releases}
use Rattle.osc_live.proofs.live.Live.pump.Given as goal

-- so far only units were released
abbrev pub invariant-loop : goal.invariant-loop
invariant-loop g l = record {
  ours : IsTokenOf l.self.turn l.self.caps l.caller.pass;
  number : l.caller.number ≡ l.initial.caller.number;
  releases : Releases l.self.caps l.initial.caller.number l.released l.calls (view l.initial.caller.pass) (view l.caller.pass);
  few : l.calls ≤ l.released * 4294967296;
}
