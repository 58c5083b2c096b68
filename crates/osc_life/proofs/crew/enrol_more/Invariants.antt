use Rattle.std.proofs.Common.{◌≡◌, ◌+◌, All, length}
use Rattle.osc_turn.specs.Passes.{view}
use Rattle.osc_turn.specs.History.{StartsWith}
use Rattle.osc_live.specs.Seen.{IsTokenOf, history_of}
use Rattle.osc_life.specs.Crews.{IsCrewFrom}
use Rattle.osc_life.proofs.crew.enrol_more.Given as goal

abbrev pub invariant-loop : goal.invariant-loop
invariant-loop g l = record {
  ours : IsTokenOf l.live.turn l.live.caps l.first.pass;
  number : l.first.number ≡ 0;
  callers_ours : All (λ caller. IsTokenOf l.live.turn l.live.caps caller.pass) l.callers.items;
  seen : StartsWith (view l.first.pass).seen (view l.fn.first.pass).seen;
  crew : IsCrewFrom (view l.fn.first.pass).made (history_of (view l.fn.first.pass)) ((view l.fn.first.pass).made + length l.callers.items)
      (view l.first.pass) l.callers.items;
  so_many : length l.callers.items ≡ l.counter;
}
