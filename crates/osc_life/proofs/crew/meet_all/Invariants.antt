use Rattle.std.proofs.Common.{◌≡◌, ◌++◌, All}
use Rattle.std.specs.Vec.Iter.{into_iter_items}
use Rattle.osc_turn.specs.Passes.{view}
use Rattle.osc_live.specs.Seen.{IsTokenOf}
use Rattle.osc_life.specs.Crews.{names_of, IsSilent, HasSeen}
use Rattle.osc_life.proofs.crew.meet_all.Given as goal

abbrev pub invariant-loop-caller : goal.invariant-loop-caller
invariant-loop-caller g l = record {
  ours : IsTokenOf l.live.turn l.live.caps l.first.pass;
  number : l.first.number ≡ l.fn.crew.first.number;
  same : view l.first.pass ≡ view l.fn.crew.first.pass;
  names : names_of l.met.items ++ names_of (into_iter_items l.caller-iterator) ≡ names_of l.fn.crew.callers.items;
  callers_ours : All (λ caller. IsTokenOf l.live.turn l.live.caps caller.pass) l.met.items;
  silent : All IsSilent l.met.items;
  told : All (HasSeen (view l.fn.crew.first.pass).seen) l.met.items;
  left_ours : All (λ caller. IsTokenOf l.live.turn l.live.caps caller.pass) (into_iter_items l.caller-iterator);
  left_silent : All IsSilent (into_iter_items l.caller-iterator);
}
