use Rattle.std.proofs.Common.{◌≡◌}
use Rattle.std.specs.Vec.Iter.{into_iter_items}
use Rattle.osc_turn.specs.declared.view.View.{View}
use Rattle.osc_turn.specs.Passes.{view}
use Rattle.osc_live.specs.Seen.{IsTokenOf}
use Rattle.osc_uses.specs.LiveCalls.{Runs}
use Rattle.osc_uses.proofs.running_clock.run_clock.Given as goal

-- whatever the moments that are left come to, all of them come to
abbrev pub invariant-loop-moment : goal.invariant-loop-moment
invariant-loop-moment g l = record {
  ours : IsTokenOf l.live.turn l.live.caps l.caller.pass;
  number : l.caller.number ≡ l.fn.caller.number;
  ahead : (w : View) → Runs l.live.caps l.fn.caller.number (into_iter_items l.moment-iterator) (view l.caller.pass) w
      → Runs l.live.caps l.fn.caller.number l.fn.moments.items (view l.fn.caller.pass) w;
}
