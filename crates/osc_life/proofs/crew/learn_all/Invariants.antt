use Rattle.std.proofs.Common.{◌≡◌, ◌++◌, All}
use Rattle.std.specs.Vec.Iter.{into_iter_items}
use Rattle.osc_turn.specs.Passes.{view}
use Rattle.osc_live.specs.Closing.{known}
use Rattle.osc_live.specs.Seen.{IsTokenOf}
use Rattle.osc_life.specs.Holders.{Learns}
use Rattle.osc_life.proofs.Learning.{HasHeard}
use Rattle.osc_life.proofs.crew.learn_all.Given as goal

abbrev pub invariant-loop-other : goal.invariant-loop-other
invariant-loop-other g l = record {
  ours : IsTokenOf l.live.turn l.live.caps l.first.pass;
  number : l.first.number ≡ l.fn.first.number;
  learns : Learns (view l.fn.first.pass) (view l.first.pass);
  same : known l.heard.items ++ known (into_iter_items l.other-iterator) ≡ known l.fn.others.items;
  told : All (HasHeard (view l.first.pass).seen) (known l.heard.items);
  heard_ours : All (λ caller. IsTokenOf l.live.turn l.live.caps caller.pass) l.heard.items;
  left_ours : All (λ caller. IsTokenOf l.live.turn l.live.caps caller.pass) (into_iter_items l.other-iterator);
}
