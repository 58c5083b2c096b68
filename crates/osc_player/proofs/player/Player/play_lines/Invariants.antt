use Rattle.std.proofs.Common.{List, length}
use Rattle.std.specs.Vec.Iter.{into_iter_items}
use Rattle.osc_player.specs.Tallied.{HasTallied}
use Rattle.osc_player.proofs.Runs.{RunsOn}
use Rattle.osc_player.proofs.player.Player.play_lines.Given as goal

abbrev pub invariant-loop-line : goal.invariant-loop-line
invariant-loop-line g l = record {
  run : RunsOn l.initial.self.core.performance l.initial.self.faults l.fn.lines.items (into_iter_items l.line-iterator) l.self.core.performance l.self.faults
      (length (into_iter_items l.self.bank));
  boxes : (bank : List _) → HasTallied g.M.Method.keep g.M.Method.heard bank l.initial.self → HasTallied g.M.Method.keep g.M.Method.heard bank l.self;
}
