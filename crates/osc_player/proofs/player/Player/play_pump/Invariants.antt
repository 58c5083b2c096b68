use Rattle.std.proofs.Common.{◌≡◌, ◌<◌, List, length}
use Rattle.std.specs.Vec.Iter.{into_iter_items}
use Rattle.osc_model.specs.History.{state_of}
use Rattle.osc_player.specs.Plain.{pump}
use Rattle.osc_player.specs.Tally.{played_on}
use Rattle.osc_player.specs.Tallied.{HasTallied}
use Rattle.osc_player.proofs.player.Player.play_pump.Given as goal

abbrev pub invariant-loop-room : goal.invariant-loop-room
invariant-loop-room g l = record {
  caller : 0 < (state_of l.self.core.performance).callers;
  end : played_on l.self.core.performance (pump (state_of l.self.core.performance))
      ≡ played_on l.initial.self.core.performance (pump (state_of l.initial.self.core.performance));
  faults : l.self.faults ≡ l.initial.self.faults;
  waiting : into_iter_items l.self.bank ≡ into_iter_items l.initial.self.bank;
  boxes : (bank : List _) → HasTallied g.M.Method.keep g.M.Method.heard bank l.initial.self → HasTallied g.M.Method.keep g.M.Method.heard bank l.self;
}

abbrev pub decreases-loop-room : goal.decreases-loop-room
decreases-loop-room g l = length (state_of l.self.core.performance).queue
