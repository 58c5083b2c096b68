use Rattle.std.proofs.Common.{sym, arith, rules}
use Rattle.std.proofs.lemmas.List.{append-nil}
use Rattle.osc_model.specs.Events.{tick}
use Rattle.osc_model.specs.History.{state_of}
use Rattle.osc_player.proofs.Places.{tick_quiet, quiet_unless}
use Rattle.osc_player.proofs.player.Player.play_tick.Goals as goal

pub returns : goal.returns
returns g c =
    let done = c.tick.ensures in
    let performance = c.args.self.now.core.performance in
    record {
      performance = search rules;
      faults = sym (append-nil c.args.self.now.faults);
      stop = search rules;
      waiting = omega arith;
      boxes = λ bank at. quiet_unless _ bank performance _ (tick c.args.moment) done.performance
          (tick_quiet (state_of performance) c.args.moment) c.stop.result _ _ _ _ _ done.boxes at;
    }
