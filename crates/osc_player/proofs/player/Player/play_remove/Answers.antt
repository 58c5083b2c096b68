use Rattle.std.proofs.Common.{sym, arith, rules}
use Rattle.std.proofs.lemmas.List.{append-nil}
use Rattle.osc_player.proofs.Adds.{at_remove}
use Rattle.osc_player.proofs.player.Player.play_remove.Goals as goal

pub returns : goal.returns
returns g c =
    let done = c.remove-removing.ensures in
    record {
      performance = search rules;
      faults = sym (append-nil c.args.self.now.faults);
      stop = search rules;
      waiting = omega arith;
      boxes = λ bank at. at_remove _ bank c.args.self.now.core.performance _ c.args.address.now done.performance c.remove-removing.result
          c.stop-stop.result _ _ c.args.self.now.removed.items c.keep_removed.new.removed.items _ _ done.removed done.others done.boxes
          c.in_ok-keep_removed.ensures at;
    }
