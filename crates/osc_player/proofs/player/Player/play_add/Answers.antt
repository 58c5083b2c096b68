use Rattle.std.proofs.Common.{sym, rules}
use Rattle.std.proofs.lemmas.List.{append-nil}
use Rattle.osc_player.proofs.Adds.{at_add}
use Rattle.osc_player.proofs.player.Player.play_add.Goals as goal

pub returns : goal.returns
returns g c =
    let done = c.add-adding.ensures in
    record {
      performance = search rules;
      faults = sym (append-nil c.args.self.now.faults);
      stop = search rules;
      waiting = search rules;
      boxes = λ bank at. at_add _ bank c.args.self.now.core.performance _ c.args.address done.performance c.add-adding.result c.stop-stop.result
          c.in-Some.method _ _ _ _ _ _ _ done.answer c.stop-stop.ensures done.added done.boxes done.handed_back
          c.in_ok-keep_refused.ensures c.in-Some.ensures.cases.0 at;
    }
