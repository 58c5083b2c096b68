use Rattle.std.proofs.Common.{◌≡◌, List, ℕ, ◌∙◌, ap, arith, rules}
use Rattle.osc_model.specs.Events.{submit}
use Rattle.osc_model.specs.History.{state_of, onward}
use Rattle.osc_player.proofs.Places.{submit_quiet, quiet_unless}
use Rattle.osc_player.proofs.player.Player.play_send.Goals as goal

pub returns-in-Ok : goal.returns-in-Ok
returns-in-Ok g c =
    let done = c.submit.ensures in
    let performance = c.args.self.now.core.performance in
    let same : c.in-Ok.packet ≡ c.args.bytes.now = search rules in
    record {
      performance = search rules;
      faults = search rules;
      stop = search rules;
      waiting = omega arith;
      boxes = λ bank at. quiet_unless _ bank performance _ (submit c.args.bytes.now)
          (done.performance ∙ ap (λ (packet : List ℕ). onward performance 0 (submit packet)) same)
          (submit_quiet (state_of performance) c.args.bytes.now) c.stop.result _ _ _ _ _ done.boxes at;
    }

pub returns-in_ok-fault_line-in-Err : goal.returns-in_ok-fault_line-in-Err
returns-in_ok-fault_line-in-Err g c = record {
  performance = search rules;
  faults = search rules;
  stop = search rules;
  waiting = omega arith;
  boxes = λ bank at. at;
}
