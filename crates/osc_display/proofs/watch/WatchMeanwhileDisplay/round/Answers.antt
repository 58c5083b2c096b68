use Rattle.std.proofs.Common.{sym, subst}
use Rattle.osc_turn.specs.Passes.{view}
use Rattle.osc_live.specs.Seen.{history_of}
use Rattle.osc_watch.specs.declared.board.Board.{Board}
use Rattle.osc_watch.specs.Refreshing.{HasReadPart}
use Rattle.osc_live.proofs.Looked.{looked_on}
use Rattle.osc_display.proofs.Looking.{looks_holder, looks_made}
use Rattle.osc_display.proofs.watch.WatchMeanwhileDisplay.round.Goals as goal

pub returns-in-Ok : goal.returns-in-Ok
returns-in-Ok g c =
    let caps = c.args.desk.now.live.now.caps in
    let caller = c.args.caller in
    let after = c.refresh-caller.result.0 in
    let fresh = c.refresh-caller.ensures in
    record {
      ours = fresh.ours;
      holder = looks_holder caps caller after fresh.number fresh.looks;
      made = looks_made (view caller.pass) (view after.pass) fresh.looks;
      starts = fresh.looks.goes_on;
      goes_on = λ before v played. (
        looked_on v (view caller.pass) (view after.pass) played.0 fresh.looks,
        subst (λ (b : Board). HasReadPart caps b (history_of (view after.pass))) (sym c.read-read.ensures.board) fresh.read,
      );
    }
