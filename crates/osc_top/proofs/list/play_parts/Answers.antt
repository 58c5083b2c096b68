use Rattle.std.proofs.Common.{Bool, sym, ap, ◌∙◌}
use Rattle.osc_core.specs.Standing.{history_in}
use Rattle.osc_turn.specs.History.{texts}
use Rattle.osc_top.specs.Watched.{watched_text}
use Rattle.osc_top.proofs.list.play_parts.Goals as goal

pub returns-in_ok-list : goal.returns-in_ok-list
returns-in_ok-list g c =
    let displays = c.in_ok-displayed.ensures in
    let history = history_in (texts displays.performs.history) in
    record {
      performs = displays.performs;
      list_is = c.in_ok-list.ensures history displays.lists ∙ ap (λ (watch : Bool). watched_text watch history) (sym c.if-watch.true);
    }
