use Rattle.std.proofs.Common.{◌≡◌, ◌++◌, [], List, drop, refl, sym, ap, ◌∙◌}
use Rattle.std.proofs.lemmas.List.{append-nil}
use Rattle.osc_watch.specs.declared.reached.Change.{Change}
use Rattle.osc_watch.specs.Waiting.{edits_in, newest}
use Rattle.osc_watch.proofs.Publishings.{turns}
use Rattle.osc_watch.proofs.Waits.{next_listed, next_goes_on}
use Rattle.osc_watch.proofs.board.Board.open.Goals as goal

pub publish_as-writer-requires : goal.publish_as-writer-requires
publish_as-writer-requires g c next is =
    let shown = c.in_ok-writer.writer.desk.shown.value in
    let waits = drop c.in_ok-writer.writer.behind c.in_ok-writer.writer.log.items in
    let none : waits ≡ [] = c.in_ok-writer.ensures.1 in
    let log : shown.reached.seen.log ≡ shown.reached.seen.log ++ edits_in waits =
    sym (append-nil shown.reached.seen.log) ∙ ap (λ (l : List Change). shown.reached.seen.log ++ edits_in l) (sym none) in
    let new : shown.reached ≡ newest shown.reached waits = ap (λ (l : List Change). newest shown.reached l) (sym none) in
    turns _ _ shown next (next_listed shown next waits shown.reached refl log new is) (next_goes_on shown next waits shown.reached refl log new is)
