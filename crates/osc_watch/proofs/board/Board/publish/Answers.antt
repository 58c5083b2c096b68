use Rattle.std.proofs.Common.{◌≡◌, ◌++◌, Some, List, drop, sym, ap, ◌∙◌}
use Rattle.std.proofs.lemmas.List.{append-nil}
use Rattle.osc_watch.specs.declared.reached.Change.{Change}
use Rattle.osc_watch.specs.declared.reached.Reached.{Reached}
use Rattle.osc_watch.specs.Waiting.{held_list, edits_in, newest}
use Rattle.osc_watch.proofs.Publishings.{turns}
use Rattle.osc_watch.proofs.Waits.{next_listed, next_goes_on, still_keeps}
use Rattle.left_right.specs.Sides
use Rattle.osc_watch.proofs.board.Board.publish.Goals as goal

pub publish_as-writer-requires : goal.publish_as-writer-requires
publish_as-writer-requires g c next is =
    let old = c.args.self in
    let shown = c.hand_in.new.writer.desk.shown.value in
    let waits = drop c.hand_in.new.writer.behind c.hand_in.new.writer.log.items in
    let same = ap (λ d. d.shown.value.reached) c.in_default.ensures.desk in
    let all : waits ≡ drop old.writer.behind old.writer.log.items ++ held_list old.held =
    sym (append-nil waits) ∙ (ap (λ h. waits ++ held_list h) (sym c.in_default.ensures.handed) ∙ c.in_default.ensures.waiting) in
    let book : shown.reached.seen.book ≡ old.reached.seen.book = ap (λ (r : Reached). r.seen.book) same ∙ old.one_list in
    let log : old.reached.seen.log ≡ shown.reached.seen.log ++ edits_in waits =
    old.noted ∙ (ap (λ (r : Reached). r.seen.log ++ edits_in (drop old.writer.behind old.writer.log.items ++ held_list old.held)) (sym same)
    ∙ ap (λ (l : List Change). shown.reached.seen.log ++ edits_in l) (sym all)) in
    let new : old.reached ≡ newest shown.reached waits =
    old.newest ∙ (ap (λ (r : Reached). newest r (drop old.writer.behind old.writer.log.items ++ held_list old.held)) (sym same)
    ∙ ap (λ (l : List Change). newest shown.reached l) (sym all)) in
    turns _ _ shown next (next_listed shown next waits old.reached book log new is) (next_goes_on shown next waits old.reached book log new is)

pub invariant_of-board-2 : goal.invariant_of-board-2
invariant_of-board-2 g c =
    let old = c.args.self in
    let shown = c.hand_in.new.writer.desk.shown.value in
    let waits = drop c.hand_in.new.writer.behind c.hand_in.new.writer.log.items in
    let same = ap (λ d. d.shown.value.reached) c.in_default.ensures.desk in
    let all : waits ≡ drop old.writer.behind old.writer.log.items ++ held_list old.held =
    sym (append-nil waits) ∙ (ap (λ h. waits ++ held_list h) (sym c.in_default.ensures.handed) ∙ c.in_default.ensures.waiting) in
    let book : shown.reached.seen.book ≡ old.reached.seen.book = ap (λ (r : Reached). r.seen.book) same ∙ old.one_list in
    let log : old.reached.seen.log ≡ shown.reached.seen.log ++ edits_in waits =
    old.noted ∙ (ap (λ (r : Reached). r.seen.log ++ edits_in (drop old.writer.behind old.writer.log.items ++ held_list old.held)) (sym same)
    ∙ ap (λ (l : List Change). shown.reached.seen.log ++ edits_in l) (sym all)) in
    let new : old.reached ≡ newest shown.reached waits =
    old.newest ∙ (ap (λ (r : Reached). newest r (drop old.writer.behind old.writer.log.items ++ held_list old.held)) (sym same)
    ∙ ap (λ (l : List Change). newest shown.reached l) (sym all)) in
    let view = Sides.view c.hand_in.new.writer.desk.place in
    let knows : view ≡ Some shown.reached = ap (λ d. Sides.view d.place) c.in_default.ensures.desk ∙ (old.knows ∙ ap Some (sym same)) in
    let after = c.publish_as-writer.result.0 in
    let left = drop after.behind after.log.items in
    let kept = still_keeps c.publish_as-writer.result.1 shown after.desk.shown.value old.reached waits left view (Sides.view after.desk.place)
    (record { one_list = book; noted = log; newest = new; knows = knows }) c.publish_as-writer.ensures.values c.publish_as-writer.ensures.rule in
    let none : left ++ held_list c.hand_in.new.held ≡ left = ap (λ h. left ++ held_list h) c.in_default.ensures.handed ∙ append-nil left in
    record {
      head_is = old.head_is;
      one_list = kept.one_list;
      noted = kept.noted ∙ ap (λ (l : List Change). after.desk.shown.value.reached.seen.log ++ edits_in l) (sym none);
      newest = kept.newest ∙ ap (λ (l : List Change). newest after.desk.shown.value.reached l) (sym none);
      knows = kept.knows;
    }
