use Rattle.std.proofs.Common.{◌≡◌, ◌++◌, ◌∷◌, [], true, List, drop, sym, ap, ◌∙◌, rules}
use Rattle.std.proofs.lemmas.List.{append-nil}
use Rattle.osc_watch.specs.declared.reached.Change.{Change}
use Rattle.osc_watch.specs.declared.reached.Reached.{Reached}
use Rattle.osc_watch.specs.Listing.{edit_of}
use Rattle.osc_watch.specs.Waiting.{held_list, edits_in, newest}
use Rattle.osc_watch.proofs.Waits.{more_noted, more_newest}
use Rattle.osc_watch.proofs.board.Board.note.Goals as goal

pub invariant_of-self-2 : goal.invariant_of-self-2
invariant_of-self-2 c =
    let old = c.args.self.now in
    let waits = drop c.hand_in.new.writer.behind c.hand_in.new.writer.log.items in
    let change : Change = record { edit = c.args.edit; reached = c.again.result } in
    let was : Reached = old.writer.desk.shown.value.reached in
    let desk = c.in_ok-hand_in.ensures.desk in
    let shown : c.hand_in.new.writer.desk.shown.value.reached ≡ was = ap (λ d. d.shown.value.reached) desk in
    let all : waits ≡ drop old.writer.behind old.writer.log.items ++ held_list old.held =
    sym (append-nil waits) ∙ (ap (λ h. waits ++ held_list h) (sym c.in_ok-hand_in.ensures.handed) ∙ c.in_ok-hand_in.ensures.waiting) in
    let added = c.if-not-add.ensures.log in
    let log : c.add.new.self.seen.log ≡ old.reached.seen.log ++ edit_of c.args.edit ∷ [] =
    added ∙ ap (λ (r : Reached). r.seen.log ++ edit_of c.args.edit ∷ []) c.again-reached.ensures in
    let book : c.add.new.self.seen.book ≡ old.reached.seen.book =
    c.if-not-add.ensures.book ∙ ap (λ (r : Reached). r.seen.book) c.again-reached.ensures in
    record {
      head_is = old.head_is ∙ ap (λ b. record { tracked = true; key = 0; book = b }) (sym book);
      one_list = ap (λ (r : Reached). r.seen.book) shown ∙ (old.one_list ∙ sym book);
      noted = more_noted c.hand_in.new.writer.desk.shown.value.reached.seen.log old.reached.seen.log c.add.new.self.seen.log waits change
          (old.noted ∙ (ap (λ (r : Reached). r.seen.log ++ edits_in (drop old.writer.behind old.writer.log.items ++ held_list old.held)) (sym shown)
          ∙ ap (λ (l : List Change). c.hand_in.new.writer.desk.shown.value.reached.seen.log ++ edits_in l) (sym all)))
          log;
      newest = sym c.again.ensures ∙ more_newest c.hand_in.new.writer.desk.shown.value.reached waits change;
      knows = search rules;
    }
