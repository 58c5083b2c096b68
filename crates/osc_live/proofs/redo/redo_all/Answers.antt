use Rattle.std.proofs.Common.{rules, ◌≡◌, ◌≤◌, List, ◌∷◌, length, ap, subst, refl, ◌∙◌}
use Rattle.osc_model.specs.Events.{Entry as Recorded}
use Rattle.osc_model.specs.History.{Legal}
use Rattle.osc_record.specs.Left.{placed_of}
use Rattle.osc_record.specs.Reading.{unplaced}
use Rattle.osc_core.specs.Telling.{told}
use Rattle.osc_live.specs.Resuming.{added_in}
use Rattle.osc_live.specs.Redone.{IsRedone}
use Rattle.osc_live.proofs.PlayedAgain.{asks, redone_none, redone_more}
use Rattle.osc_live.proofs.redo.redo_all.Goals as goal

pub redo_one-requires-clause-caller : goal.redo_one-requires-clause-caller
redo_one-requires-clause-caller g c =
    let keep = g.M.Method.keep in
    let heard = g.M.Method.heard in
    let caps = c.args.core.now.performance.caps in
    let history = unplaced c.into_iter-entry-iterator.result in
    let left = unplaced c.next.new.self in
    let entry = (placed_of c.in-Some.entry).entry in
    let legal : Legal caps history = search rules in
    let steps : c.loop-entry.entry-iterator ≡ placed_of c.in-Some.entry ∷ c.next.new.self = search rules in
    let is : IsRedone keep heard caps history c.args.bank.now.items (entry ∷ left) c.loop-entry.core.performance (told keep heard c.loop-entry.core.boxes.items)
    c.loop-entry.bank.items c.loop-entry.removed.items =
    subst (λ (l : List Recorded). IsRedone keep heard caps history c.args.bank.now.items l c.loop-entry.core.performance
    (told keep heard c.loop-entry.core.boxes.items) c.loop-entry.bank.items c.loop-entry.removed.items)
    (ap unplaced steps) c.loop-entry.invariant.redone in
    let enough : added_in history ≤ length c.args.bank.now.items = search rules in
    (asks keep heard caps history c.args.bank.now.items entry left c.loop-entry.core.performance (told keep heard c.loop-entry.core.boxes.items)
    c.loop-entry.bank.items c.loop-entry.removed.items legal enough is).caller

pub redo_one-requires-clause-lawful : goal.redo_one-requires-clause-lawful
redo_one-requires-clause-lawful g c =
    let keep = g.M.Method.keep in
    let heard = g.M.Method.heard in
    let caps = c.args.core.now.performance.caps in
    let history = unplaced c.into_iter-entry-iterator.result in
    let left = unplaced c.next.new.self in
    let entry = (placed_of c.in-Some.entry).entry in
    let legal : Legal caps history = search rules in
    let steps : c.loop-entry.entry-iterator ≡ placed_of c.in-Some.entry ∷ c.next.new.self = search rules in
    let is : IsRedone keep heard caps history c.args.bank.now.items (entry ∷ left) c.loop-entry.core.performance (told keep heard c.loop-entry.core.boxes.items)
    c.loop-entry.bank.items c.loop-entry.removed.items =
    subst (λ (l : List Recorded). IsRedone keep heard caps history c.args.bank.now.items l c.loop-entry.core.performance
    (told keep heard c.loop-entry.core.boxes.items) c.loop-entry.bank.items c.loop-entry.removed.items)
    (ap unplaced steps) c.loop-entry.invariant.redone in
    let enough : added_in history ≤ length c.args.bank.now.items = search rules in
    (asks keep heard caps history c.args.bank.now.items entry left c.loop-entry.core.performance (told keep heard c.loop-entry.core.boxes.items)
    c.loop-entry.bank.items c.loop-entry.removed.items legal enough is).lawful

pub redo_one-requires-clause-answer : goal.redo_one-requires-clause-answer
redo_one-requires-clause-answer g c =
    let keep = g.M.Method.keep in
    let heard = g.M.Method.heard in
    let caps = c.args.core.now.performance.caps in
    let history = unplaced c.into_iter-entry-iterator.result in
    let left = unplaced c.next.new.self in
    let entry = (placed_of c.in-Some.entry).entry in
    let legal : Legal caps history = search rules in
    let steps : c.loop-entry.entry-iterator ≡ placed_of c.in-Some.entry ∷ c.next.new.self = search rules in
    let is : IsRedone keep heard caps history c.args.bank.now.items (entry ∷ left) c.loop-entry.core.performance (told keep heard c.loop-entry.core.boxes.items)
    c.loop-entry.bank.items c.loop-entry.removed.items =
    subst (λ (l : List Recorded). IsRedone keep heard caps history c.args.bank.now.items l c.loop-entry.core.performance
    (told keep heard c.loop-entry.core.boxes.items) c.loop-entry.bank.items c.loop-entry.removed.items)
    (ap unplaced steps) c.loop-entry.invariant.redone in
    let enough : added_in history ≤ length c.args.bank.now.items = search rules in
    (asks keep heard caps history c.args.bank.now.items entry left c.loop-entry.core.performance (told keep heard c.loop-entry.core.boxes.items)
    c.loop-entry.bank.items c.loop-entry.removed.items legal enough is).answer

pub loop-entry-preserved : goal.loop-entry-preserved
loop-entry-preserved g c =
    let keep = g.M.Method.keep in
    let heard = g.M.Method.heard in
    let caps = c.args.core.now.performance.caps in
    let history = unplaced c.into_iter-entry-iterator.result in
    let left = unplaced c.next.new.self in
    let entry = (placed_of c.in-Some.entry).entry in
    let legal : Legal caps history = search rules in
    let steps : c.loop-entry.entry-iterator ≡ placed_of c.in-Some.entry ∷ c.next.new.self = search rules in
    let is : IsRedone keep heard caps history c.args.bank.now.items (entry ∷ left) c.loop-entry.core.performance (told keep heard c.loop-entry.core.boxes.items)
    c.loop-entry.bank.items c.loop-entry.removed.items =
    subst (λ (l : List Recorded). IsRedone keep heard caps history c.args.bank.now.items l c.loop-entry.core.performance
    (told keep heard c.loop-entry.core.boxes.items) c.loop-entry.bank.items c.loop-entry.removed.items)
    (ap unplaced steps) c.loop-entry.invariant.redone in
    record {
      can = tt;
      finite = tt;
      redone = redone_more keep heard caps history c.args.bank.now.items entry left c.loop-entry.core.performance c.redo_one.new.core.performance _
          (told keep heard c.loop-entry.core.boxes.items) (told keep heard c.redo_one.new.core.boxes.items) c.loop-entry.bank.items c.redo_one.new.bank.items
          c.loop-entry.removed.items c.redo_one.new.removed.items legal
          c.loop-entry.core.heard is
          c.in_ok-redo_one.ensures.performance c.in_ok-redo_one.ensures.moves;
      capacity = c.redo_one.ensures.capacity ∙ c.loop-entry.invariant.capacity;
    }

pub loop-entry-init : goal.loop-entry-init
loop-entry-init g c = record {
  can = tt;
  finite = tt;
  redone = redone_none g.M.Method.keep g.M.Method.heard c.args.core.now.performance.caps (unplaced c.into_iter-entry-iterator.result) c.args.bank.now.items
      c.args.core.now.performance (told g.M.Method.keep g.M.Method.heard c.args.core.now.boxes.items) c.args.removed.now.items refl c.requires.empty.0
      c.requires.empty.1 c.requires.empty.2;
  capacity = refl;
}
