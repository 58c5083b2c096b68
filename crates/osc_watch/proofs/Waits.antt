-- What is noted, and what publishing makes of it.
use Rattle.std.proofs.Common.{◌≡◌, List, [], ◌∷◌, ◌++◌, Option, Some, Result, Ok, Err, MatchResult, fold, map, refl, sym, ap, ◌∙◌, subst, append_assoc}
use Rattle.std.proofs.lemmas.List.{map-append, append-nil}
use Rattle.std.proofs.lemmas.List.Sums.{fold-append}
use Rattle.osc_watch.specs.declared.row.Edit.{Edit}
use Rattle.osc_watch.specs.declared.row.MethodRow.{MethodRow}
use Rattle.osc_watch.specs.declared.reached.Change.{Change}
use Rattle.osc_watch.specs.declared.reached.Reached.{Reached}
use Rattle.osc_watch.specs.declared.sheet.Sheet.{Sheet}
use Rattle.osc_watch.specs.declared.sheet.Standing.{Standing}
use Rattle.osc_watch.specs.Listing.{edit_of, edited, listing}
use Rattle.osc_watch.specs.Waiting.{edits_in, newest}
use Rattle.osc_watch.specs.Publishing.{IsListed, Begins, Sees}

-- one more edit is noted
pub more_noted : (shown all now : List Edit) (changes : List Change) (change : Change) → all ≡ shown ++ edits_in changes → now ≡ all ++ edit_of change.edit ∷ []
    → now ≡ shown ++ edits_in (changes ++ change ∷ [])
more_noted shown all now changes change old new =
    new ∙ (ap (λ (l : List Edit). l ++ edit_of change.edit ∷ []) old
    ∙ (append_assoc shown (edits_in changes) (edit_of change.edit ∷ [])
    ∙ ap (λ (l : List Edit). shown ++ l) (sym (map-append (λ (c : Change). edit_of c.edit) changes (change ∷ [])))))

-- what the last change reached is the newest
pub more_newest : (first : Reached) (changes : List Change) (change : Change) → change.reached ≡ newest first (changes ++ change ∷ [])
more_newest first [] change = refl
more_newest first (c ∷ changes) change = more_newest c.reached changes change

abbrev pub applied : Standing → Change → Standing
applied standing change = record { rows = edited standing.rows (edit_of change.edit); reached = change.reached }

abbrev pub standing : List MethodRow → Reached → Standing
standing rows reached = record { rows = rows; reached = reached }

-- all changes together
pub all_applied : (changes : List Change) (rows : List MethodRow) (reached : Reached)
    → fold applied (standing rows reached) changes ≡ standing (fold edited rows (edits_in changes)) (newest reached changes)
all_applied [] rows reached = refl
all_applied (c ∷ changes) rows reached = all_applied changes (edited rows (edit_of c.edit)) c.reached

-- the next sheet is listed, and goes on from the one that is shown
pub next_listed : (shown next : Sheet) (changes : List Change) (reached : Reached)
    → shown.reached.seen.book ≡ reached.seen.book → reached.seen.log ≡ shown.reached.seen.log ++ edits_in changes → reached ≡ newest shown.reached changes
    → standing next.rows.items next.reached ≡ fold applied (standing shown.rows.items shown.reached) changes
    → IsListed shown → IsListed next
next_listed shown next changes reached book log new is listed =
    let both = is ∙ all_applied changes shown.rows.items shown.reached in
    let rows : next.rows.items ≡ fold edited shown.rows.items (edits_in changes) = ap (λ (s : Standing). s.rows) both in
    let same : next.reached ≡ reached = ap (λ (s : Standing). s.reached) both ∙ sym new in
    rows ∙ (ap (λ (r : List MethodRow). fold edited r (edits_in changes)) listed
    ∙ (sym (fold-append edited [] shown.reached.seen.log (edits_in changes))
    ∙ (ap listing (sym log) ∙ ap (λ (r : Reached). listing r.seen.log) (sym same))))

pub next_goes_on : (shown next : Sheet) (changes : List Change) (reached : Reached)
    → shown.reached.seen.book ≡ reached.seen.book → reached.seen.log ≡ shown.reached.seen.log ++ edits_in changes → reached ≡ newest shown.reached changes
    → standing next.rows.items next.reached ≡ fold applied (standing shown.rows.items shown.reached) changes
    → Begins shown.reached next.reached
next_goes_on shown next changes reached book log new is =
    let both = is ∙ all_applied changes shown.rows.items shown.reached in
    let same : next.reached ≡ reached = ap (λ (s : Standing). s.reached) both ∙ sym new in (
      book ∙ ap (λ (r : Reached). r.seen.book) (sym same),
      (edits_in changes, ap (λ (r : Reached). r.seen.log) same ∙ log),
    )

-- what a board keeps
pub record Keeps (shown reached : Reached) (waits : List Change) (view : Option Reached) : Type 0 where
  pub one_list : shown.seen.book ≡ reached.seen.book
  pub noted : reached.seen.log ≡ shown.seen.log ++ edits_in waits
  pub newest : reached ≡ newest shown waits
  pub knows : view ≡ Some shown

-- it keeps that whether publishing succeeds or is refused
pub still_keeps : {X Y : Type 0} (r : Result X Y) (shown after : Sheet) (reached : Reached) (waits left : List Change) (before view : Option Reached)
    → Keeps shown.reached reached waits before
    → MatchResult r
    (λ _. (standing after.rows.items after.reached ≡ fold applied (standing shown.rows.items shown.reached) waits) × (left ≡ []))
    (λ _. (after ≡ shown) × (left ≡ waits))
    → MatchResult r (λ _. Sees before shown after view) (λ _. view ≡ before)
    → Keeps after.reached reached left view
still_keeps (Ok x) shown after reached waits left before view keeps values rule =
    let both = values.0 ∙ all_applied waits shown.rows.items shown.reached in
    let same : after.reached ≡ reached = ap (λ (s : Standing). s.reached) both ∙ sym keeps.newest in
    let log : reached.seen.log ≡ after.reached.seen.log ++ edits_in [] =
    ap (λ (r : Reached). r.seen.log) (sym same) ∙ sym (append-nil after.reached.seen.log) in
    record {
      one_list = ap (λ (r : Reached). r.seen.book) same;
      noted = log ∙ ap (λ (l : List Change). after.reached.seen.log ++ edits_in l) (sym values.1);
      newest = sym same ∙ ap (λ (l : List Change). newest after.reached l) (sym values.1);
      knows = rule.seen;
    }
still_keeps (Err y) shown after reached waits left before view keeps values rule =
    let same : after.reached ≡ shown.reached = ap (λ (s : Sheet). s.reached) values.0 in
    subst (λ (r : Reached). Keeps r reached left view) (sym same)
    (subst (λ (l : List Change). Keeps shown.reached reached l view) (sym values.1)
    (subst (λ (v : Option Reached). Keeps shown.reached reached waits v) (sym rule) keeps))
