-- A call of a token, as the answer at one place of the history.
use Rattle.std.proofs.Common.{◌≡◌, ℕ, zero, suc, ◌≤◌, Bool, true, false, List, [], ◌∷◌, ◌++◌, length, length-append, MatchBool, refl, sym, ap, subst, ◌∙◌}
use Rattle.std.proofs.Common.{arith, append-nil}
use Rattle.std.proofs.lemmas.List.{append_cancel_right}
use Rattle.osc_model.specs.Limits.{Limits}
use Rattle.osc_model.specs.Events.{Event, Answer, release, released, adds_entry, Entry}
use Rattle.osc_turn.specs.declared.view.Entry.{Entry as Seen}
use Rattle.osc_turn.specs.declared.view.View.{View}
use Rattle.osc_turn.specs.History.{StartsWith, entry, own}
use Rattle.osc_turn.specs.Rule.{number_of}
use Rattle.osc_turn.specs.Passes.{view}
use Rattle.osc_turn.proofs.Histories.{own_append, own_of_mine, starts_order}
use Rattle.osc_live.specs.declared.caller.Caller.{Caller}
use Rattle.osc_live.specs.Calls.{Calls, EndsWith, AddsNone}
use Rattle.osc_live.specs.declared.pumped.Pumped.{Pumped}
use Rattle.osc_live.specs.Pumps.{Releases as Released, Pumps, end_of}
use Rattle.osc_life.specs.Holders.{Holder, Onward}
use Rattle.osc_lanes.specs.Shares.{EntersOne, Answered, Releases}
use Rattle.osc_life.specs.Holders.{seen_by, holder_of}

-- what was seen has one entry less, where one was added
shorter : (n : ℕ) (one : Seen) (before seen past : List Seen) → seen ≡ before ++ one ∷ [] → StartsWith seen past
    → own n seen ≡ own n past ++ one ∷ [] → length past ≤ length before
shorter n one before seen past last ([], more) added =
    absurd (omega (arith, ap length added, length-append (own n past) (one ∷ []), ap (λ (l : List Seen). length (own n l)) (more ∙ append-nil past)))
shorter n one before seen past last (x ∷ rest, more) added =
    omega (arith, ap length last, length-append before (one ∷ []), ap length more, length-append past (x ∷ rest))

answered_one : (n : ℕ) (one : Seen) (before seen past : List Seen) → one.number ≡ n → seen ≡ before ++ one ∷ [] → StartsWith seen past
    → own n seen ≡ own n past ++ one ∷ [] → Onward n past before
answered_one n one before seen past mine last starts added = (
  starts_order seen past before starts (one ∷ [], last) (shorter n one before seen past last starts added),
  append_cancel_right (own n before) (own n past) (one ∷ [])
      (sym (ap (own n) last ∙ own_append n before (one ∷ []) ∙ ap (λ (l : List Seen). own n before ++ l) (own_of_mine n one mine)) ∙ added),
)

-- what a call says of the token, as an answer
pub answered_in : (caps : Limits) (caller : ℕ) (event : Event) (answer : Answer) (v w : View) → Calls caps caller event answer v w
    → Answered (record { caps = caps; token = number_of v; caller = caller }) event answer v.seen w.seen
answered_in caps caller event answer v w calls = go (adds_entry answer) refl calls.answered where
  holder : Holder
  holder = record { caps = caps; token = number_of v; caller = caller }

  one : Entry
  one = record { caller = caller; event = event; answer = answer }

  go : (t : Bool) → adds_entry answer ≡ t → MatchBool t (EndsWith caps caller event answer v w) (AddsNone caps event answer v w)
      → Answered holder event answer v.seen w.seen
  go true is ends = record {
    legal = calls.legal;
    found = ends.before;
    onward = answered_one (number_of v) (entry (number_of v) ends.text) ends.before w.seen v.seen refl ends.last calls.goes_on ends.own_once;
    decided = ends.answered;
    then_seen = subst (λ (t : Bool). MatchBool t (EntersOne (number_of v) one ends.before w.seen) (w.seen ≡ ends.before)) (sym is)
        (record { text = ends.text; mark = ends.mark; last = ends.last; text_is = ends.text_is; read = ends.read });
  }
  go false is none = record {
    legal = calls.legal;
    found = w.seen;
    onward = (calls.goes_on, none.own_same);
    decided = none.answered;
    then_seen = subst (λ (t : Bool). MatchBool t (EntersOne (number_of v) one w.seen w.seen) (w.seen ≡ w.seen)) (sym is) refl;
  }

-- a call of a caller, as an answer to the holder that it is
pub answered_by : (caps : Limits) (start next : Caller) (event : Event) (answer : Answer)
    → Calls caps start.number event answer (view start.pass) (view next.pass)
    → Answered (holder_of caps start) event answer (seen_by start) (seen_by next)
answered_by caps start next event answer calls = answered_in caps start.number event answer (view start.pass) (view next.pass) calls

-- releases, one after another
pub released_in : (caps : Limits) (caller count made : ℕ) (v w : View) → Released caps caller count made v w
    → (number_of w ≡ number_of v) × Releases (record { caps = caps; token = number_of v; caller = caller }) count v.seen w.seen
released_in caps caller zero made v w (is, none) = (ap number_of is, ap (λ (u : View). u.seen) is)
released_in caps caller (suc count) made v w (between, before, last, is, earlier, one) =
    let first = released_in caps caller count before v between earlier in (
      ap number_of one.3.once ∙ first.0,
      (
        between.seen,
        one.0,
        one.1,
        first.1,
        subst (λ (n : ℕ). Answered (record { caps = caps; token = n; caller = caller }) release (released one.0 one.1) between.seen w.seen) first.0
            (answered_in caps caller release (released one.0 one.1) between w one.3),
      ),
    )

-- a pump: its releases, and the place where it ends
pub pumped_by : (caps : Limits) (start next : Caller) (pumped : Pumped) → Pumps caps start.number pumped (view start.pass) (view next.pass)
    → (place : List Seen) × Releases (holder_of caps start) pumped.released (seen_by start) place
    × Answered (holder_of caps start) release (end_of pumped.end) place (seen_by next)
pumped_by caps start next pumped pumps =
    let first = released_in caps start.number pumped.released pumped.calls (view start.pass) pumps.between pumps.releases in (
      pumps.between.seen,
      first.1,
      subst (λ (n : ℕ). Answered (record { caps = caps; token = n; caller = start.number }) release (end_of pumped.end) pumps.between.seen (seen_by next))
          first.0
          (answered_in caps start.number release (end_of pumped.end) pumps.between (view next.pass) pumps.last),
    )

-- it stays the same holder
pub pumped_holder : (caps : Limits) (start next : Caller) (pumped : Pumped) → next.number ≡ start.number
    → Pumps caps start.number pumped (view start.pass) (view next.pass) → holder_of caps next ≡ holder_of caps start
pumped_holder caps start next pumped same pumps i =
    let first = released_in caps start.number pumped.released pumped.calls (view start.pass) pumps.between pumps.releases in
    record { caps = caps; token = (ap number_of pumps.last.once ∙ first.0) i; caller = same i }

-- it has made no tokens
released_made : (caps : Limits) (caller count made : ℕ) (v w : View) → Released caps caller count made v w → w.made ≡ v.made
released_made caps caller zero made v w (is, none) = ap (λ (u : View). u.made) is
released_made caps caller (suc count) made v w (between, before, last, is, earlier, one) =
    ap (λ (u : View). u.made) one.3.once ∙ released_made caps caller count before v between earlier

pub pumped_made : (caps : Limits) (start next : Caller) (pumped : Pumped) → Pumps caps start.number pumped (view start.pass) (view next.pass)
    → (view next.pass).made ≡ (view start.pass).made
pumped_made caps start next pumped pumps =
    ap (λ (u : View). u.made) pumps.last.once
    ∙ released_made caps start.number pumped.released pumped.calls (view start.pass) pumps.between pumps.releases
