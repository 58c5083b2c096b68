-- An enrolment, between two meetings.
use Rattle.std.proofs.Common.{◌≡◌, ℕ, ◌+◌, ◌<◌, ◌≤◌, Bool, true, false, cond, List, [], ◌∷◌, ◌++◌, length, length-append, MatchBool, sym, ap, subst, ◌∙◌, arith}
use Rattle.std.proofs.Common.{le-leb}
use Rattle.osc_model.specs.Limits.{Limits}
use Rattle.osc_model.specs.Enrolled.{callers_in}
use Rattle.osc_model.specs.Events.{Event, enrol, Answer, number, adds_entry, Entry}
use Rattle.osc_model.specs.History.{Legal}
use Rattle.osc_core.specs.Standing.{history_in}
use Rattle.osc_core.proofs.Texts.{read_more}
use Rattle.osc_turn.specs.declared.view.Entry.{Entry as Seen}
use Rattle.osc_turn.specs.declared.view.View.{View}
use Rattle.osc_turn.specs.History.{StartsWith, texts, entry, own}
use Rattle.osc_turn.specs.Rule.{number_of}
use Rattle.osc_turn.specs.Steps.{longer}
use Rattle.osc_turn.specs.Passes.{met_by}
use Rattle.osc_turn.proofs.Histories.{starts_on}
use Rattle.osc_live.specs.Seen.{history_of, names_own}
use Rattle.osc_live.specs.Calls.{EndsWith, AddsNone, Calls}
use Rattle.osc_live.proofs.Answered.{texts_more, kept_named}

-- a call of a token that was told before it is one of the token as it was
pub calls_met : (caps : Limits) (caller : ℕ) (event : Event) (answer : Answer) (v g v1 w : View) → v1 ≡ met_by v g → StartsWith v1.seen v.seen
    → own (number_of v) v1.seen ≡ own (number_of v) v.seen → Calls caps caller event answer v1 w → Calls caps caller event answer v w
calls_met caps caller event answer v g v1 w is starts own_same calls =
    go (subst (λ (u : View). Calls caps caller event answer u w) is calls) (subst (λ (u : View). StartsWith u.seen v.seen) is starts)
    (sym (ap (λ (u : View). own (number_of v) u.seen) is) ∙ own_same) where
      go : Calls caps caller event answer (met_by v g) w → StartsWith (met_by v g).seen v.seen → own (number_of v) (met_by v g).seen ≡ own (number_of v) v.seen
          → Calls caps caller event answer v w
      go calls starts same = record {
        goes_on = starts_on w.seen (met_by v g).seen v.seen calls.goes_on starts;
        legal = calls.legal;
        written = calls.written;
        answered = answered (adds_entry answer) calls.answered;
        once = calls.once;
        counted = calls.counted;
      }
        where
          answered : (t : Bool) → MatchBool t (EndsWith caps caller event answer (met_by v g) w) (AddsNone caps event answer (met_by v g) w)
              → MatchBool t (EndsWith caps caller event answer v w) (AddsNone caps event answer v w)
          answered true ends =
              record {
                before = ends.before;
                text = ends.text;
                mark = ends.mark;
                last = ends.last;
                text_is = ends.text_is;
                read = ends.read;
                answered = ends.answered;
                own_once = ends.own_once ∙ ap (λ (l : List Seen). l ++ entry (number_of v) ends.text ∷ []) same;
              }
          answered false none = record { answered = none.answered; own_same = none.own_same ∙ same }

abbrev pub Enrols : Type 0
Enrols = (caps : Limits) (history : List Entry) (caller n : ℕ) → Legal caps (history ++ record { caller = caller; event = enrol; answer = number n } ∷ [])
    → (1 ≤ n) × (callers_in (history ++ record { caller = caller; event = enrol; answer = number n } ∷ []) ≡ n + 1)

-- the new caller is enrolled in what was seen
pub newly_enrolled : Enrols → (caps : Limits) (caller n : ℕ) (v w : View) → Calls caps caller enrol (number n) v w → (1 ≤ n) × (n < callers_in (history_of w))
newly_enrolled enrols caps caller n v w calls =
    let ends : EndsWith caps caller enrol (number n) v w = calls.answered in
    let one : Entry = record { caller = caller; event = enrol; answer = number n } in
    let history : history_of w ≡ history_in (texts ends.before) ++ one ∷ [] =
    ap history_in (ap texts ends.last ∙ texts_more ends.before (entry (number_of v) ends.text)) ∙ read_more (texts ends.before) ends.text one ends.read in
    let next = enrols caps (history_in (texts ends.before)) caller n (subst (Legal caps) history calls.legal) in
    (next.0, omega (arith, next.1, ap callers_in history))

-- what was told is the longer list
pub longer_is : (a b : List Seen) → StartsWith b a → longer a b ≡ b
longer_is a b (rest, is) = ap (λ (t : Bool). cond t b a) (le-leb (length a) (length b) (omega (arith, ap length is, length-append a rest)))

-- a token that is told stays its caller's
pub met_named : (caller : ℕ) (v g v1 : View) → v1 ≡ met_by v g → own (number_of v) v1.seen ≡ own (number_of v) v.seen → names_own caller v ≡ true
    → names_own caller v1 ≡ true
met_named caller v g v1 is same named = kept_named caller v v1 (ap number_of is) (ap (λ (z : View). z.opened_at) is) same named

-- a guest that is told what was seen then has seen it
pub told_all : (g w g1 : View) → g1 ≡ met_by g w → StartsWith w.seen g.seen → g1.seen ≡ w.seen
told_all g w g1 is starts = ap (λ (u : View). u.seen) is ∙ longer_is g.seen w.seen starts
