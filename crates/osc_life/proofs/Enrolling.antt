-- Caller 0 enrols callers, one after another.
use Rattle.std.proofs.Common.{◌≡◌, ℕ, zero, suc, ◌+◌, ◌<◌, ◌≤◌, ◌==◌, Bool, true, false, cond, eqb, List, [], ◌∷◌, ◌++◌, length, Option, None, Some, refl, sym}
use Rattle.std.proofs.Common.{ap, subst, ◌∙◌, arith, eqb-true, length-append, append-nil, append_assoc}
use Rattle.std.specs.List.{AllByRecursion}
use Rattle.std.proofs.lemmas.List.{map-append}
use Rattle.std.proofs.lemmas.List.Elements.{All-nil, All-push}
use Rattle.osc_model.specs.Limits.{Limits}
use Rattle.osc_model.specs.State.{State, opening}
use Rattle.osc_model.specs.Events.{enrol, Answer, number, callers_full, record_full, Entry, Room}
use Rattle.osc_model.specs.Enrolled.{callers_in, enrols}
use Rattle.osc_tree.specs.Adding.{Refusal}
use Rattle.osc_model.specs.Step.{step, decided, leaves, add_at, remove_at}
use Rattle.osc_model.specs.History.{Legal, after, stepped_in}
use Rattle.osc_model.proofs.Stepping.{step_so}
use Rattle.osc_model.proofs.Keeping.{after_keeps}
use Rattle.osc_model.proofs.Onward.{legal_split}
use Rattle.osc_turn.specs.declared.view.Entry.{Entry as Seen}
use Rattle.osc_turn.specs.declared.view.View.{View}
use Rattle.osc_turn.specs.History.{StartsWith, texts, entry, own}
use Rattle.osc_turn.specs.Rule.{number_of}
use Rattle.osc_turn.specs.Rule as rule
use Rattle.osc_turn.specs.Passes.{view, one_more}
use Rattle.osc_live.specs.declared.caller.Caller.{Caller}
use Rattle.osc_live.specs.declared.guest.EnrolRefusal.{EnrolRefusal}
use Rattle.osc_live.specs.declared.guest.EnrolRefusal.TheVariants as refusal
use Rattle.osc_live.specs.Enrolments.{refusal_of}
use Rattle.osc_live.specs.Seen.{history_of, performance_in}
use Rattle.osc_live.specs.Calls.{Calls, EndsWith}
use Rattle.osc_live.proofs.Answered.{texts_more}
use Rattle.osc_live.proofs.Pumping.{own_few}
use Rattle.osc_live.proofs.Resumed.{opened_texts}
use Rattle.osc_record.specs.Shown.{room_of}
use Rattle.osc_core.specs.Standing.{history_in}
use Rattle.osc_core.proofs.Texts.{read_more}
use Rattle.osc_life.specs.Crews.{enrolments}
use Rattle.osc_life.specs.Crews.{names_of, same_names, IsSilent, IsCrewFrom, HasCallers, IsLeft, FindsNoRoom}
use Rattle.osc_life.proofs.Enrolments.{all_own, all_before}

-- What is seen is all a token's own.

all_mine : (token : ℕ) (history : List Seen) → own token history ≡ history → AllByRecursion (λ one. one.number ≡ token) history
all_mine token [] is = tt
all_mine token (one ∷ history) is = go (eqb one.number token) refl is (all_mine token history) where
  go : (t : Bool) → eqb one.number token ≡ t → cond t (one ∷ own token history) (own token history) ≡ one ∷ history
      → (own token history ≡ history → AllByRecursion (λ other. other.number ≡ token) history)
      → AllByRecursion (λ other. other.number ≡ token) (one ∷ history)
  go true e is rest = (eqb-true one.number token e, rest (cc))
  go false e is rest = absurd (omega (arith, ap length is, own_few token history))

pub own_before : (token : ℕ) (history seen : List Seen) → StartsWith history seen → own token history ≡ history → own token seen ≡ seen
own_before token history seen starts is =
    all_own token seen (all_before (λ one. one.number ≡ token) seen starts.0 history starts.1 (all_mine token history is))

pub init_same : {X : Type 0} (xs ys : List X) (x y : X) → xs ++ x ∷ [] ≡ ys ++ y ∷ [] → xs ≡ ys
init_same [] [] x y e = refl
init_same [] (b ∷ ys) x y e = absurd (omega (arith, ap length e, length-append ys (y ∷ [])))
init_same (a ∷ xs) [] x y e = absurd (omega (arith, ap length e, length-append xs (x ∷ [])))
init_same (a ∷ xs) (b ∷ ys) x y e =
    let head : a ≡ b = cc in
    let tail : xs ++ x ∷ [] ≡ ys ++ y ∷ [] = cc in
    λ i. head i ∷ init_same xs ys x y tail i

-- Enrolments.

abbrev enrolled_as : ℕ → Entry
enrolled_as n = record { caller = 0; event = enrol; answer = number n }

enrolments_push : (first count : ℕ) → enrolments first count ++ enrolled_as (first + count) ∷ [] ≡ enrolments first (suc count)
enrolments_push first zero = ap (λ (n : ℕ). enrolled_as n ∷ []) (omega arith)
enrolments_push first (suc count) =
    let shifted : first + suc count ≡ (first + 1) + count = omega arith in
    ap (λ (l : List Entry). enrolled_as first ∷ l)
    (ap (λ (n : ℕ). enrolments (first + 1) count ++ enrolled_as n ∷ []) shifted ∙ enrolments_push (first + 1) count)

pub names_push : (first count : ℕ) → same_names first count ++ (first + count, first + count) ∷ [] ≡ same_names first (suc count)
names_push first zero = ap (λ (n : ℕ). (n, n) ∷ []) (omega arith)
names_push first (suc count) =
    let shifted : first + suc count ≡ (first + 1) + count = omega arith in
    ap (λ (l : List (ℕ × ℕ)). (first, first) ∷ l)
    (ap (λ (n : ℕ). same_names (first + 1) count ++ (n, n) ∷ []) shifted ∙ names_push (first + 1) count)

counted : (first count : ℕ) (more : List Entry) → callers_in (enrolments first count ++ more) ≡ count + callers_in more
counted first zero more = omega arith
counted first (suc count) more = omega (arith, counted (first + 1) count more)

-- what stands before enrolments counts as it did
counted_from : (start : List Entry) (first count : ℕ) (more : List Entry)
    → callers_in (start ++ (enrolments first count ++ more)) + 1 ≡ callers_in start + (count + callers_in more)
counted_from [] first count more = omega (arith, counted first count more)
counted_from (entry ∷ start) first count more = go (enrols entry.answer) (counted_from start first count more) where
  go : (t : Bool) → callers_in (start ++ (enrolments first count ++ more)) + 1 ≡ callers_in start + (count + callers_in more)
      → cond t (callers_in (start ++ (enrolments first count ++ more)) + 1) (callers_in (start ++ (enrolments first count ++ more))) + 1
      ≡ cond t (callers_in start + 1) (callers_in start) + (count + callers_in more)
  go true so = omega (arith, so)
  go false so = so

-- An enrolment that is answered that there are as many callers as there may be.

added_caps : (caps : Limits) (state : State) (address : List ℕ) (refusal : Option Refusal) → state.caps ≡ caps
    → (add_at state address refusal).state.caps ≡ caps
added_caps caps state address None same = same
added_caps caps state address (Some refusal) same = same

removed_caps : (caps : Limits) (state : State) (address : List ℕ) (found : Option ℕ) → state.caps ≡ caps
    → (remove_at state address found).state.caps ≡ caps
removed_caps caps state address None same = same
removed_caps caps state address (Some id) same = same

caps_kept : (caps : Limits) (history : List Entry) → (after (opening caps) history).caps ≡ caps
caps_kept caps history =
    after_keeps (λ state. state.caps ≡ caps)
    (record {
      callers = λ state callers same. same;
      clock = λ state clock on same. same;
      queue = λ state queue next_unit same. same;
      added = added_caps caps;
      removed = removed_caps caps;
      recorded = λ state recorded same. same;
    })
    (opening caps) history refl

full_at : (state : State) → callers_full ≡ (step state enrol).answer → state.callers ≡ state.caps.callers
full_at state =
    step_so (λ stepped. callers_full ≡ stepped.answer → state.callers ≡ state.caps.callers) state enrol
    (record { silent = λ none. here; full = λ some full is. absurd (cc); room = λ some fits. here })
  where
    here : callers_full ≡ (decided state enrol).answer → state.callers ≡ state.caps.callers
    here = go (state.callers == state.caps.callers) refl where
      go : (t : Bool) → (state.callers == state.caps.callers) ≡ t
          → callers_full ≡ (cond t (leaves state callers_full) (leaves (record state { callers = state.callers + 1 }) (number state.callers))).answer
          → state.callers ≡ state.caps.callers
      go true e is = eqb-true state.callers state.caps.callers e
      go false e is = absurd (cc)

-- what is known of how many callers a history enrols
pub record CountsCallers : Type 0 where
  pub after : (caps : Limits) (history : List Entry) → Legal caps history → (after (opening caps) history).callers ≡ callers_in history
  pub enrolled : (caps : Limits) (history : List Entry) (caller n : ℕ)
      → Legal caps (history ++ record { caller = caller; event = enrol; answer = number n } ∷ [])
      → (1 ≤ n) × (callers_in (history ++ record { caller = caller; event = enrol; answer = number n } ∷ []) ≡ n + 1)

-- One enrolment more.

module _ (next : ℕ) (caps : Limits) (start : List Entry) (made : ℕ) (v w : View) (callers : List Caller) (crew : IsCrewFrom next start made v callers) where
  -- what stands after so many enrolments
  abbrev Enrolled : ℕ → List Entry
  Enrolled count = start ++ enrolments next count

  abbrev Enrols : Answer → Type 0
  Enrols answer = Calls caps 0 enrol answer (one_more v) w

  token_then : {answer : Answer} → Enrols answer → number_of w ≡ 0
  token_then calls = ap number_of calls.once ∙ crew.token

  made_then : {answer : Answer} → Enrols answer → w.made ≡ made + 1
  made_then calls = ap (λ (z : View). z.made) calls.once ∙ ap (λ (n : ℕ). n + 1) crew.made_is

  -- what stands before the entry, where all that is seen then is caller 0's
  record Adds (answer : Answer) : Type 0 where
    was : own 0 v.seen ≡ v.seen
    before : (history_of v ≡ Enrolled (length callers)) × (names_of callers ≡ same_names next (length callers))
    history : history_of w ≡ Enrolled (length callers) ++ record { caller = 0; event = enrol; answer = answer } ∷ []
    answered : answer ≡ (stepped_in (record { caps = caps; history = Enrolled (length callers) }) enrol).answer

  adds : (answer : Answer) → Enrols answer → EndsWith caps 0 enrol answer (one_more v) w → own 0 w.seen ≡ w.seen → Adds answer
  adds answer calls ends alone =
      let was : own 0 v.seen ≡ v.seen = own_before 0 w.seen v.seen calls.goes_on alone in
      let before = crew.alone was in
      let one : Entry = record { caller = 0; event = enrol; answer = answer } in
      let last : w.seen ≡ v.seen ++ entry (number_of v) ends.text ∷ [] =
      sym alone ∙ subst (λ (n : ℕ). own n w.seen ≡ own n v.seen ++ entry (number_of v) ends.text ∷ []) crew.token ends.own_once
      ∙ ap (λ (l : List Seen). l ++ entry (number_of v) ends.text ∷ []) was in
      let place : ends.before ≡ v.seen =
      init_same ends.before v.seen (entry (number_of v) ends.text) (entry (number_of v) ends.text) (sym ends.last ∙ last) in
      record {
        was = was;
        before = before;
        history = ap (λ (l : List Seen). history_in (texts l)) last ∙ ap history_in (texts_more v.seen (entry (number_of v) ends.text))
            ∙ read_more (texts v.seen) ends.text one ends.read ∙ ap (λ (l : List Entry). l ++ one ∷ []) before.0;
        answered = ends.answered
            ∙ ap (λ (l : List Seen). (stepped_in (performance_in caps (texts l)) enrol).answer) place
            ∙ ap (λ (l : List Entry). (stepped_in (record { caps = caps; history = l }) enrol).answer) before.0;
      }

  -- a caller more
  pub crew_more : (own 0 v.seen ≡ v.seen → callers_in start ≡ next) → CountsCallers → (new : Caller) → Enrols (number new.number) → made ≡ next + length callers →
      number_of (view new.pass) ≡ v.made
      → IsSilent new → IsCrewFrom next start (made + 1) w (callers ++ new ∷ [])
  crew_more none counts new calls many token silent = record {
    token = token_then calls;
    made_is = made_then calls;
    silent = All-push IsSilent callers new crew.silent silent;
    alone = λ alone.
        let a = adds (number new.number) calls calls.answered alone in
        let legal = counts.enrolled caps (Enrolled (length callers)) 0 new.number (subst (Legal caps) a.history calls.legal) in
        let all = ap callers_in (append_assoc start (enrolments next (length callers)) (enrolled_as new.number ∷ [])) in
        let numbered : new.number ≡ next + length callers =
        omega (arith, legal.1, all, counted_from start next (length callers) (enrolled_as new.number ∷ []), none a.was) in
        let longer : length (callers ++ new ∷ []) ≡ suc (length callers) = omega (arith, length-append callers (new ∷ [])) in
        let name : (new.number, number_of (view new.pass)) ≡ (next + length callers, next + length callers) =
        λ i. (numbered i, (token ∙ crew.made_is ∙ many) i) in (
          a.history ∙ ap (λ (n : ℕ). Enrolled (length callers) ++ enrolled_as n ∷ []) numbered
              ∙ append_assoc start (enrolments next (length callers)) (enrolled_as (next + length callers) ∷ [])
              ∙ ap (λ (l : List Entry). start ++ l) (enrolments_push next (length callers)) ∙ ap Enrolled (sym longer),
          map-append (λ (caller : Caller). (caller.number, number_of (view caller.pass))) callers (new ∷ [])
              ∙ (λ i. a.before.1 i ++ name i ∷ []) ∙ names_push next (length callers) ∙ ap (same_names next) (sym longer),
        );
  }

  -- no caller more, where there is no room
  crew_full : (room : Room) → Enrols (record_full room) → IsCrewFrom next start (made + 1) w callers
  crew_full room calls = record {
    token = token_then calls;
    made_is = made_then calls;
    silent = crew.silent;
    alone = λ alone.
        let was : own 0 v.seen ≡ v.seen = own_before 0 w.seen v.seen calls.goes_on alone in
        let same : w.seen ≡ v.seen =
        sym alone ∙ subst (λ (n : ℕ). own n w.seen ≡ own n v.seen) crew.token calls.answered.own_same ∙ was in
        let before = crew.alone was in
        (ap (λ (l : List Seen). history_in (texts l)) same ∙ before.0, before.1);
  }

  -- there are fewer callers than there may be
  never_full : (own 0 v.seen ≡ v.seen → callers_in start ≡ next) → CountsCallers → Enrols callers_full → next + length callers < caps.callers → own 0 w.seen ≡ w.seen
      → ⊥
  never_full none counts calls few alone =
      let a = adds callers_full calls calls.answered alone in
      let before = Enrolled (length callers) in
      let legal = subst (Legal caps) a.history calls.legal in
      let split = legal_split (opening caps) before (record { caller = 0; event = enrol; answer = callers_full } ∷ []) legal.1 in
      let state = after (opening caps) before in
      let full = full_at state a.answered in
      let many : callers_in before ≡ next + length callers =
      omega (
        arith,
        ap (λ (l : List Entry). callers_in (start ++ l)) (append-nil (enrolments next (length callers))),
        counted_from start next (length callers) [],
        none a.was,
      ) in
      omega (arith, full, ap (λ (l : Limits). l.callers) (caps_kept caps before), counts.after caps before (legal.0, split.0), many)

  pub crew_refused : (own 0 v.seen ≡ v.seen → callers_in start ≡ next) → CountsCallers → (why : EnrolRefusal) → Enrols (refusal_of why) → next + length callers <
      caps.callers
      → IsCrewFrom next start (made + 1) w callers × FindsNoRoom caps w why
  crew_refused none counts (refusal.RecordFull room) calls few = (crew_full (room_of room) calls, λ alone. (room_of room, refl, calls.answered.answered))
  crew_refused none counts refusal.CallersFull calls few = (
    record {
      token = token_then calls;
      made_is = made_then calls;
      silent = crew.silent;
      alone = λ alone. absurd (never_full none counts calls few alone);
    },
    λ alone. absurd (never_full none counts calls few alone),
  )

-- caller 0 who has the entries of a past knows how many callers it had
pub left_counted : (past : List (List ℕ)) (v : View) (others : List Caller) → IsLeft past v others → HasCallers v.made v
left_counted past v others left = record {
  token = left.token;
  made_is = refl;
  counted = λ alone. ap (λ (l : List Seen). callers_in (history_in (texts l))) left.seen_is
      ∙ ap (λ (l : List (List ℕ)). callers_in (history_in l)) (opened_texts past) ∙ left.old.counted ∙ sym left.made_is;
}

-- what it has seen are these entries
pub left_history : (past : List (List ℕ)) (v : View) (others : List Caller) → IsLeft past v others → history_of v ≡ history_in past
left_history past v others left = ap (λ (l : List Seen). history_in (texts l)) left.seen_is ∙ ap history_in (opened_texts past)

-- a new server has no past
pub new_left : (kind : List ℕ) (v : View) → v ≡ rule.opening kind → IsLeft [] v []
new_left kind v is =
    subst (λ (u : View). IsLeft [] u []) (sym is)
    (record { token = refl; made_is = refl; seen_is = refl; old = record { counted = refl; named = refl; silent = All-nil IsSilent } })
