-- Performances, some entries on.
use Rattle.std.proofs.Common.{◌≡◌, ◌<◌, Bool, true, false, cond, List, [], ◌∷◌, ◌++◌, refl, sym, ap, ◌∙◌, append_assoc, arith}
use Rattle.std.proofs.lemmas.List.{append-nil}
use Rattle.osc_model.specs.State.{State, opening}
use Rattle.osc_model.specs.Events.{Event, Answer, adds_entry, Entry}
use Rattle.osc_model.specs.Step.{Stepped, step}
use Rattle.osc_model.specs.History.{Performance, after, state_of, stepped_in, onward}
use Rattle.osc_model.proofs.Stepping.{step_so, decided_so}
use Rattle.osc_model.proofs.Onward.{after_more}
use Rattle.osc_player.specs.Plain.{entry_of, entry_if}
use Rattle.osc_player.specs.Bank.{answer_to_add, add_answers}
use Rattle.osc_player.specs.Tally.{played_on}

pub on_none : (performance : Performance) → played_on performance [] ≡ performance
on_none performance = ap (λ (history : List Entry). record performance { history = history }) (append-nil performance.history)

pub on_more : (performance : Performance) (first more : List Entry) → played_on (played_on performance first) more ≡ played_on performance (first ++ more)
on_more performance first more = ap (λ (history : List Entry). record performance { history = history }) (append_assoc performance.history first more)

pub on_state : (performance : Performance) (entries : List Entry) → state_of (played_on performance entries) ≡ after (state_of performance) entries
on_state performance entries = after_more (opening performance.caps) performance.history entries

-- one event of caller 0
pub onward_is : (performance : Performance) (event : Event) → onward performance 0 event ≡ played_on performance (entry_if (state_of performance) event)
onward_is performance event = go (adds_entry (stepped_in performance event).answer) where
  go : (t : Bool) → cond t (played_on performance (entry_of (state_of performance) event ∷ [])) performance
      ≡ played_on performance (cond {A = List Entry} t (entry_of (state_of performance) event ∷ []) [])
  go true = refl
  go false = sym (on_none performance)

pub onward_none : (performance : Performance) (event : Event) → adds_entry (stepped_in performance event).answer ≡ false
    → onward performance 0 event ≡ performance
onward_none performance event none = ap (λ (t : Bool). cond t (played_on performance (entry_of (state_of performance) event ∷ [])) performance) none

pub onward_one : (performance : Performance) (event : Event) → adds_entry (stepped_in performance event).answer ≡ true
    → onward performance 0 event ≡ played_on performance (entry_of (state_of performance) event ∷ [])
onward_one performance event one = ap (λ (t : Bool). cond t (played_on performance (entry_of (state_of performance) event ∷ [])) performance) one

-- what the adds of more entries are answered
pub answers-append : (xs ys : List Entry) → add_answers (xs ++ ys) ≡ add_answers xs ++ add_answers ys
answers-append [] ys = refl
answers-append (entry ∷ xs) ys =
    let here = answer_to_add entry.event entry.answer in
    ap (λ (l : List Answer). here ++ l) (answers-append xs ys) ∙ sym (append_assoc here (add_answers xs) (add_answers ys))

-- callers never leave
abbrev pub HasCallers : Stepped → Type 0
HasCallers stepped = 0 < stepped.state.callers

pub one_caller : (state : State) (event : Event) → 0 < state.callers → HasCallers (step state event)
one_caller state event some =
    let decides = decided_so (λ e stepped. HasCallers stepped) state event
    (record {
      refused = λ e answer is. some;
      enrolled = omega arith;
      queued = λ packet. some;
      added = λ address. some;
      removed = λ address id. some;
      ticked = λ now on. some;
      released = λ unit units is. some;
    }) in
    step_so HasCallers state event (record { silent = λ none. decides; full = λ adds full. some; room = λ adds fits. decides })

pub callers_stay : (state : State) (entries : List Entry) → 0 < state.callers → 0 < (after state entries).callers
callers_stay state [] some = some
callers_stay state (entry ∷ entries) some = callers_stay (step state entry.event).state entries (one_caller state entry.event some)
