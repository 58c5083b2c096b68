-- Ids are given once, and only grow.
use Rattle.std.proofs.Common.{◌≡◌, ℕ, ◌+◌, ◌<◌, ◌≤◌, not, List, Option, Some, None, All, sym, ap, subst, arith}
use Rattle.std.specs.Str.{bytes_eq}
use Rattle.std.proofs.lemmas.List.Elements.{All-filter}
use Rattle.osc_tree.specs.Adding.{Refusal}
use Rattle.osc_model.specs.State.{State}
use Rattle.osc_model.specs.Events.{Event, Entry, Answer, added}
use Rattle.osc_model.specs.Refusals.{IsRefusal}
use Rattle.osc_model.specs.Step.{Stepped, step, decided, add_at, remove_at}
use Rattle.osc_model.specs.History.{after}
use Rattle.osc_model.proofs.Stepping.{step_so, decided_so}
use Rattle.osc_model.proofs.Keeping.{after_keeps}
use Rattle.osc_model.proofs.Soundness.{one_more_given}

-- The next id grows.

added_grows : (least : ℕ) (state : State) (address : List ℕ) (refusal : Option Refusal) → least ≤ state.next_id
    → least ≤ (add_at state address refusal).state.next_id
added_grows least state address None grown = omega arith
added_grows least state address (Some refusal) grown = grown

removed_grows : (least : ℕ) (state : State) (address : List ℕ) (found : Option ℕ) → least ≤ state.next_id
    → least ≤ (remove_at state address found).state.next_id
removed_grows least state address None grown = grown
removed_grows least state address (Some id) grown = grown

pub next_grows : (state : State) (history : List Entry) → state.next_id ≤ (after state history).next_id
next_grows state history =
    after_keeps (λ later. state.next_id ≤ later.next_id)
    (record {
      callers = λ later callers grown. grown;
      clock = λ later clock on grown. grown;
      queue = λ later queue next_unit grown. grown;
      added = added_grows state.next_id;
      removed = removed_grows state.next_id;
      recorded = λ later recorded grown. grown;
    })
    state history (omega arith)

-- Each id was given.

abbrev AreGiven : State → Type 0
AreGiven state = All (λ method. method.id < state.next_id) state.methods

added_given : (state : State) (address : List ℕ) (refusal : Option Refusal) → AreGiven state → AreGiven (add_at state address refusal).state
added_given state address None given = one_more_given state.next_id state.methods address given
added_given state address (Some refusal) given = given

removed_given : (state : State) (address : List ℕ) (found : Option ℕ) → AreGiven state → AreGiven (remove_at state address found).state
removed_given state address None given = given
removed_given state address (Some id) given =
    All-filter (λ method. not (bytes_eq method.address address)) (λ method. method.id < state.next_id) state.methods given

pub ids_given : (state : State) (history : List Entry) → AreGiven state → AreGiven (after state history)
ids_given state history given =
    after_keeps AreGiven
    (record {
      callers = λ later callers given. given;
      clock = λ later clock on given. given;
      queue = λ later queue next_unit given. given;
      added = added_given;
      removed = removed_given;
      recorded = λ later recorded given. given;
    })
    state history given

-- An added method has the next id.

abbrev AddsNext : State → Stepped → Type 0
AddsNext state stepped = (id : ℕ) → stepped.answer ≡ added id → (id ≡ state.next_id) × (stepped.state.next_id ≡ id + 1)

next_given : (next id : ℕ) → added next ≡ added id → (id ≡ next) × (next + 1 ≡ id + 1)
next_given next id is = let same : next ≡ id = cc in (sym same, ap (λ (n : ℕ). n + 1) same)

not_added : (answer : Answer) (id : ℕ) → IsRefusal answer → answer ≡ added id → ⊥
not_added answer id refusal is = subst IsRefusal is refusal

decided_next : (state : State) (event : Event) → AddsNext state (decided state event)
decided_next state event =
    decided_so (λ event stepped. AddsNext state stepped) state event
    (record {
      refused = λ event answer refusal id is. absurd (not_added answer id refusal is);
      enrolled = λ id is. absurd (cc);
      queued = λ packet id is. absurd (cc);
      added = λ address id is. next_given state.next_id id is;
      removed = λ address other id is. absurd (cc);
      ticked = λ now later id is. absurd (cc);
      released = λ unit units first id is. absurd (cc);
    })

pub step_next : (state : State) (event : Event) → AddsNext state (step state event)
step_next state event =
    step_so (AddsNext state) state event
    (record { silent = λ none. decided_next state event; full = λ some full id is. absurd (cc); room = λ some fits. decided_next state event })
