-- Each invocation is of a unit that was released at its tag or after it.
use Rattle.std.proofs.Common.{◌≡◌, ◌⊎◌, inl, inr, ℕ, ◌≤◌, List, [], ◌∷◌, ◌++◌, refl, sym, ap, subst, ◌∙◌, append_assoc, arith}
use Rattle.std.specs.List.{AllByRecursion}
use Rattle.std.proofs.lemmas.List.Elements.{All-from_recursion, recursion_from_All}
use Rattle.std.proofs.lemmas.List.Sorted.{All-permutation}
use Rattle.osc_queue.specs.Timed.{unit_of, due_of}
use Rattle.osc_model.specs.Limits.{Limits}
use Rattle.osc_model.specs.State.{State, opening}
use Rattle.osc_model.specs.Events.{Event, release, released, Call, Invocation, Entry}
use Rattle.osc_model.specs.Step.{Stepped, step, decided, calls_of_unit, hits_of, invocations_of}
use Rattle.osc_model.specs.Releases.{ReleasesLeast, TakesLeast}
use Rattle.osc_model.specs.History.{Legal, after, invocations}
use Rattle.osc_model.proofs.Stepping.{step_so, decided_so}
use Rattle.osc_model.proofs.Onward.{after_more, legal_split}
use Rattle.osc_model.proofs.Calls.{all_append}
use Rattle.osc_laws.specs.Facts.{clock_in}
use Rattle.osc_laws.specs.Exactly.{IsInTime}
use Rattle.osc_laws.proofs.ReadOff.{clock_is}
use Rattle.osc_laws.proofs.Units.{IsWaiting, units_are}

-- a release takes the least unit
abbrev pub TakesTheLeast : Type 0
TakesTheLeast = (caps : Limits) (history : List Entry) → Legal caps history
    → ReleasesLeast (after (opening caps) history) (step (after (opening caps) history) release)

-- an event that is no release invokes nothing
abbrev InvokesByRelease : Event → Stepped → Type 0
InvokesByRelease event stepped = (stepped.invocations ≡ []) ⊎ (event ≡ release)

decided_by_release : (state : State) (event : Event) → InvokesByRelease event (decided state event)
decided_by_release state event =
    decided_so InvokesByRelease state event
    (record {
      refused = λ event answer is. inl refl;
      enrolled = inl refl;
      queued = λ packet. inl refl;
      added = λ address. inl refl;
      removed = λ address id. inl refl;
      ticked = λ now later. inl refl;
      released = λ unit units first. inr refl;
    })

step_by_release : (state : State) (event : Event) → InvokesByRelease event (step state event)
step_by_release state event =
    step_so (InvokesByRelease event) state event
    (record { silent = λ none. decided_by_release state event; full = λ some full. inl refl; room = λ some fits. decided_by_release state event })

pub each_of_unit : (P : Invocation → Type 0) (number : ℕ) (calls : List Call) → ((call : Call) → P (record { unit = number; call = call }))
    → AllByRecursion P (invocations_of number calls)
each_of_unit P number [] holds = tt
each_of_unit P number (call ∷ calls) holds = (holds call, each_of_unit P number calls holds)

-- what holds of all that waits holds of the unit that is taken
pub taken_waits : (history : List Entry) (state : State) (stepped : Stepped) (taken : TakesLeast state stepped) → AllByRecursion (IsWaiting history) state.queue
    → IsWaiting history taken.unit
taken_waits history state stepped taken wait =
    let all = All-permutation (IsWaiting history) state.queue (taken.unit ∷ stepped.state.queue) taken.others
    (All-from_recursion (IsWaiting history) state.queue wait) in
    (recursion_from_All (IsWaiting history) (taken.unit ∷ stepped.state.queue) all).0

-- the unit that is taken at a release is in time
taken_in_time : (caps : Limits) (before later : List Entry) (entry : Entry) → Legal caps (before ++ entry ∷ later) → entry.event ≡ release
    → (taken : TakesLeast (after (opening caps) before) (step (after (opening caps) before) release)) (call : Call)
    → IsInTime (before ++ entry ∷ later) (record { unit = unit_of taken.unit; call = call })
taken_in_time caps before later entry legal is taken call =
    let state = after (opening caps) before in
    let parts = legal_split (opening caps) before (entry ∷ later) legal.1 in
    let begun : Legal caps before = (legal.0, parts.0) in
    let hits = hits_of (calls_of_unit state.methods taken.unit) in
    let answer : entry.answer ≡ released (unit_of taken.unit) hits = parts.1.3 ∙ ap (λ (e : Event). (step state e).answer) is ∙ taken.answer in
    let waits = taken_waits before state (step state release) taken (units_are caps before begun) in
    record {
      before = before;
      hits = hits;
      later = later;
      place = (entry.caller, λ i. before ++ record { caller = entry.caller; event = is i; answer = answer i } ∷ later);
      unit = taken.unit.2;
      unit_is = waits.0;
      in_time = in_order taken.unit.2.tag (due_of taken.unit) state.clock (clock_in before) waits.1 taken.due (clock_is caps before begun);
    }
  where
    in_order : (tag due clock read : ℕ) → tag ≤ due → due ≤ clock → clock ≡ read → tag ≤ read
    in_order tag due clock read one two three = omega arith

release_in_time : (caps : Limits) (before later : List Entry) (entry : Entry) → Legal caps (before ++ entry ∷ later) → entry.event ≡ release
    → ReleasesLeast (after (opening caps) before) (step (after (opening caps) before) release)
    → AllByRecursion (IsInTime (before ++ entry ∷ later)) (step (after (opening caps) before) release).invocations
release_in_time caps before later entry legal is (inl taken) =
    subst (AllByRecursion (IsInTime (before ++ entry ∷ later))) (sym taken.invoked)
    (each_of_unit _ (unit_of taken.unit) (calls_of_unit (after (opening caps) before).methods taken.unit)
    (taken_in_time caps before later entry legal is taken))
release_in_time caps before later entry legal is (inr (inl none)) = subst (AllByRecursion (IsInTime (before ++ entry ∷ later))) (sym none.none) tt
release_in_time caps before later entry legal is (inr (inr full)) = subst (AllByRecursion (IsInTime (before ++ entry ∷ later))) (sym full.none) tt

entry_in_time : TakesTheLeast → (caps : Limits) (before later : List Entry) (entry : Entry) → Legal caps (before ++ entry ∷ later)
    → AllByRecursion (IsInTime (before ++ entry ∷ later)) (step (after (opening caps) before) entry.event).invocations
entry_in_time least caps before later entry legal = go (step_by_release (after (opening caps) before) entry.event) where
  go : InvokesByRelease entry.event (step (after (opening caps) before) entry.event)
      → AllByRecursion (IsInTime (before ++ entry ∷ later)) (step (after (opening caps) before) entry.event).invocations
  go (inl none) = subst (AllByRecursion (IsInTime (before ++ entry ∷ later))) (sym none) tt
  go (inr is) =
      let begun = (legal_split (opening caps) before (entry ∷ later) legal.1).0 in
      subst (λ (e : Event). AllByRecursion (IsInTime (before ++ entry ∷ later)) (step (after (opening caps) before) e).invocations) (sym is)
      (release_in_time caps before later entry legal is (least caps before (legal.0, begun)))

-- what holds of the invocations of each entry holds of all those of a history
pub each_entry : (P : List Entry → Invocation → Type 0) (caps : Limits)
    → ((before later : List Entry) (entry : Entry) → Legal caps (before ++ entry ∷ later)
    → AllByRecursion (P (before ++ entry ∷ later)) (step (after (opening caps) before) entry.event).invocations)
    → (before later : List Entry) → Legal caps (before ++ later) → AllByRecursion (P (before ++ later)) (invocations (after (opening caps) before) later)
each_entry P caps holds before [] legal = tt
each_entry P caps holds before (entry ∷ entries) legal =
    let state = after (opening caps) before in
    let same = append_assoc before (entry ∷ []) entries in
    let more = each_entry P caps holds (before ++ entry ∷ []) entries (subst (Legal caps) (sym same) legal) in
    let behind = subst (λ (h : List Entry). AllByRecursion (P h) (invocations (after (opening caps) (before ++ entry ∷ [])) entries)) same more in
    all_append (P (before ++ entry ∷ entries)) (step state entry.event).invocations (invocations (step state entry.event).state entries)
    (holds before entries entry legal)
    (subst (λ (s : State). AllByRecursion (P (before ++ entry ∷ entries)) (invocations s entries)) (after_more (opening caps) before (entry ∷ [])) behind)

pub all_in_time : TakesTheLeast → (caps : Limits) (history : List Entry) → Legal caps history
    → AllByRecursion (IsInTime history) (invocations (opening caps) history)
all_in_time least caps history legal = each_entry IsInTime caps (entry_in_time least caps) [] history legal
