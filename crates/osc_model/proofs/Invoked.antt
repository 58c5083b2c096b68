-- Invocations, of a step and of a history, are of registered methods.
use Rattle.std.proofs.Common.{◌≡◌, ◌⊎◌, inl, inr, List, [], ◌∷◌, refl, sym, ap, subst, arith}
use Rattle.std.specs.List.{AllByRecursion, Contains}
use Rattle.osc_model.specs.State.{Queued, State}
use Rattle.osc_model.specs.Events.{Event, release, Invocation, Entry}
use Rattle.osc_model.specs.Step.{step, decided}
use Rattle.osc_model.specs.Releases.{InvokesRegistered}
use Rattle.osc_model.specs.History.{invocations, IsInvokedIn}
use Rattle.osc_model.proofs.Stepping.{step_so, decided_so}
use Rattle.osc_model.proofs.Calls.{MatchesExactly, all_more, all_append, unit_calls}

-- an event that is no release invokes nothing
decided_silent : (state : State) (event : Event) → ((decided state event).invocations ≡ []) ⊎ (event ≡ release)
decided_silent state event =
    decided_so (λ event stepped. (stepped.invocations ≡ []) ⊎ (event ≡ release)) state event
    (record {
      refused = λ event answer is. inl refl;
      enrolled = inl refl;
      queued = λ packet. inl refl;
      added = λ address. inl refl;
      removed = λ address id. inl refl;
      ticked = λ now later. inl refl;
      released = λ unit units first. inr refl;
    })

silent_or_release : (state : State) (event : Event) → ((step state event).invocations ≡ []) ⊎ (event ≡ release)
silent_or_release state event =
    step_so (λ stepped. (stepped.invocations ≡ []) ⊎ (event ≡ release)) state event
    (record { silent = λ none. decided_silent state event; full = λ some full. inl refl; room = λ some fits. decided_silent state event })

-- the first of a queue is in it
first_queued : (unit : Queued) (units queue : List Queued) → queue ≡ unit ∷ units → Contains queue unit
first_queued unit units queue first = subst (λ (q : List Queued). Contains q unit) (sym first) (0, omega arith, refl)

decided_registered : MatchesExactly → (state : State) (event : Event) → InvokesRegistered state (decided state event)
decided_registered exactly state event =
    decided_so (λ event stepped. InvokesRegistered state stepped) state event
    (record {
      refused = λ event answer is. inr refl;
      enrolled = inr refl;
      queued = λ packet. inr refl;
      added = λ address. inr refl;
      removed = λ address id. inr refl;
      ticked = λ now later. inr refl;
      released = λ unit units first. inl (unit, first_queued unit units state.queue first, unit_calls exactly state unit);
    })

pub invokes_registered : MatchesExactly → (state : State) (event : Event) → InvokesRegistered state (step state event)
invokes_registered exactly state event =
    step_so (InvokesRegistered state) state event
    (record {
      silent = λ none. decided_registered exactly state event;
      full = λ some full. inr refl;
      room = λ some fits. decided_registered exactly state event;
    })

-- The same over a history.

-- what is invoked behind an entry is invoked in the whole
invoked_behind : (state : State) (entry : Entry) (entries : List Entry) (made : Invocation) → IsInvokedIn (step state entry.event).state entries made
    → IsInvokedIn state (entry ∷ entries) made
invoked_behind state entry entries made is =
    record {
      before = entry ∷ is.before;
      entry = is.entry;
      later = is.later;
      place = ap (λ (l : List Entry). entry ∷ l) is.place;
      releases = is.releases;
      unit = is.unit;
      queued = is.queued;
      call = is.call;
    }

-- what a release that comes first invokes
invoked_first : MatchesExactly → (state : State) (entry : Entry) (entries : List Entry) → entry.event ≡ release
    → AllByRecursion (IsInvokedIn state (entry ∷ entries)) (step state entry.event).invocations
invoked_first exactly state entry entries e = go (invokes_registered exactly state entry.event) where
  go : InvokesRegistered state (step state entry.event) → AllByRecursion (IsInvokedIn state (entry ∷ entries)) (step state entry.event).invocations
  go (inl (unit, waits, calls)) =
      all_more _ _ (λ made call. record { before = []; entry = entry; later = entries; place = refl; releases = e; unit = unit; queued = waits; call = call })
      (step state entry.event).invocations calls
  go (inr none) = subst (AllByRecursion (IsInvokedIn state (entry ∷ entries))) (sym none) tt

pub all_invoked : MatchesExactly → (state : State) (history : List Entry) → AllByRecursion (IsInvokedIn state history) (invocations state history)
all_invoked exactly state [] = tt
all_invoked exactly state (entry ∷ entries) =
    all_append _ (step state entry.event).invocations (invocations (step state entry.event).state entries) (first (silent_or_release state entry.event))
    (all_more _ _ (invoked_behind state entry entries) (invocations (step state entry.event).state entries)
    (all_invoked exactly (step state entry.event).state entries))
  where
    first : ((step state entry.event).invocations ≡ []) ⊎ (entry.event ≡ release)
        → AllByRecursion (IsInvokedIn state (entry ∷ entries)) (step state entry.event).invocations
    first (inl none) = subst (AllByRecursion (IsInvokedIn state (entry ∷ entries))) (sym none) tt
    first (inr e) = invoked_first exactly state entry entries e
