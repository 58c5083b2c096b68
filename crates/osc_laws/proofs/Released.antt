-- The invocations of a history stand in runs, one for each unit that is released.
use Rattle.std.proofs.Common.{◌≡◌, ◌≢◌, ◌⊎◌, inl, inr, ℕ, ◌+◌, ◌≤◌, ◌==◌, false, true, List, [], ◌∷◌, ◌++◌, map, refl, sym, ap, subst, ◌∙◌, arith}
use Rattle.std.specs.List.{AllByRecursion}
use Rattle.std.proofs.lemmas.Bool.Decides.{nat_tests}
use Rattle.osc_queue.specs.Timed.{unit_of}
use Rattle.osc_model.specs.State.{State, Queued}
use Rattle.osc_model.specs.Events.{Event, Answer, callers_full, units_full, pool_full, refused, not_there, clock_back, nothing_due, record_full, Invocation}
use Rattle.osc_model.specs.Events.{Entry}
use Rattle.osc_model.specs.Refusals.{IsRefusal}
use Rattle.osc_model.specs.Step.{Stepped, step, decided, calls_of_unit, invocations_of}
use Rattle.osc_model.specs.Passing.{released_in, numbers_from}
use Rattle.osc_model.specs.History.{LegalFrom, IsSound, invocations}
use Rattle.osc_model.proofs.Stepping.{step_so, decided_so}
use Rattle.osc_model.proofs.Calls.{MatchesExactly, all_more, all_append}
use Rattle.osc_model.specs.declared.late.Late.{Late}
use Rattle.osc_laws.specs.Once.{numbers_released, AreReleasedOnce}
use Rattle.osc_laws.proofs.InTime.{each_of_unit}
use Rattle.osc_laws.proofs.Methods.{StaysSound}
use Rattle.osc_laws.proofs.Tallies.{tally, times, times_permuted, times_append, never_from, none_behind, numbers_once}
use Rattle.osc_laws.proofs.OrderedCalls.{Ascends, calls_in_order}
use Rattle.osc_laws.proofs.Runs.{AreRuns, one_run}

refused_releases : (answer : Answer) → IsRefusal answer → released_in answer ≡ []
refused_releases callers_full is = refl
refused_releases (units_full room) is = refl
refused_releases (pool_full room) is = refl
refused_releases (refused why) is = refl
refused_releases not_there is = refl
refused_releases (clock_back kept) is = refl
refused_releases (nothing_due next) is = refl
refused_releases (record_full room) is = refl
refused_releases _ is = absurd is

-- a step releases no unit and invokes nothing, or makes the calls of one unit
record ReleasesNone (stepped : Stepped) : Type 0 where
  invoked : stepped.invocations ≡ []
  numbers : released_in stepped.answer ≡ []

record ReleasesOne (state : State) (stepped : Stepped) : Type 0 where
  item : Queued
  invoked : stepped.invocations ≡ invocations_of (unit_of item) (calls_of_unit state.methods item)
  numbers : released_in stepped.answer ≡ unit_of item ∷ []

abbrev ReleasesSome : State → Stepped → Type 0
ReleasesSome state stepped = ReleasesNone stepped ⊎ ReleasesOne state stepped

decided_releases : (state : State) (event : Event) → ReleasesSome state (decided state event)
decided_releases state event =
    decided_so (λ event stepped. ReleasesSome state stepped) state event
    (record {
      refused = λ event answer is. inl (record { invoked = refl; numbers = refused_releases answer is });
      enrolled = inl (record { invoked = refl; numbers = refl });
      queued = λ packet. inl (record { invoked = refl; numbers = refl });
      added = λ address. inl (record { invoked = refl; numbers = refl });
      removed = λ address id. inl (record { invoked = refl; numbers = refl });
      ticked = λ now later. inl (record { invoked = refl; numbers = refl });
      released = λ unit units first. inr (record { item = unit; invoked = refl; numbers = refl });
    })

-- a step that is noted has the invocations and the answer of what is decided
releases_noted : (state : State) (one other : Stepped) → other.invocations ≡ one.invocations → other.answer ≡ one.answer → ReleasesSome state one
    → ReleasesSome state other
releases_noted state one other invoked answer (inl none) = inl (record { invoked = invoked ∙ none.invoked; numbers = ap released_in answer ∙ none.numbers })
releases_noted state one other invoked answer (inr some) =
    inr (record { item = some.item; invoked = invoked ∙ some.invoked; numbers = ap released_in answer ∙ some.numbers })

step_releases : (state : State) (event : Event) → ReleasesSome state (step state event)
step_releases state event =
    step_so (ReleasesSome state) state event
    (record {
      silent = λ none. decided_releases state event;
      full = λ some full. inl (record { invoked = refl; numbers = refl });
      room = λ some fits. releases_noted state (decided state event) _ refl refl (decided_releases state event);
    })

-- of another unit
abbrev IsOther : ℕ → Invocation → Type 0
IsOther number invocation = (invocation.unit == number) ≡ false

-- a unit that is not released makes no calls
pub none_invoked : (number : ℕ) (state : State) (history : List Entry) → LegalFrom state history → times (λ m. m == number) (numbers_released history) ≡ 0
    → AllByRecursion (λ invocation. (invocation.unit == number) ≡ false) (invocations state history)
none_invoked number state [] legal none = tt
none_invoked number state (entry ∷ entries) legal none =
    all_append (IsOther number) (step state entry.event).invocations (invocations (step state entry.event).state entries)
    (here (step_releases state entry.event))
    (none_invoked number (step state entry.event).state entries legal.4 (omega (arith, parts, none)))
  where
    parts : times (λ m. m == number) (numbers_released (entry ∷ entries))
        ≡ times (λ m. m == number) (released_in entry.answer) + times (λ m. m == number) (numbers_released entries)
    parts = times_append (λ m. m == number) (released_in entry.answer) (numbers_released entries)

    here : ReleasesSome state (step state entry.event) → AllByRecursion (IsOther number) (step state entry.event).invocations
    here (inl nothing) = subst (AllByRecursion (IsOther number)) (sym nothing.invoked) tt
    here (inr some) =
        let told : released_in entry.answer ≡ unit_of some.item ∷ [] = ap released_in legal.3 ∙ some.numbers in
        let count : times (λ m. m == number) (released_in entry.answer) ≡ tally (λ m. m == number) (unit_of some.item) + 0 =
        ap (times (λ m. m == number)) told in
        let other : (unit_of some.item == number) ≡ false = never_from (λ m. m == number) (unit_of some.item) (omega (arith, parts, none, count)) in
        subst (AllByRecursion (IsOther number)) (sym some.invoked)
        (each_of_unit (IsOther number) (unit_of some.item) (calls_of_unit state.methods some.item) (λ call. other))

-- each number is released at most once
abbrev pub AreOnce : List Entry → Type 0
AreOnce history = (number : ℕ) → times (λ m. m == number) (numbers_released history) ≤ 1

pub released_once : (policy : Late) (history : List Entry) (queue : List Queued) → AreReleasedOnce policy history queue → AreOnce history
released_once policy history queue once number =
    let waiting = map (λ (item : Queued). unit_of item) queue ++ once.discarded in
    let all = times_permuted (λ m. m == number) (numbers_from 0 once.count) (numbers_released history ++ waiting) once.once in
    let parts = times_append (λ m. m == number) (numbers_released history) waiting in
    let few = numbers_once number 0 once.count in
    omega (arith, all, parts, few)

-- The invocations stand in runs.

differs : (number : ℕ) (invocation : Invocation) → IsOther number invocation → invocation.unit ≢ number
differs number invocation other same = let is : (invocation.unit == number) ≡ true = grind (arith, nat_tests) in absurd (cc)

pub history_runs : MatchesExactly → Ascends → StaysSound → (state : State) (history : List Entry) → LegalFrom state history → IsSound state → AreOnce history
    → AreRuns (invocations state history)
history_runs exactly ascends stays state [] legal sound once = tt
history_runs exactly ascends stays state (entry ∷ entries) legal sound once =
    here (step_releases state entry.event) (history_runs exactly ascends stays next entries legal.4 (stays state entry.event legal.1 sound) rest)
  where
    next : State
    next = (step state entry.event).state

    rest : AreOnce entries
    rest number = let parts = times_append (λ m. m == number) (released_in entry.answer) (numbers_released entries) in let few = once number in
        omega (arith, parts, few)

    here : ReleasesSome state (step state entry.event) → AreRuns (invocations next entries)
        → AreRuns ((step state entry.event).invocations ++ invocations next entries)
    here (inl nothing) runs = subst (λ (l : List Invocation). AreRuns (l ++ invocations next entries)) (sym nothing.invoked) runs
    here (inr some) runs =
        let number = unit_of some.item in
        let told : released_in entry.answer ≡ number ∷ [] = ap released_in legal.3 ∙ some.numbers in
        let few : times (λ m. m == number) (number ∷ numbers_released entries) ≤ 1 =
        subst (λ (l : List ℕ). times (λ m. m == number) (l ++ numbers_released entries) ≤ 1) told (once number) in
        let itself : (number == number) ≡ true = grind (arith, nat_tests) in
        let none = none_invoked number next entries legal.4 (none_behind (λ m. m == number) number (numbers_released entries) itself few) in
        let others = all_more (IsOther number) (λ (i : Invocation). i.unit ≢ number) (differs number) (invocations next entries) none in
        subst (λ (l : List Invocation). AreRuns (l ++ invocations next entries)) (sym some.invoked)
        (one_run number (calls_of_unit state.methods some.item) (invocations next entries)
        (calls_in_order exactly ascends state.methods 0 some.item.2.messages sound.methods.list.addresses) others runs)
