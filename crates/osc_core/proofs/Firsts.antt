-- The first unit, where it is due.
use Rattle.std.proofs.Common.{◌≡◌, ℕ, ◌<◌, ◌≤◌, Bool, true, false, nat_le, List, [], ◌∷◌, map, drop, slice_get, Option, Some, None, unwrap_or, refl, sym, ap}
use Rattle.std.proofs.Common.{subst, ◌∙◌, arith}
use Rattle.std.proofs.lemmas.Bool.Decides.{nat_tests}
use Rattle.std.specs.List.{AllByRecursion}
use Rattle.osc_queue.specs.Timed.{Item, due_of, unit_of, is_before, IsLeast, NoneIsDue}
use Rattle.osc_model.specs.Releases.{IsLeastDue}
use Rattle.osc_model.specs.State.{State, Queued, AreNumbered}
use Rattle.osc_model.specs.Events.{Answer, Call, Hit, release, released, nothing_due}
use Rattle.osc_model.specs.Step.{decided, releases, calls_from, calls_of_unit, hits_of, invocations_of}
use Rattle.osc_core.specs.Calls.{hit_by}
use Rattle.osc_core.specs.Due.{IsDue}
use Rattle.osc_core.specs.declared.store.Stored.{Stored}
use Rattle.osc_core.specs.Stored.{unit_in, IsStored}
use Rattle.osc_core.specs.Views.{queued_of, queue_of, AreQueued}

abbrev unit_told : Answer → ℕ
unit_told (released unit hits) = unit
unit_told _ = 0

abbrev hits_told : Answer → List Hit
hits_told (released unit hits) = hits
hits_told _ = []

-- what is known of the first unit, where its release is answered
pub record IsFirst (state : State) (unit : ℕ) (hits : List Hit) : Type 0 where
  pub first : Queued
  pub others : List Queued
  pub queue_is : state.queue ≡ first ∷ others
  pub unit_is : unit_of first ≡ unit
  pub due : due_of first ≤ state.clock
  pub hits_are : hits ≡ hits_of (calls_of_unit state.methods first)
  pub invocations_are : (decided state release).invocations ≡ invocations_of (unit_of first) (calls_of_unit state.methods first)
  pub state_is : (decided state release).state ≡ record state { queue = others }

pub is_first : (state : State) (unit : ℕ) (hits : List Hit) → IsDue state unit hits → IsFirst state unit hits
is_first state unit hits is = go state.queue refl where
  go : (queue : List Queued) → state.queue ≡ queue → IsFirst state unit hits
  go [] e = let f : nothing_due None ≡ released unit hits = rw e at is in absurd (cc)
  go (first ∷ others) e = cases (nat_le (due_of first) state.clock) refl where
    cases : (t : Bool) → nat_le (due_of first) state.clock ≡ t → IsFirst state unit hits
    cases true le =
        let f : released (unit_of first) (hits_of (calls_of_unit state.methods first)) ≡ released unit hits = rw (e, le) at is in
        let stepped : decided state release ≡ releases state first others = rw (e, le) refl in
        record {
          first = first;
          others = others;
          queue_is = e;
          unit_is = ap unit_told f;
          due = grind (arith, nat_tests);
          hits_are = sym (ap hits_told f);
          invocations_are = ap (λ s. s.invocations) stepped;
          state_is = ap (λ s. s.state) stepped;
        }
    cases false le = let f : nothing_due (Some (due_of first)) ≡ released unit hits = rw (e, le) at is in absurd (cc)

pub hits_by : (unit : ℕ) (calls : List Call) → map hit_by (invocations_of unit calls) ≡ hits_of calls
hits_by unit [] = refl
hits_by unit (call ∷ calls) = ap (λ (l : List Hit). record { index = call.index; id = call.id } ∷ l) (hits_by unit calls)

-- the hits are those of the invocations
pub hits_invoked : (state : State) (unit : ℕ) (hits : List Hit) → IsDue state unit hits → map hit_by (decided state release).invocations ≡ hits
hits_invoked state unit hits is =
    let first = is_first state unit hits is in
    ap (map hit_by) first.invocations_are ∙ hits_by (unit_of first.first) (calls_of_unit state.methods first.first) ∙ sym first.hits_are

pub unit_below : (state : State) (unit next : ℕ) (hits : List Hit) → IsDue state unit hits → AreNumbered next state.queue → unit < next
unit_below state unit next hits is numbers =
    let first = is_first state unit hits is in
    let below = subst (AreNumbered next) first.queue_is numbers in
    subst (λ (n : ℕ). n < next) first.unit_is below.0

-- the same, where a queue and a store hold the units
pub record IsItem (state : State) (held : List (List ℕ)) (items : List (Item Stored)) (unit next : ℕ) (stored : Stored) : Type 0 where
  pub is_stored : IsStored held stored
  pub below : unit < next
  pub due : NoneIsDue state.clock items → ⊥
  pub answer : IsDue state unit (hits_of (calls_from state.methods 0 (unit_in held stored).messages))
  pub invocations_are : (decided state release).invocations ≡ invocations_of unit (calls_from state.methods 0 (unit_in held stored).messages)
  pub state_is : (decided state release).state ≡ record state { queue = drop 1 (queue_of held items) }

pub is_item : (state : State) (held : List (List ℕ)) (items : List (Item Stored)) (due unit next : ℕ) (stored : Stored) → state.queue ≡ queue_of held items
    → AreQueued held items next → slice_get items 0 ≡ Some (due, unit, stored) → due ≤ state.clock → IsItem state held items unit next stored
is_item state held [] due unit next stored queue are at now = absurd (cc)
is_item state held (item ∷ items) due unit next stored queue are at now =
    let same : item ≡ (due, unit, stored) = ap (λ (o : Option (Item Stored)). unwrap_or o item) at in
    let le : nat_le (due_of item) state.clock ≡ true = grind (arith, nat_tests, ap due_of same) in
    let stepped : decided state release ≡ releases state (queued_of held item) (queue_of held items) = rw (queue, le) refl in
    let here : IsItem state held (item ∷ items) (unit_of item) next item.2 = record {
      is_stored = are.kept.stored.0;
      below = are.numbers.0;
      due = λ none. omega (arith, none.0, ap due_of same);
      answer = ap (λ s. s.answer) stepped;
      invocations_are = ap (λ s. s.invocations) stepped;
      state_is = ap (λ s. s.state) stepped;
    } in
    subst (λ (one : Item Stored). IsItem state held (item ∷ items) (unit_of one) next one.2) same here

-- the first unit isn't due
pub first_waits : (state : State) (held : List (List ℕ)) (items : List (Item Stored)) (due unit : ℕ) (stored : Stored) → state.queue ≡ queue_of held items
    → slice_get items 0 ≡ Some (due, unit, stored) → state.clock < due → (decided state release).answer ≡ nothing_due (Some due)
first_waits state held [] due unit stored queue at later = absurd (cc)
first_waits state held (item ∷ items) due unit stored queue at later =
    let same : due_of item ≡ due = ap (λ (o : Option (Item Stored)). due_of (unwrap_or o item)) at in
    let le : nat_le (due_of item) state.clock ≡ false = grind (arith, nat_tests, same) in
    rw (queue, le) (ap (λ (n : ℕ). nothing_due (Some n)) same)

-- the units of the items are taken in the order of the items
least_of : (held : List (List ℕ)) (items : List (Item Stored)) (first : Item Stored) → AllByRecursion (λ other. is_before other first ≡ false) items
    → AllByRecursion (λ other. is_before other (queued_of held first) ≡ false) (queue_of held items)
least_of held [] first least = tt
least_of held (item ∷ items) first least = (least.0, least_of held items first least.1)

-- the least item is the least unit
pub least_due : (held : List (List ℕ)) (items : List (Item Stored)) (due unit : ℕ) (stored : Stored) → slice_get items 0 ≡ Some (due, unit, stored)
    → IsLeast (due, unit, stored) items → IsLeastDue (queue_of held items) (Some due)
least_due held [] due unit stored at least = absurd (cc)
least_due held (item ∷ items) due unit stored at least =
    let same : item ≡ (due, unit, stored) = ap (λ (o : Option (Item Stored)). unwrap_or o item) at in
    (queued_of held (due, unit, stored), (0, omega arith, ap (queued_of held) same), least_of held (item ∷ items) (due, unit, stored) least, refl)
