-- A method is called while it is registered: not before it is added, nor after it is removed.
use Rattle.std.proofs.Common.{◌≡◌, ◌≢◌, inl, inr, ℕ, ◌<◌, ◌≤◌, ◌==◌, true, not, filter, List, [], ◌∷◌, ◌++◌, All, sym, ap, subst, ◌∙◌, arith}
use Rattle.std.specs.List.{AllByRecursion}
use Rattle.std.specs.Str.{bytes_eq}
use Rattle.std.proofs.lemmas.List.Elements.{All-from_recursion, recursion_from_All, All-nil, All-push, All-filter, All-contains}
use Rattle.osc_model.specs.State.{State, opening}
use Rattle.osc_model.specs.Limits.{Limits}
use Rattle.osc_model.specs.Events.{Event, removed, Invocation, Entry}
use Rattle.osc_model.specs.Step.{step}
use Rattle.osc_model.specs.Releases.{InvokesRegistered}
use Rattle.osc_model.specs.History.{Legal, IsSound, after, invocations}
use Rattle.osc_model.proofs.Calls.{all_more, all_append}
use Rattle.osc_model.proofs.Onward.{after_more, legal_split}
use Rattle.osc_model.proofs.Changes.{Changes, LosesMethod, tells_change, changes}
use Rattle.osc_model.proofs.Leaving.{found_id, others_stay, none_has}

-- each step invokes registered methods alone
abbrev pub OnlyRegistered : Type 0
OnlyRegistered = (state : State) (event : Event) → InvokesRegistered state (step state event)

-- the ids of a state's methods are all so
abbrev pub AllIds : (ℕ → Type 0) → State → Type 0
AllIds P state = All (λ method. P method.id) state.methods

-- the ids that are called are all so
abbrev pub AllCalled : (ℕ → Type 0) → List Invocation → Type 0
AllCalled P made = AllByRecursion (λ invocation. P invocation.call.id) made

step_calls : OnlyRegistered → (P : ℕ → Type 0) (state : State) (event : Event) → AllIds P state → AllCalled P (step state event).invocations
step_calls registered P state event all = go (registered state event) where
  go : InvokesRegistered state (step state event) → AllCalled P (step state event).invocations
  go (inl (unit, waits, calls)) =
      all_more _ _
      (λ invocation call. All-contains (λ method. P method.id) state.methods
      (record { id = invocation.call.id; address = invocation.call.address }) all call.registered) (step state event).invocations calls
  go (inr none) = subst (AllCalled P) (sym none) tt

-- what holds of the next id and of those of all methods holds of them after a step
step_ids : (P : ℕ → Type 0) (state : State) (event : Event) → P state.next_id → AllIds P state → AllIds P (step state event).state
step_ids P state event next all = go (changes state event) where
  go : Changes state event (step state event) → AllIds P (step state event).state
  go (inl kept) = subst (All (λ method. P method.id)) (sym kept.methods) all
  go (inr (inl more)) =
      subst (All (λ method. P method.id)) (sym more.methods)
      (All-push (λ method. P method.id) state.methods (record { id = state.next_id; address = more.address }) all next)
  go (inr (inr fewer)) =
      subst (All (λ method. P method.id)) (sym fewer.methods)
      (All-filter (λ method. not (bytes_eq method.address fewer.address)) (λ method. P method.id) state.methods all)

-- what is known of ids: each invocation is of a registered method, and ids are given in their order
pub record OfIds : Type 0 where
  pub registered : OnlyRegistered
  pub grows : (state : State) (history : List Entry) → state.next_id ≤ (after state history).next_id
  pub given : (state : State) (history : List Entry) → AllIds (λ id. id < state.next_id) state
      → AllIds (λ id. id < (after state history).next_id) (after state history)

abbrev CalledBelow : ℕ → List Invocation → Type 0
CalledBelow next = AllCalled (λ id. id < next)

-- each id that a history calls was given
history_given : OfIds → (state : State) (history : List Entry) → AllIds (λ id. id < state.next_id) state
    → CalledBelow (after state history).next_id (invocations state history)
history_given of state [] given = tt
history_given of state (entry ∷ entries) given =
    let next = (step state entry.event).state in
    let grown : next.next_id ≤ (after next entries).next_id = of.grows next entries in
    let here = step_calls of.registered (λ id. id < state.next_id) state entry.event given in
    let first : state.next_id ≤ next.next_id = of.grows state (entry ∷ []) in
    all_append _ (step state entry.event).invocations (invocations next entries)
    (all_more _ _ (λ invocation below. omega arith) (step state entry.event).invocations here)
    (history_given of next entries (of.given state (entry ∷ []) given))

pub called_given : OfIds → (caps : Limits) (history : List Entry)
    → All (λ invocation. invocation.call.id < (after (opening caps) history).next_id) (invocations (opening caps) history)
called_given of caps history =
    All-from_recursion (λ invocation. invocation.call.id < (after (opening caps) history).next_id) (invocations (opening caps) history)
    (history_given of (opening caps) history (All-nil (λ method. method.id < 0)))

-- an id that was given and that no method has is called no more
history_silent : OfIds → (id : ℕ) (state : State) (history : List Entry) → id < state.next_id → AllIds (λ other. other ≢ id) state
    → AllCalled (λ other. other ≢ id) (invocations state history)
history_silent of id state [] given none = tt
history_silent of id state (entry ∷ entries) given none =
    let next = (step state entry.event).state in
    let grown : state.next_id ≤ next.next_id = of.grows state (entry ∷ []) in
    let new : state.next_id ≢ id = λ same. omega arith in
    all_append _ (step state entry.event).invocations (invocations next entries) (step_calls of.registered (λ other. other ≢ id) state entry.event none)
    (history_silent of id next entries (omega arith) (step_ids (λ other. other ≢ id) state entry.event new none))

-- an event that is answered by a removal takes the method away
pub loses : (state : State) (event : Event) (id : ℕ) → (step state event).answer ≡ removed id → LosesMethod state event (step state event)
loses state event id is = go (changes state event) where
  go : Changes state event (step state event) → LosesMethod state event (step state event)
  go (inl kept) = let yes : tells_change (step state event).answer ≡ true = ap tells_change is in let no = kept.answer in absurd (cc)
  go (inr (inl more)) = let added_one = more.answer in absurd (cc)
  go (inr (inr fewer)) = fewer

-- the id that a removal tells is that of the method
lost_id : (state : State) (event : Event) (id : ℕ) (fewer : LosesMethod state event (step state event)) → (step state event).answer ≡ removed id → fewer.id ≡ id
lost_id state event id fewer is = let told = fewer.answer in cc

-- what was known of the methods before one left
pub record Left (state : State) (event : Event) (id : ℕ) : Type 0 where
  pub methods : (step state event).state.methods ≡ filter (λ method. not (method.id == id)) state.methods
  pub given : id < state.next_id
  pub silent : (step state event).invocations ≡ []

pub left : (state : State) (event : Event) (id : ℕ) → IsSound state → (step state event).answer ≡ removed id → Left state event id
left state event id sound is =
    let fewer = loses state event id is in
    let same : fewer.id ≡ id = lost_id state event id fewer is in
    let others = others_stay state.methods fewer.address fewer.id sound.methods.list fewer.found in
    let given : fewer.id < state.next_id =
    found_id (λ n. n < state.next_id) state.methods fewer.address fewer.id fewer.found
    (recursion_from_All (λ method. method.id < state.next_id) state.methods sound.ids) in
    record {
      methods = fewer.methods ∙ others ∙ ap (λ (n : ℕ). filter (λ method. not (method.id == n)) state.methods) same;
      given = omega arith;
      silent = fewer.silent;
    }

pub removed_silent : OfIds → ((caps : Limits) (history : List Entry) → Legal caps history → IsSound (after (opening caps) history))
    → (caps : Limits) (before later : List Entry) (entry : Entry) (id : ℕ)
    → Legal caps (before ++ entry ∷ later) → entry.answer ≡ removed id
    → All (λ invocation. invocation.call.id ≢ id) (invocations (after (opening caps) (before ++ entry ∷ [])) later)
removed_silent of sound caps before later entry id legal is =
    let state = after (opening caps) before in
    let next = (step state entry.event).state in
    let split = legal_split (opening caps) before (entry ∷ later) legal.1 in
    let gone = left state entry.event id (sound caps before (legal.0, split.0)) (sym split.1.3 ∙ is) in
    let grown : state.next_id ≤ next.next_id = of.grows state (entry ∷ []) in
    let none : AllIds (λ other. other ≢ id) next = subst (All (λ method. method.id ≢ id)) (sym gone.methods) (none_has state.methods id) in
    let quiet = history_silent of id next later (omega (arith, gone.given)) none in
    subst (λ (s : State). All (λ invocation. invocation.call.id ≢ id) (invocations s later)) (sym (after_more (opening caps) before (entry ∷ [])))
    (All-from_recursion (λ invocation. invocation.call.id ≢ id) (invocations next later) quiet)
