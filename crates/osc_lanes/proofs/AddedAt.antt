-- Each method that is registered was added at its address, and an id at one address alone.
use Rattle.std.proofs.Common.{◌≡◌, ℕ, Bool, true, false, cond, List, [], ◌∷◌, ◌++◌, append-nil, append_assoc, refl, sym, ap, subst, ◌∙◌, arith}
use Rattle.std.specs.List.{filter, AllByRecursion, Contains}
use Rattle.std.proofs.lemmas.List.Elements.{Contains-append_left, Contains-append_right}
use Rattle.osc_pattern.specs.Methods.{Method}
use Rattle.osc_model.specs.Limits.{Limits}
use Rattle.osc_model.specs.State.{State, opening}
use Rattle.osc_model.specs.Events.{Event, add, added, Entry}
use Rattle.osc_model.specs.Step.{step}
use Rattle.osc_model.specs.History.{LegalFrom, Legal, after}
use Rattle.osc_model.proofs.Calls.{all_append}
use Rattle.osc_model.proofs.Stepping.{step_so, decided_so}
use Rattle.osc_core.specs.Ids.{is_ascending}
use Rattle.osc_life.specs.Lives.{added_ids}
use Rattle.osc_lanes.proofs.OneMark.{one_entry}

-- an entry of the history added the method with the id at the address
abbrev pub IsAddedAt : List Entry → ℕ → List ℕ → Type 0
IsAddedAt history id address = (entry : Entry) × (entry.answer ≡ added id) × (entry.event ≡ add address) × Contains history entry

pub one_address : (history : List Entry) (id : ℕ) (address other : List ℕ) → is_ascending (added_ids history) ≡ true → IsAddedAt history id address
    → IsAddedAt history id other → address ≡ other
one_address history id address other all (entry, adds, at, held) (second, also, there, kept) =
    let same : entry ≡ second = one_entry id history entry second all adds also held kept in
    let events : add address ≡ add other = sym at ∙ (ap (λ (e : Entry). e.event) same ∙ there) in
    cc

some_of : (P : Method → Type 0) (test : Method → Bool) (methods : List Method) → AllByRecursion P methods → AllByRecursion P (filter test methods)
some_of P test [] all = tt
some_of P test (first ∷ methods) all = go (test first) (some_of P test methods all.1) where
  go : (t : Bool) → AllByRecursion P (filter test methods) → AllByRecursion P (cond t (first ∷ filter test methods) (filter test methods))
  go true rest = (all.0, rest)
  go false rest = rest

-- what holds of each method, and of one that is added, holds of each after a step
step_gives : (P : Method → Type 0) (state : State) (event : Event) → AllByRecursion P state.methods
    → ((id : ℕ) (address : List ℕ) → event ≡ add address → (step state event).answer ≡ added id → P (record { id = id; address = address }))
    → AllByRecursion P (step state event).state.methods
step_gives P state event all =
    let here = decided_so (λ event stepped. ((id : ℕ) (address : List ℕ) → event ≡ add address → stepped.answer ≡ added id
    → P (record { id = id; address = address })) → AllByRecursion P stepped.state.methods) state event
    (record {
      refused = λ event answer is gives. all;
      enrolled = λ gives. all;
      queued = λ packet gives. all;
      added = λ address gives. all_append P state.methods _ all (gives state.next_id address refl refl, tt);
      removed = λ address id gives. some_of P _ state.methods all;
      ticked = λ now later gives. all;
      released = λ unit units first gives. all;
    }) in
    step_so (λ stepped. ((id : ℕ) (address : List ℕ) → event ≡ add address → stepped.answer ≡ added id → P (record { id = id; address = address }))
    → AllByRecursion P stepped.state.methods) state event
    (record { silent = λ none. here; full = λ some full gives. all; room = λ some fits. here })

abbrev StandsAt : List Entry → Method → Type 0
StandsAt history method = IsAddedAt history method.id method.address

still_added : (past : List Entry) (entry : Entry) (methods : List Method) → AllByRecursion (StandsAt past) methods
    → AllByRecursion (StandsAt (past ++ entry ∷ [])) methods
still_added past entry [] all = tt
still_added past entry (method ∷ methods) ((one, adds, at, held), all) =
    ((one, adds, at, Contains-append_left past (entry ∷ []) one held), still_added past entry methods all)

added_after : (state : State) (past entries : List Entry) → LegalFrom state entries → AllByRecursion (StandsAt past) state.methods
    → AllByRecursion (StandsAt (past ++ entries)) (after state entries).methods
added_after state past [] legal all = subst (λ (h : List Entry). AllByRecursion (StandsAt h) state.methods) (sym (append-nil past)) all
added_after state past (entry ∷ entries) legal all =
    let next = step_gives (StandsAt (past ++ entry ∷ [])) state entry.event (still_added past entry _ all)
    (λ id address event is. (entry, legal.3 ∙ is, event, Contains-append_right past (entry ∷ []) entry (0, omega arith, refl))) in
    subst (λ (h : List Entry). AllByRecursion (StandsAt h) (after state (entry ∷ entries)).methods) (append_assoc past (entry ∷ []) entries)
    (added_after (step state entry.event).state (past ++ entry ∷ []) entries legal.4 next)

-- each method that is registered after a legal history was added in it at its address
pub methods_added_at : (caps : Limits) (history : List Entry) → Legal caps history
    → AllByRecursion (λ method. IsAddedAt history method.id method.address) (after (opening caps) history).methods
methods_added_at caps history legal = added_after (opening caps) [] history legal.1 tt
