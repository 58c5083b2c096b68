-- Each method that is registered was added.
use Rattle.std.proofs.Common.{◌≡◌, ℕ, Bool, true, false, cond, List, [], ◌∷◌, ◌++◌, map, append_assoc, refl, sym, subst, ◌∙◌, arith}
use Rattle.std.specs.List.{filter, AllByRecursion, Contains}
use Rattle.std.proofs.lemmas.List.{append-nil}
use Rattle.std.proofs.lemmas.List.Elements.{Contains-append_left, Contains-append_right}
use Rattle.osc_pattern.specs.Methods.{Method}
use Rattle.osc_model.specs.Limits.{Limits}
use Rattle.osc_model.specs.State.{State, opening}
use Rattle.osc_model.specs.Events.{Event, added, Entry}
use Rattle.osc_model.specs.Step.{step}
use Rattle.osc_model.specs.History.{LegalFrom, Legal, after}
use Rattle.osc_model.proofs.Stepping.{step_so, decided_so}

-- an entry of the history added the method with the id
abbrev pub IsAdded : List Entry → ℕ → Type 0
IsAdded history id = (entry : Entry) × (entry.answer ≡ added id) × Contains history entry

one_more : (P : ℕ → Type 0) (methods : List Method) (method : Method) → AllByRecursion P (map (λ (method : Method). method.id) methods) → P method.id
    → AllByRecursion P (map (λ (method : Method). method.id) (methods ++ method ∷ []))
one_more P [] method all this = (this, tt)
one_more P (first ∷ methods) method all this = (all.0, one_more P methods method all.1 this)

some_of : (P : ℕ → Type 0) (test : Method → Bool) (methods : List Method) → AllByRecursion P (map (λ (method : Method). method.id) methods)
    → AllByRecursion P (map (λ (method : Method). method.id) (filter test methods))
some_of P test [] all = tt
some_of P test (first ∷ methods) all = go (test first) (some_of P test methods all.1) where
  go : (t : Bool) → AllByRecursion P (map (λ (method : Method). method.id) (filter test methods))
      → AllByRecursion P (map (λ (method : Method). method.id) (cond t (first ∷ filter test methods) (filter test methods)))
  go true rest = (all.0, rest)
  go false rest = rest

-- what holds of each method's id, and of one that is added, holds of each after a step
step_gives : (P : ℕ → Type 0) (state : State) (event : Event) → AllByRecursion P (map (λ (method : Method). method.id) state.methods)
    → ((id : ℕ) → (step state event).answer ≡ added id → P id) → AllByRecursion P (map (λ (method : Method). method.id) (step state event).state.methods)
step_gives P state event all =
    let here = decided_so (λ event stepped. ((id : ℕ) → stepped.answer ≡ added id → P id)
    → AllByRecursion P (map (λ (method : Method). method.id) stepped.state.methods)) state event
    (record {
      refused = λ event answer is gives. all;
      enrolled = λ gives. all;
      queued = λ packet gives. all;
      added = λ address gives. one_more P state.methods _ all (gives state.next_id refl);
      removed = λ address id gives. some_of P _ state.methods all;
      ticked = λ now later gives. all;
      released = λ unit units first gives. all;
    }) in
    step_so (λ stepped. ((id : ℕ) → stepped.answer ≡ added id → P id) → AllByRecursion P (map (λ (method : Method). method.id) stepped.state.methods)) state
    event
    (record { silent = λ none. here; full = λ some full gives. all; room = λ some fits. here })

still_added : (past : List Entry) (entry : Entry) (ids : List ℕ) → AllByRecursion (IsAdded past) ids → AllByRecursion (IsAdded (past ++ entry ∷ [])) ids
still_added past entry [] all = tt
still_added past entry (id ∷ ids) all = ((all.0.0, all.0.1, Contains-append_left past (entry ∷ []) all.0.0 all.0.2), still_added past entry ids all.1)

added_after : (state : State) (past entries : List Entry) → LegalFrom state entries
    → AllByRecursion (IsAdded past) (map (λ (method : Method). method.id) state.methods)
    → AllByRecursion (IsAdded (past ++ entries)) (map (λ (method : Method). method.id) (after state entries).methods)
added_after state past [] legal all =
    subst (λ (h : List Entry). AllByRecursion (IsAdded h) (map (λ (method : Method). method.id) state.methods)) (sym (append-nil past)) all
added_after state past (entry ∷ entries) legal all =
    let next = step_gives (IsAdded (past ++ entry ∷ [])) state entry.event (still_added past entry _ all)
    (λ id is. (entry, legal.3 ∙ is, Contains-append_right past (entry ∷ []) entry (0, omega arith, refl))) in
    subst (λ (h : List Entry). AllByRecursion (IsAdded h) (map (λ (method : Method). method.id) (after state (entry ∷ entries)).methods))
    (append_assoc past (entry ∷ []) entries)
    (added_after (step state entry.event).state (past ++ entry ∷ []) entries legal.4 next)

-- each method that is registered after a legal history was added in it
pub methods_added : (caps : Limits) (history : List Entry) → Legal caps history
    → AllByRecursion (IsAdded history) (map (λ (method : Method). method.id) (after (opening caps) history).methods)
methods_added caps history legal = added_after (opening caps) [] history legal.1 tt
