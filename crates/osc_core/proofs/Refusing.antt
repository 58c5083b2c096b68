-- An entry that is played again.
use Rattle.std.proofs.Common.{◌≡◌, ℕ, true, false, List, Option, Some, None, refl, sym, ap, subst, ◌∙◌}
use Rattle.osc_tree.specs.Registry.{id_at}
use Rattle.osc_tree.specs.Adding.{Refusal, add_refusal}
use Rattle.osc_model.specs.State.{State, registry}
use Rattle.osc_model.specs.Events.{Answer, add, remove, adds_entry, is_added, is_removed}
use Rattle.osc_model.specs.Refusals.{IsRefusal}
use Rattle.osc_model.specs.Step.{Stepped, step, add_at, remove_at}
use Rattle.osc_model.proofs.Onward.{entered}
use Rattle.osc_record.specs.declared.event.Answer.{Answer as Recorded}
use Rattle.osc_record.specs.declared.event.Answer.TheVariants as recorded
use Rattle.osc_record.specs.Shown.{answer_of}

-- a recorded answer is one that adds an entry
pub answers_add : (answer : Recorded) → adds_entry (answer_of answer) ≡ true
answers_add (recorded.Number n) = refl
answers_add recorded.CallersFull = refl
answers_add (recorded.Queued first count late) = refl
answers_add (recorded.UnitsFull room) = refl
answers_add (recorded.PoolFull room) = refl
answers_add (recorded.Added id) = refl
answers_add (recorded.Taken id) = refl
answers_add (recorded.UnderMethod id) = refl
answers_add recorded.IsContainer = refl
answers_add (recorded.MethodsFull limit) = refl
answers_add (recorded.NodesFull room) = refl
answers_add (recorded.Removed id) = refl
answers_add recorded.NotThere = refl
answers_add recorded.Ticked = refl
answers_add (recorded.ClockBack kept) = refl
answers_add (recorded.Released unit hits) = refl

-- an add or a remove that isn't answered by an id is refused
pub add_refused : (state : State) (address : List ℕ) (answer : Answer) → answer ≡ (step state (add address)).answer → adds_entry answer ≡ true
    → is_added answer ≡ false → IsRefusal answer
add_refused state address answer is adds none =
    let on = entered state (add address) (ap adds_entry (sym is) ∙ adds) in
    let here : answer ≡ (add_at state address (add_refusal (registry state) address)).answer = is ∙ ap (λ (s : Stepped). s.answer) on.is in
    subst IsRefusal (sym here) (go (add_refusal (registry state) address) (ap is_added (sym here) ∙ none))
  where
    go : (o : Option Refusal) → is_added (add_at state address o).answer ≡ false → IsRefusal (add_at state address o).answer
    go None none = absurd (cc)
    go (Some refusal) none = tt

pub remove_refused : (state : State) (address : List ℕ) (answer : Answer) → answer ≡ (step state (remove address)).answer → adds_entry answer ≡ true
    → is_removed answer ≡ false → IsRefusal answer
remove_refused state address answer is adds none =
    let on = entered state (remove address) (ap adds_entry (sym is) ∙ adds) in
    let here : answer ≡ (remove_at state address (id_at state.methods address)).answer = is ∙ ap (λ (s : Stepped). s.answer) on.is in
    subst IsRefusal (sym here) (go (id_at state.methods address) (ap is_removed (sym here) ∙ none))
  where
    go : (o : Option ℕ) → is_removed (remove_at state address o).answer ≡ false → IsRefusal (remove_at state address o).answer
    go None none = tt
    go (Some id) none = absurd (cc)
