-- What became of a server and the boxes, one event on.
use Rattle.std.proofs.Common.{◌≡◌, inl, inr, ℕ, ◌-◌, Bool, true, false, cond, nat_lt, List, [], ◌∷◌, ◌++◌, map, length, Option, Some}
use Rattle.std.proofs.Common.{None, is_some, refl, sym, ap}
use Rattle.std.proofs.Common.{subst, ◌∙◌}
use Rattle.std.specs.List.{AllByRecursion, Contains}
use Rattle.std.proofs.lemmas.List.{append-nil}
use Rattle.osc_atoms.specs.declared.room.Room.{Room}
use Rattle.osc_packet.specs.Units.{TimedUnit, blocks_of}
use Rattle.osc_packet.specs.Reading.{units_read}
use Rattle.osc_pattern.specs.Methods.{Method}
use Rattle.osc_tree.specs.Registry.{id_at}
use Rattle.osc_model.specs.State.{State}
use Rattle.osc_model.specs.Counts.{free_places, free_blocks}
use Rattle.osc_model.specs.Events.{Event, remove, submit, tick, Answer, queued, units_full, pool_full, ticked, clock_back, adds_entry, Invocation}
use Rattle.osc_model.specs.Step.{Stepped, step, decided, leaves, kept_units, submit_kept, after_submit, remove_at}
use Rattle.osc_model.specs.Heard.{Told, all_hear}
use Rattle.osc_model.specs.Releases.{IsCallIn, InvokesRegistered}
use Rattle.osc_model.specs.History.{Performance, state_of, invoked_in, stepped_in, onward, HaveHeard}
use Rattle.osc_model.proofs.Stepping.{step_so}
use Rattle.osc_model.proofs.Onward.{onward_state, onward_invoked}
use Rattle.osc_model.proofs.Changes.{either}
use Rattle.osc_player.specs.Plain.{entry_of}
use Rattle.osc_player.specs.Bank.{Meaning, answer_to_add, add_answers}
use Rattle.osc_player.specs.Tally.{Tally, IsAt, IsOver, IsAtUnless, refused_boxes}
use Rattle.osc_player.proofs.Rising.{all_weaker, id_contained}
use Rattle.osc_player.proofs.Hearing.{HearsCalls}
use Rattle.osc_player.proofs.Onward.{onward_none, onward_one, answers-append}
use Rattle.osc_player.proofs.Tallies.{tally_released}
use Rattle.osc_player.proofs.Endings.{left_parts}

-- what an event that neither adds nor releases leaves: the ids, and nobody is called
abbrev LeavesIds : State → Stepped → Type 0
LeavesIds state stepped = (stepped.invocations ≡ []) × (stepped.state.next_id ≡ state.next_id)

leaves_ids : (state : State) (event : Event) → LeavesIds state (decided state event) → LeavesIds state (step state event)
leaves_ids state event decides =
    step_so (LeavesIds state) state event (record { silent = λ none. decides; full = λ adds full. (refl, refl); room = λ adds fits. decides })

submit_leaves : (state : State) (units keeps : List TimedUnit) → LeavesIds state (submit_kept state units keeps)
submit_leaves state units keeps =
    let enter : Stepped = leaves (after_submit state units) (queued state.next_unit (length units) (length units - length keeps)) in
    let pool : Stepped = leaves state (pool_full (record { need = blocks_of keeps; free = free_blocks state })) in
    either (LeavesIds state) (nat_lt (free_places state) (length keeps)) (leaves state (units_full (record { need = length keeps; free = free_places state })))
    (cond (nat_lt (free_blocks state) (blocks_of keeps)) pool enter) (refl, refl)
    (either (LeavesIds state) (nat_lt (free_blocks state) (blocks_of keeps)) pool enter (refl, refl) (refl, refl))

remove_leaves : (state : State) (address : List ℕ) (found : Option ℕ) → LeavesIds state (remove_at state address found)
remove_leaves state address None = (refl, refl)
remove_leaves state address (Some id) = (refl, refl)

-- the same, and it is no add
pub record IsQuiet (event : Event) (state : State) : Type 0 where
  pub silent : (step state event).invocations ≡ []
  pub same_ids : (step state event).state.next_id ≡ state.next_id
  pub no_add : (answer : Answer) → answer_to_add event answer ≡ []

pub submit_quiet : (state : State) (packet : List ℕ) → IsQuiet (submit packet) state
submit_quiet state packet = let both = leaves_ids state (submit packet) (submit_leaves state (units_read packet) (kept_units state (units_read packet))) in
    record { silent = both.0; same_ids = both.1; no_add = λ answer. refl }

pub tick_quiet : (state : State) (now : ℕ) → IsQuiet (tick now) state
tick_quiet state now =
    let decides : LeavesIds state (decided state (tick now)) =
    either (LeavesIds state) (nat_lt now state.clock) (leaves state (clock_back state.clock)) (leaves (record state { clock = now }) ticked) (refl, refl)
    (refl, refl) in
    let both = leaves_ids state (tick now) decides in
    record { silent = both.0; same_ids = both.1; no_add = λ answer. refl }

pub remove_quiet : (state : State) (address : List ℕ) → IsQuiet (remove address) state
remove_quiet state address = let both = leaves_ids state (remove address) (remove_leaves state address (id_at state.methods address)) in
    record { silent = both.0; same_ids = both.1; no_add = λ answer. refl }

-- what the add of an event is answered, where its answer adds an entry
abbrev pub given : Performance → Event → List Answer
given performance event = let answer = (stepped_in performance event).answer in cond (adds_entry answer) (answer_to_add event answer) []

onward_answers : (performance : Performance) (event : Event)
    → add_answers (onward performance 0 event).history ≡ add_answers performance.history ++ given performance event
onward_answers performance event = go (adds_entry (stepped_in performance event).answer) refl where
  here : List Answer
  here = answer_to_add event (stepped_in performance event).answer

  go : (t : Bool) → adds_entry (stepped_in performance event).answer ≡ t
      → add_answers (onward performance 0 event).history ≡ add_answers performance.history ++ cond {A = List Answer} t here []
  go true is =
      ap (λ (p : Performance). add_answers p.history) (onward_one performance event is)
      ∙ answers-append performance.history (entry_of (state_of performance) event ∷ [])
      ∙ ap (λ (l : List Answer). add_answers performance.history ++ l) (append-nil here)
  go false is = ap (λ (p : Performance). add_answers p.history) (onward_none performance event is) ∙ sym (append-nil (add_answers performance.history))

module _ {X : Type 0} (meaning : X → Meaning) (bank : List X) where
  -- a bank at its place is over too
  pub at_over : (performance : Performance) (boxes removed : List Told) (left rest : List X) → IsAt meaning bank performance boxes removed left rest
      → IsOver meaning bank performance boxes removed left rest
  at_over performance boxes removed left rest at = record {
    others =
        ap (λ (l : List X). l ++ rest) at.refused ∙ ap (λ (l : List X). refused_boxes (add_answers performance.history) bank ++ l) at.waiting
        ∙ sym (left_parts (add_answers performance.history) bank);
    told = at.told;
    rising = at.rising;
  }

  pub at_unless : (stop : Option Room) (performance : Performance) (boxes removed : List Told) (left rest : List X)
      → IsAt meaning bank performance boxes removed left rest → IsAtUnless stop meaning bank performance boxes removed left rest
  at_unless None performance boxes removed left rest at = at
  at_unless (Some room) performance boxes removed left rest at = at_over performance boxes removed left rest at

  pub at_none : (stop : Option Room) → is_some stop ≡ false → (performance : Performance) (boxes removed : List Told) (left rest : List X)
      → IsAtUnless stop meaning bank performance boxes removed left rest → IsAt meaning bank performance boxes removed left rest
  at_none None is performance boxes removed left rest at = at
  at_none (Some room) is performance boxes removed left rest at = absurd (cc)

  -- what may be over is over
  pub at_done : (stop : Option Room) (performance : Performance) (boxes removed : List Told) (left rest : List X)
      → IsAtUnless stop meaning bank performance boxes removed left rest → IsOver meaning bank performance boxes removed left rest
  at_done None performance boxes removed left rest at = at_over performance boxes removed left rest at
  at_done (Some room) performance boxes removed left rest over = over

module _ {X : Type 0} (meaning : X → Meaning) (bank : List X) (performance performance' : Performance) (event : Event)
    (next : performance' ≡ onward performance 0 event) where
  -- an event more, by what became of the boxes
  pub at_more : (boxes removed : List Told) (left rest : List X)
      → Tally meaning (invoked_in performance ++ (stepped_in performance event).invocations) (add_answers performance.history ++ given performance event) bank
      (stepped_in performance event).state.next_id boxes removed left rest
      → IsAt meaning bank performance' boxes removed left rest
  at_more boxes removed left rest tally =
      let calls : invoked_in performance' ≡ invoked_in performance ++ (stepped_in performance event).invocations =
      ap (λ (p : Performance). invoked_in p) next ∙ onward_invoked performance 0 event in
      let answers : add_answers performance'.history ≡ add_answers performance.history ++ given performance event =
      ap (λ (p : Performance). add_answers p.history) next ∙ onward_answers performance event in
      let ids : (state_of performance').next_id ≡ (stepped_in performance event).state.next_id =
      ap (λ (p : Performance). (state_of p).next_id) next ∙ ap (λ (s : State). s.next_id) (onward_state performance 0 event) in
      subst (λ (l : List Invocation). Tally meaning l (add_answers performance'.history) bank (state_of performance').next_id boxes removed left rest)
      (sym calls)
      (subst (λ (l : List Answer). Tally meaning (invoked_in performance ++ (stepped_in performance event).invocations) l bank
      (state_of performance').next_id boxes removed left rest) (sym answers)
      (subst (λ (n : ℕ). Tally meaning (invoked_in performance ++ (stepped_in performance event).invocations)
      (add_answers performance.history ++ given performance event) bank n boxes removed left rest) (sym ids) tally))

  none_given : ((answer : Answer) → answer_to_add event answer ≡ []) → given performance event ≡ []
  none_given no_add = go (adds_entry (stepped_in performance event).answer) where
    go : (t : Bool) → cond {A = List Answer} t (answer_to_add event (stepped_in performance event).answer) [] ≡ []
    go true = no_add (stepped_in performance event).answer
    go false = refl

  -- an event that gives no answer to an add, and leaves the ids
  pub at_no_add : ((answer : Answer) → answer_to_add event answer ≡ []) → (stepped_in performance event).state.next_id ≡ (state_of performance).next_id
      → (boxes removed : List Told) (left rest : List X)
      → Tally meaning (invoked_in performance ++ (stepped_in performance event).invocations) (add_answers performance.history) bank
      (state_of performance).next_id boxes removed left rest
      → IsAt meaning bank performance' boxes removed left rest
  at_no_add no_add same_ids boxes removed left rest tally =
      let calls = invoked_in performance ++ (stepped_in performance event).invocations in
      let answers : add_answers performance.history ++ given performance event ≡ add_answers performance.history =
      ap (λ (l : List Answer). add_answers performance.history ++ l) (none_given no_add) ∙ append-nil (add_answers performance.history) in
      at_more boxes removed left rest
      (subst (λ (l : List Answer). Tally meaning calls l bank (stepped_in performance event).state.next_id boxes removed left rest) (sym answers)
      (subst (λ (n : ℕ). Tally meaning calls (add_answers performance.history) bank n boxes removed left rest) (sym same_ids) tally))

  -- an event that invokes and adds nothing
  pub at_quiet : IsQuiet event (state_of performance) → (boxes removed : List Told) (left rest : List X)
      → Tally meaning (invoked_in performance) (add_answers performance.history) bank (state_of performance).next_id boxes removed left rest
      → IsAt meaning bank performance' boxes removed left rest
  at_quiet quiet boxes removed left rest tally =
      let same : invoked_in performance ++ (stepped_in performance event).invocations ≡ invoked_in performance =
      ap (λ (l : List Invocation). invoked_in performance ++ l) quiet.silent ∙ append-nil (invoked_in performance) in
      at_no_add quiet.no_add quiet.same_ids boxes removed left rest
      (subst (λ (l : List Invocation). Tally meaning l (add_answers performance.history) bank (state_of performance).next_id boxes removed left rest)
      (sym same) tally)

  -- the same as a clause says it, under any stop
  pub quiet_unless : IsQuiet event (state_of performance) → (stop : Option Room) (boxes boxes' removed : List Told) (left rest : List X) → boxes' ≡ boxes
      → IsAt meaning bank performance boxes removed left rest → IsAtUnless stop meaning bank performance' boxes' removed left rest
  quiet_unless quiet stop boxes boxes' removed left rest same at =
      at_unless meaning bank stop performance' boxes' removed left rest
      (at_quiet quiet boxes' removed left rest
      (subst (λ (l : List Told). Tally meaning (invoked_in performance) (add_answers performance.history) bank
      (state_of performance).next_id l removed left rest) (sym same) at))

  -- an event that calls boxes
  pub at_released : HearsCalls → InvokesRegistered (state_of performance) (stepped_in performance event) → ((answer : Answer) → answer_to_add event answer ≡ [])
      → (stepped_in performance event).state.next_id ≡ (state_of performance).next_id
      → (boxes boxes' removed : List Told) (left rest : List X) → boxes' ≡ all_hear (stepped_in performance event).invocations boxes
      → HaveHeard performance boxes
      → IsAt meaning bank performance boxes removed left rest → IsAt meaning bank performance' boxes' removed left rest
  at_released law registered no_add same_ids boxes boxes' removed left rest heard have at =
      let more = (stepped_in performance event).invocations in
      at_no_add no_add same_ids boxes' removed left rest
      (subst (λ (l : List Told). Tally meaning (invoked_in performance ++ more) (add_answers performance.history) bank
      (state_of performance).next_id l removed left rest) (sym heard)
      (tally_released meaning law (invoked_in performance) more (add_answers performance.history) bank (state_of performance).next_id boxes removed left rest
      (there registered) at))
    where
      there : InvokesRegistered (state_of performance) (stepped_in performance event)
          → AllByRecursion (λ call. Contains (map (λ box. box.id) boxes) call.call.id) (stepped_in performance event).invocations
      there (inr none) = subst (AllByRecursion (λ call. Contains (map (λ (box : Told). box.id) boxes) call.call.id)) (sym none) tt
      there (inl one) =
          all_weaker (IsCallIn (state_of performance) one.0) (λ (call : Invocation). Contains (map (λ (box : Told). box.id) boxes) call.call.id)
          (stepped_in performance event).invocations
          (λ call is. subst (λ (l : List ℕ). Contains l call.call.id) (sym have.ids)
          (id_contained (λ (method : Method). method.id) (state_of performance).methods
          (record { id = call.call.id; address = call.call.address }) is.registered)) one.2
