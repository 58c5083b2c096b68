-- What became of a server and the boxes, one add or one removal on.
use Rattle.std.proofs.Common.{◌≡◌, ◌⊎◌, inl, inr, ℕ, ◌+◌, true, cond, List, [], ◌∷◌, ◌++◌, map, Option, Some, None, refl, sym, ap, subst, ◌∙◌, append_assoc}
use Rattle.std.specs.Option.{option_map}
use Rattle.std.specs.List.{Contains}
use Rattle.std.proofs.lemmas.List.{append-nil, map-append}
use Rattle.osc_atoms.specs.declared.room.Room.{Room as CodeRoom}
use Rattle.osc_tree.specs.Adding.{Refusal, taken, under_method, is_container, methods_full, nodes_full, add_refusal}
use Rattle.osc_model.specs.State.{State, registry}
use Rattle.osc_model.specs.Counts.{free_bytes}
use Rattle.osc_model.specs.Recordings.{entry_size}
use Rattle.osc_model.specs.Events.{add, remove, Answer, added, refused, record_full, adds_entry, Room, Invocation}
use Rattle.osc_model.specs.Step.{Stepped, step, decided, add_at}
use Rattle.osc_model.specs.Heard.{Told, reset, without_id}
use Rattle.osc_model.specs.History.{Performance, state_of, invoked_in, stepped_in, onward}
use Rattle.osc_model.proofs.Stepping.{step_so}
use Rattle.osc_record.specs.Shown.{room_of}
use Rattle.osc_core.specs.Answers.{adding_of, refusal_of, OnAdded, OnRefused, OnRemoved, OnKept}
use Rattle.osc_core.specs.declared.answers.AddRefusal.{AddRefusal}
use Rattle.osc_core.specs.declared.answers.AddRefusal.TheVariants as why
use Rattle.osc_core.specs.declared.answers.Adding.{Adding}
use Rattle.osc_core.specs.declared.answers.Adding.TheVariants.{Added, Refused}
use Rattle.osc_core.specs.declared.answers.Removing.{Removing}
use Rattle.osc_core.specs.declared.answers.Removing.TheVariants as removing
use Rattle.osc_model.specs.Events.{room_in}
use Rattle.osc_player.specs.Bank.{Meaning, add_answers, boxes_left}
use Rattle.osc_core.specs.Answers.{handed_back, handed_out}
use Rattle.osc_player.specs.Tally.{Tally, IsAt, IsOver, IsAtUnless}
use Rattle.osc_player.proofs.Hearing.{told_at}
use Rattle.osc_player.proofs.Onward.{onward_none}
use Rattle.osc_player.proofs.Tallies.{tally_added, tally_refused, tally_removed}
use Rattle.osc_player.proofs.Places.{given, remove_quiet, at_over, at_unless, at_more, at_quiet}

-- what an add comes to: the next id, a refusal, or no room
record AddsOne (state : State) (stepped : Stepped) : Type 0 where
  pub id : stepped.answer ≡ added state.next_id
  pub next : stepped.state.next_id ≡ state.next_id + 1

record AddsNone (state : State) (stepped : Stepped) : Type 0 where
  pub why : Refusal
  pub answer : stepped.answer ≡ refused why
  pub next : stepped.state.next_id ≡ state.next_id

record HasNoRoom (state : State) (stepped : Stepped) : Type 0 where
  pub room : Room
  pub answer : stepped.answer ≡ record_full room

record AddWay (state : State) (stepped : Stepped) : Type 0 where
  pub silent : stepped.invocations ≡ []
  pub way : AddsOne state stepped ⊎ (AddsNone state stepped ⊎ HasNoRoom state stepped)

add_way : (state : State) (address : List ℕ) → AddWay state (step state (add address))
add_way state address =
    step_so (AddWay state) state (add address)
    (record {
      silent = λ none. decides (add_refusal (registry state) address);
      full = λ adds full.
          record {
            silent = refl;
            way = inr (inr
                (record { room = record { need = entry_size (add address) (decided state (add address)).answer; free = free_bytes state }; answer = refl }));
          };
      room = λ adds fits. noted (add_refusal (registry state) address);
    })
  where
    decides : (refusal : Option Refusal) → AddWay state (add_at state address refusal)
    decides None = record { silent = refl; way = inl (record { id = refl; next = refl }) }
    decides (Some refusal) = record { silent = refl; way = inr (inl (record { why = refusal; answer = refl; next = refl })) }

    noted : (refusal : Option Refusal)
        → AddWay state
        (record (add_at state address refusal) {
          state = record
              (add_at state address refusal).state { recorded = state.recorded + entry_size (add address) (decided state (add address)).answer };
        })
    noted None = record { silent = refl; way = inl (record { id = refl; next = refl }) }
    noted (Some refusal) = record { silent = refl; way = inr (inl (record { why = refusal; answer = refl; next = refl })) }

-- a refusal is for want of room, or another
refusal_ways : (reason : AddRefusal) → ((room : CodeRoom) × (reason ≡ why.RecordFull room)) ⊎ ((refusal : Refusal) × (refusal_of reason ≡ refused refusal))
refusal_ways (why.RecordFull room) = inl (room, refl)
refusal_ways (why.Taken id) = inr (taken id, refl)
refusal_ways (why.UnderMethod id) = inr (under_method id, refl)
refusal_ways why.IsContainer = inr (is_container, refl)
refusal_ways (why.MethodsFull limit) = inr (methods_full limit, refl)
refusal_ways (why.NodesFull room) = inr (nodes_full room.need room.free, refl)

module _ {M : Type 0} (meaning : M → Meaning) (bank : List M) (performance performance' : Performance) (address : List ℕ)
    (next : performance' ≡ onward performance 0 (add address)) where
  -- the tally of an add, by its answer
  add_tally : (answer : Answer) (count : ℕ) (boxes removed : List Told) (left rest : List M) → (stepped_in performance (add address)).answer ≡ answer
      → adds_entry answer ≡ true
      → (stepped_in performance (add address)).state.next_id ≡ count → (stepped_in performance (add address)).invocations ≡ []
      → Tally meaning (invoked_in performance) (add_answers performance.history ++ answer ∷ []) bank count boxes removed left rest
      → IsAt meaning bank performance' boxes removed left rest
  add_tally answer count boxes removed left rest is adds ids silent tally =
      let calls : invoked_in performance ++ (stepped_in performance (add address)).invocations ≡ invoked_in performance =
      ap (λ (l : List Invocation). invoked_in performance ++ l) silent ∙ append-nil (invoked_in performance) in
      let one : given performance (add address) ≡ answer ∷ [] = ap (λ (a : Answer). cond {A = List Answer} (adds_entry a) (a ∷ []) []) is
      ∙ ap (λ t. cond {A = List Answer} t (answer ∷ []) []) adds in
      at_more meaning bank performance performance' (add address) next boxes removed left rest
      (subst (λ (l : List Invocation). Tally meaning l (add_answers performance.history ++ given performance (add address)) bank
      (stepped_in performance (add address)).state.next_id boxes removed left rest) (sym calls)
      (subst (λ (l : List Answer). Tally meaning (invoked_in performance) (add_answers performance.history ++ l) bank
      (stepped_in performance (add address)).state.next_id boxes removed left rest) (sym one)
      (subst (λ (n : ℕ). Tally meaning (invoked_in performance) (add_answers performance.history ++ answer ∷ []) bank n boxes removed left rest)
      (sym ids) tally)))

  added_at : (id : ℕ) (method : M) (boxes boxes' removed : List Told) (left rest more : List M) → added id ≡ (stepped_in performance (add address)).answer
      → boxes' ≡ boxes ++ reset (told_at id (meaning method)) ∷ [] → rest ≡ method ∷ more → IsAt meaning bank performance boxes removed left rest
      → IsAt meaning bank performance' boxes' removed left more
  added_at id method boxes boxes' removed left rest more answer grown first at = go (add_way (state_of performance) address).way where
    silent : (stepped_in performance (add address)).invocations ≡ []
    silent = (add_way (state_of performance) address).silent

    go : AddsOne (state_of performance) (stepped_in performance (add address))
        ⊎ (AddsNone (state_of performance) (stepped_in performance (add address)) ⊎ HasNoRoom (state_of performance) (stepped_in performance (add address)))
        → IsAt meaning bank performance' boxes' removed left more
    go (inl one) =
        let count = (state_of performance).next_id in
        let is : id ≡ count = let both : added id ≡ added count = answer ∙ one.id in cc in
        let new : boxes' ≡ boxes ++ reset (told_at count (meaning method)) ∷ [] = grown ∙ ap (λ (n : ℕ). boxes ++ reset (told_at n (meaning method)) ∷ []) is in
        let tally = tally_added meaning (invoked_in performance) (add_answers performance.history) bank count
        (stepped_in performance (add address)).state.next_id boxes removed left method more one.next
        (subst (Tally meaning (invoked_in performance) (add_answers performance.history) bank count boxes removed left) first at) in
        add_tally (added count) (stepped_in performance (add address)).state.next_id boxes' removed left more one.id refl refl silent
        (subst (λ (l : List Told). Tally meaning (invoked_in performance) (add_answers performance.history ++ added count ∷ []) bank
        (stepped_in performance (add address)).state.next_id l removed left more) (sym new) tally)
    go (inr (inl none)) = let both : added id ≡ refused none.why = answer ∙ none.answer in absurd (cc)
    go (inr (inr full)) = let both : added id ≡ record_full full.room = answer ∙ full.answer in absurd (cc)

  refused_at : (reason : Refusal) (method : M) (boxes boxes' removed : List Told) (left rest more : List M)
      → refused reason ≡ (stepped_in performance (add address)).answer
      → boxes' ≡ boxes → rest ≡ method ∷ more → IsAt meaning bank performance boxes removed left rest
      → IsAt meaning bank performance' boxes' removed (left ++ method ∷ []) more
  refused_at reason method boxes boxes' removed left rest more answer same first at = go (add_way (state_of performance) address).way where
    silent : (stepped_in performance (add address)).invocations ≡ []
    silent = (add_way (state_of performance) address).silent

    go : AddsOne (state_of performance) (stepped_in performance (add address))
        ⊎ (AddsNone (state_of performance) (stepped_in performance (add address)) ⊎ HasNoRoom (state_of performance) (stepped_in performance (add address)))
        → IsAt meaning bank performance' boxes' removed (left ++ method ∷ []) more
    go (inl one) = let both : refused reason ≡ added (state_of performance).next_id = answer ∙ one.id in absurd (cc)
    go (inr (inl none)) =
        let count = (state_of performance).next_id in
        let tally = tally_refused meaning (invoked_in performance) (add_answers performance.history)
        (refused none.why) bank count boxes removed left method more (λ b. refl) (λ b. refl)
        (subst (Tally meaning (invoked_in performance) (add_answers performance.history) bank count boxes removed left) first at) in
        add_tally (refused none.why) count boxes' removed (left ++ method ∷ []) more none.answer refl none.next silent
        (subst (λ (l : List Told). Tally meaning (invoked_in performance) (add_answers performance.history ++ refused none.why ∷ []) bank count l removed
        (left ++ method ∷ []) more) (sym same) tally)
    go (inr (inr full)) = let both : refused reason ≡ record_full full.room = answer ∙ full.answer in absurd (cc)

  -- there was no room: the box is among the others
  full_over : (room : Room) (method : M) (boxes boxes' removed : List Told) (left rest more : List M)
      → record_full room ≡ (stepped_in performance (add address)).answer
      → boxes' ≡ boxes → rest ≡ method ∷ more → IsAt meaning bank performance boxes removed left rest
      → IsOver meaning bank performance' boxes' removed (left ++ method ∷ []) more
  full_over room method boxes boxes' removed left rest more answer same first at =
      let over = at_over meaning bank performance boxes removed left rest at in
      let stays : performance' ≡ performance = next ∙ onward_none performance (add address) (ap adds_entry (sym answer)) in
      let all : (left ++ method ∷ []) ++ more ≡ boxes_left (add_answers performance.history) bank =
      append_assoc left (method ∷ []) more ∙ ap (λ (l : List M). left ++ l) (sym first) ∙ over.others in
      subst (λ (p : Performance). IsOver meaning bank p boxes' removed (left ++ method ∷ []) more) (sym stays)
      (subst (λ (l : List Told). IsOver meaning bank performance l removed (left ++ method ∷ []) more) (sym same)
      (record { others = all; told = over.told; rising = over.rising }))

  -- an add, as the clauses of the server say it
  pub at_add : (adding : Adding M) (stop : Option CodeRoom) (method : M) (boxes boxes' removed : List Told) (left left' rest more : List M)
      → adding_of adding ≡ (stepped_in performance (add address)).answer
      → option_map room_of stop ≡ room_in (adding_of adding)
      → OnAdded adding (λ id. boxes' ≡ boxes ++ reset (told_at id (meaning method)) ∷ [])
      → OnRefused adding (λ back untouched. boxes' ≡ boxes)
      → OnRefused adding (λ back untouched. (back ≡ address) × (untouched ≡ method))
      → left' ≡ left ++ handed_back adding
      → rest ≡ method ∷ more
      → IsAt meaning bank performance boxes removed left rest
      → IsAtUnless stop meaning bank performance' boxes' removed left' more
  at_add (Added id) stop method boxes boxes' removed left left' rest more answer stops grown same back kept first at =
      at_unless meaning bank stop performance' boxes' removed left' more
      (subst (λ (l : List M). IsAt meaning bank performance' boxes' removed l more) (sym (kept ∙ append-nil left))
      (added_at id method boxes boxes' removed left rest more answer grown first at))
  at_add (Refused reason address' method') stop method boxes boxes' removed left left' rest more answer stops grown same back kept first at =
      go stop stops (refusal_ways reason) where
        all : left' ≡ left ++ method ∷ []
        all = kept ∙ ap (λ (b : M). left ++ b ∷ []) back.1

        go : (stop : Option CodeRoom) → option_map room_of stop ≡ room_in (refusal_of reason)
            → ((room : CodeRoom) × (reason ≡ why.RecordFull room)) ⊎ ((refusal : Refusal) × (refusal_of reason ≡ refused refusal))
            → IsAtUnless stop meaning bank performance' boxes' removed left' more
        go None stops (inl full) = let both : None ≡ Some (room_of full.0) = stops ∙ ap (λ r. room_in (refusal_of r)) full.1 in absurd (cc)
        go (Some room) stops (inl full) =
            subst (λ (l : List M). IsOver meaning bank performance' boxes' removed l more) (sym all)
            (full_over (room_of full.0) method boxes boxes' removed left rest more (sym (ap refusal_of full.1) ∙ answer) same first at)
        go stop stops (inr other) =
            at_unless meaning bank stop performance' boxes' removed left' more
            (subst (λ (l : List M). IsAt meaning bank performance' boxes' removed l more) (sym all)
            (refused_at other.0 method boxes boxes' removed left rest more (sym other.1 ∙ answer) same first at))

module _ {M : Type 0} (meaning : M → Meaning) (bank : List M) (performance performance' : Performance) (address : List ℕ)
    (next : performance' ≡ onward performance 0 (remove address)) where
  -- a removal, as the clauses of the server say it
  pub at_remove : (result : Removing M) (stop : Option CodeRoom) (boxes boxes' : List Told) (pairs pairs' : List (ℕ × M)) (left rest : List M)
      → OnRemoved result (λ id method. Contains boxes (told_at id (meaning method)))
      → OnRemoved result (λ id method. boxes' ≡ without_id id boxes)
      → OnKept result (boxes' ≡ boxes)
      → pairs' ≡ pairs ++ handed_out result
      → IsAt meaning bank performance boxes (map (λ one. told_at one.0 (meaning one.1)) pairs) left rest
      → IsAtUnless stop meaning bank performance' boxes' (map (λ one. told_at one.0 (meaning one.1)) pairs') left rest
  at_remove result stop boxes boxes' pairs pairs' left rest there others same kept at =
      at_unless meaning bank stop performance' boxes' (map tell pairs') left rest (go result there others same kept) where
        tell : ℕ × M → Told
        tell one = told_at one.0 (meaning one.1)

        stays : boxes' ≡ boxes → pairs' ≡ pairs ++ [] → IsAt meaning bank performance' boxes' (map tell pairs') left rest
        stays same kept =
            subst (λ (l : List (ℕ × M)). IsAt meaning bank performance' boxes' (map tell l) left rest) (sym (kept ∙ append-nil pairs))
            (at_quiet meaning bank performance performance' (remove address) next (remove_quiet (state_of performance) address) boxes'
            (map tell pairs) left rest
            (subst (λ (l : List Told). Tally meaning (invoked_in performance) (add_answers performance.history) bank (state_of performance).next_id l
            (map tell pairs) left rest) (sym same) at))

        go : (result : Removing M) → OnRemoved result (λ id method. Contains boxes (told_at id (meaning method)))
            → OnRemoved result (λ id method. boxes' ≡ without_id id boxes) → OnKept result (boxes' ≡ boxes) → pairs' ≡ pairs ++ handed_out result
            → IsAt meaning bank performance' boxes' (map tell pairs') left rest
        go (removing.RecordFull room) there others same kept = stays same kept
        go removing.NotThere there others same kept = stays same kept
        go (removing.Removed id method) there others same kept =
            let moved = map tell pairs ++ told_at id (meaning method) ∷ [] in
            let tally = tally_removed meaning (invoked_in performance) (add_answers performance.history) bank (state_of performance).next_id boxes
            (map tell pairs) left rest (told_at id (meaning method)) there at in
            let all : map tell pairs' ≡ moved = ap (map tell) kept ∙ map-append tell pairs ((id, method) ∷ []) in
            at_quiet meaning bank performance performance' (remove address) next (remove_quiet (state_of performance) address) boxes'
            (map tell pairs') left rest
            (subst (λ (l : List Told). Tally meaning (invoked_in performance) (add_answers performance.history) bank
            (state_of performance).next_id boxes' l left rest) (sym all)
            (subst (λ (l : List Told). Tally meaning (invoked_in performance) (add_answers performance.history) bank
            (state_of performance).next_id l moved left rest) (sym others) tally))
