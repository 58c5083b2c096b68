-- The box of a line that adds a method, and the one that is kept under its id, have one mark.
use Rattle.std.proofs.Common.{◌≡◌, ℕ, zero, suc, ◌+◌, ◌<◌, ◌≤◌, Bool, true, false, List, [], ◌∷◌, Option, Some, None, inl, inr}
use Rattle.std.proofs.Common.{refl, ap, subst, sym, ◌∙◌, arith}
use Rattle.std.specs.List.{AllByRecursion, Contains, cons_option}
use Rattle.osc_method.specs.Heard.{Fixed}
use Rattle.osc_model.specs.Limits.{Limits, AreInRange}
use Rattle.osc_model.specs.State.{State, opening}
use Rattle.osc_model.specs.Events.{Answer, Entry, added, removed}
use Rattle.osc_model.specs.Step.{step}
use Rattle.osc_model.specs.History.{IsSound, Legal, LegalFrom}
use Rattle.osc_model.proofs.Changes.{Changes, LosesMethod, changes, tells_change}
use Rattle.osc_model.proofs.Onward.{legal_split}
use Rattle.osc_laws.proofs.Methods.{StaysSound}
use Rattle.osc_tree.proofs.Lines.{all_at, id_at-some}
use Rattle.osc_core.specs.Ids.{is_ascending}
use Rattle.osc_core.specs.Standing.{CarriesMark, history_in, mark_of}
use Rattle.osc_core.proofs.Texts.{TextLaws}
use Rattle.osc_turn.specs.declared.view.Entry.{Entry as Seen}
use Rattle.osc_turn.specs.History.{StartsWith, texts}
use Rattle.osc_live.specs.Resuming.{added_in, removed_id, removed_in}
use Rattle.osc_live.proofs.PlayedAgain.{ids_counted}
use Rattle.osc_life.specs.Lives.{added_ids}
use Rattle.osc_life.specs.Holders.{Holder}
use Rattle.osc_lanes.specs.Shares.{Account, IsMarkedBy, PlaysAct, known_of}
use Rattle.osc_script.specs.declared.act.Act.TheVariants.{Add}
use Rattle.osc_lanes.proofs.OneMark.{one_mark, read_again}
use Rattle.osc_lanes.proofs.Staying.{mark_still}
use Rattle.osc_script.specs.declared.line.Line.{Line}
use Rattle.osc_ends.specs.declared.outcome.Outcome.{Outcome}
use Rattle.osc_top.specs.Lanes.{PlaysLanes}
use Rattle.osc_top.specs.Resumed.{PlaysResumed}
use Rattle.osc_top.proofs.Continued.{history_since, removed_so}
use Rattle.osc_top.proofs.Staged.{told_each}

-- a method that leaves has an id that was given
lost_below : (state : State) (entry : Entry) → IsSound state → entry.answer ≡ (step state entry.event).answer
    → LosesMethod state entry.event (step state entry.event) → (id : ℕ) → entry.answer ≡ removed id → id < state.next_id
lost_below state entry sound answered loses id removes =
    let same : removed loses.id ≡ removed id = sym loses.answer ∙ (sym answered ∙ removes) in
    let is : loses.id ≡ id = cc in
    let below : loses.id < state.next_id =
    all_at (λ method. method.id < state.next_id) state.methods loses.id loses.address sound.ids (id_at-some state.methods loses.address loses.id loses.found) in
    omega (arith, is, below)

changed_below : (state : State) (entry : Entry) → IsSound state → entry.answer ≡ (step state entry.event).answer
    → (id : ℕ) → entry.answer ≡ removed id → Changes state entry.event (step state entry.event) → id < state.next_id
changed_below state entry sound answered id removes (inl keeps) =
    let other : removed id ≡ (step state entry.event).answer = sym removes ∙ answered in
    let told : tells_change (removed id) ≡ false = ap tells_change other ∙ keeps.answer in
    absurd (cc)
changed_below state entry sound answered id removes (inr (inl adds)) =
    let other : removed id ≡ added state.next_id = sym removes ∙ (answered ∙ adds.answer) in absurd (cc)
changed_below state entry sound answered id removes (inr (inr loses)) = lost_below state entry sound answered loses id removes

-- so has each one that a history removes
removed_below : StaysSound → (state : State) (history : List Entry) → LegalFrom state history → IsSound state → (id : ℕ)
    → Contains (removed_in history) id → id < state.next_id + added_in history
removed_below stays state [] legal sound id (k, within, is) = absurd (omega (arith, within))
removed_below stays state (entry ∷ entries) legal sound id held =
    go (removed_id entry.answer) refl held (removed_below stays (step state entry.event).state entries legal.4 (stays state entry.event legal.1 sound) id) where
      given : (step state entry.event).state.next_id + added_in entries ≡ state.next_id + added_in (entry ∷ entries)
      given = omega (arith, ids_counted state (entry ∷ entries) legal, ids_counted (step state entry.event).state entries legal.4)

      go : (r : Option ℕ) → removed_id entry.answer ≡ r → Contains (cons_option r (removed_in entries)) id
          → (Contains (removed_in entries) id → id < (step state entry.event).state.next_id + added_in entries)
          → id < state.next_id + added_in (entry ∷ entries)
      go None is there rest = omega (arith, rest there, given)
      go (Some other) is (zero, within, at) rest =
          let below : id < state.next_id =
          changed_below state entry sound legal.3 id (removed_so entry.answer id (is ∙ ap Some at)) (changes state entry.event) in
          omega (arith, below)
      go (Some other) is (suc k, within, at) rest = omega (arith, rest (k, omega (arith, within), at), given)

module _ {M : Type 0} (keep : M → Fixed) (heard : M → Option (List ℕ)) where
  -- the box has the mark of a line's box, where it has the line's id
  abbrev pub HasMarkOfLine : ℕ → M → ℕ × M → Type 0
  HasMarkOfLine id box one = one.0 ≡ id → mark_of (known_of keep heard id one.1) ≡ mark_of (known_of keep heard id box)

  module _ (laws : TextLaws) (caps : Limits) (history there : List Seen) (legal : Legal caps (history_in (texts history)))
      (ascending : is_ascending (added_ids (history_in (texts history))) ≡ true) (starts : StartsWith history there) (id : ℕ) (box : M)
      (carries : CarriesMark (texts there) id (mark_of (known_of keep heard id box))) where
    one_box : (one : ℕ × M) → (one.0 ≡ id → CarriesMark (texts history) one.0 (mark_of (known_of keep heard one.0 one.1))) → HasMarkOfLine id box one
    one_box one marked same =
        one_mark (texts history) id _ _ (read_again laws caps (texts history) legal) ascending
        (subst (λ (n : ℕ). CarriesMark (texts history) n (mark_of (known_of keep heard n one.1))) same (marked same))
        (mark_still history there id _ starts carries)

    each_box : (boxes : List (ℕ × M)) → AllByRecursion (λ one. one.0 ≡ id → CarriesMark (texts history) one.0 (mark_of (known_of keep heard one.0 one.1))) boxes
        → AllByRecursion (HasMarkOfLine id box) boxes
    each_box [] all = tt
    each_box (one ∷ boxes) all = (one_box one all.0, each_box boxes all.1)

  only_where : {P Q : ℕ × M → Type 0} → ((one : ℕ × M) → P one → Q one) → (ones : List (ℕ × M)) → AllByRecursion P ones → AllByRecursion Q ones
  only_where so [] all = tt
  only_where so (one ∷ ones) all = (so one all.0, only_where so ones all.1)

  -- where a line's answer is that its method was added, the entry carries the mark of its box
  added_mark : (holder : Holder) (number : ℕ) (address : List ℕ) (boxes left : List M) (account : Account M) (here there : List Seen)
      (act : PlaysAct keep heard holder number (Add address) boxes left account here there) (id : ℕ) → act.1 ≡ added id
      → CarriesMark (texts there) id (mark_of (known_of keep heard id act.0))
  added_mark holder number address boxes left account here there act id adds = subst (λ (a : Answer). IsMarkedBy keep heard act.0 a there) adds act.4

  pub new_boxes : TextLaws → (caps : Limits) (watched : Bool) (lines : List Line) (bank : List M) (boxes_heard : List (ℕ × M)) (boxes_left : List M)
      (recording text : List ℕ) (outcome : Outcome) (holder : Holder) (number : ℕ) (address : List ℕ) (boxes left : List M) (account : Account M)
      (here there : List Seen) (id : ℕ)
      → (plays : PlaysLanes keep heard caps watched bank boxes_heard boxes_left lines recording text outcome)
      → (act : PlaysAct keep heard holder number (Add address) boxes left account here there) → act.1 ≡ added id
      → StartsWith plays.performs.history there → AllByRecursion (HasMarkOfLine id act.0) boxes_heard
  new_boxes laws caps watched lines bank boxes_heard boxes_left recording text outcome holder number address boxes left account here there id plays act
      adds starts =
      let history = plays.performs.history in
      each_box laws caps history there plays.performs.stage.legal plays.performs.closed.ascending starts id act.0
      (added_mark holder number address boxes left account here there act id adds) boxes_heard
      (only_where (λ one carries same. carries) boxes_heard
      (told_each keep heard (λ told. CarriesMark (texts history) told.id (mark_of told)) boxes_heard plays.boxes.marked))

  pub later_boxes : StaysSound → ((caps : Limits) → AreInRange caps → IsSound (opening caps)) → TextLaws → (caps : Limits) (before : List Entry)
      (lines : List Line) (bank : List M) (boxes_heard : List (ℕ × M)) (boxes_left : List M) (recording text : List ℕ) (outcome : Outcome)
      (holder : Holder) (number : ℕ) (address : List ℕ) (boxes left : List M) (account : Account M) (here there : List Seen) (id : ℕ)
      → (plays : PlaysResumed keep heard caps before bank boxes_heard boxes_left lines recording text outcome)
      → (act : PlaysAct keep heard holder number (Add address) boxes left account here there) → act.1 ≡ added id
      → StartsWith plays.performs.history there → added_in before ≤ id → AllByRecursion (HasMarkOfLine id act.0) boxes_heard
  later_boxes stays opens laws caps before lines bank boxes_heard boxes_left recording text outcome holder number address boxes left account here there id plays
      act adds starts new =
      let history = plays.performs.history in
      let legal : Legal caps (history_in (texts history)) = plays.performs.stage.legal in
      let whole = history_since plays.past before history plays.performs.stage.since plays.past_is plays.performs.stage.goes_on in
      let past_legal : LegalFrom (opening caps) before =
      (legal_split (opening caps) before (history_in (texts plays.performs.stage.since)) (subst (LegalFrom (opening caps)) whole legal.1)).0 in
      let stays_in : (one : ℕ × M) → one.0 ≡ id → Contains (removed_in before) one.0 → ⊥ =
      λ one same gone.
      let below : one.0 < (opening caps).next_id + added_in before = removed_below stays (opening caps) before past_legal (opens caps legal.0) one.0 gone in
      omega (arith, below, same, new) in
      each_box laws caps history there legal plays.performs.closed.ascending starts id act.0
      (added_mark holder number address boxes left account here there act id adds) boxes_heard
      (only_where (λ one carries same. carries (stays_in one same)) boxes_heard plays.boxes.marked)
