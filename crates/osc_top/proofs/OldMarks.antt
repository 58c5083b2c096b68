-- The methods that a past adds have the bank's boxes in the places of their ids.
use Rattle.std.proofs.Common.{◌≡◌, ◌≢◌, ◌⊎◌, inl, inr, ℕ, zero, suc, ◌+◌, ◌<◌, ◌≤◌, List, [], ◌∷◌, ◌++◌, map, length, get_or, Option, Some, None}
use Rattle.std.proofs.Common.{refl, sym, ap, subst, ◌∙◌, arith}
use Rattle.std.specs.Prelude.{slice_get}
use Rattle.std.specs.List.{AllByRecursion, Contains, cons_option}
use Rattle.std.proofs.lemmas.Option.{slice_get_cases}
use Rattle.std.proofs.lemmas.List.Elements.{filter_map-append, Contains-append_right}
use mathlib.Core.Logic.{dite}
use native.Mathlib.Decide.{ℕ_discrete, dec_le}
use Rattle.osc_pattern.specs.Methods.{Method}
use Rattle.osc_method.specs.Heard.{Fixed}
use Rattle.osc_model.specs.Limits.{Limits, AreInRange}
use Rattle.osc_model.specs.State.{State, opening}
use Rattle.osc_model.specs.Events.{Entry, add, added, removed}
use Rattle.osc_model.specs.Step.{step}
use Rattle.osc_model.specs.History.{IsSound, Legal, LegalFrom, after}
use Rattle.osc_model.proofs.Changes.{Changes, AddsMethod, changes}
use Rattle.osc_model.proofs.Onward.{legal_split}
use Rattle.osc_laws.proofs.Methods.{StaysSound, methods_are}
use Rattle.osc_core.specs.Standing.{CarriesMark, history_in, mark_of}
use Rattle.osc_core.proofs.Texts.{TextLaws}
use Rattle.osc_turn.specs.History.{texts}
use Rattle.osc_live.specs.Resuming.{HasMarkOf, added_in, removed_id, removed_in}
use Rattle.osc_live.proofs.PlayedAgain.{ids_counted}
use Rattle.osc_lanes.specs.Shares.{known_of}
use Rattle.osc_lanes.proofs.OneMark.{one_mark, read_again}
use Rattle.osc_script.specs.declared.line.Line.{Line}
use Rattle.osc_ends.specs.declared.outcome.Outcome.{Outcome}
use Rattle.osc_top.specs.Resumed.{PlaysResumed}
use Rattle.osc_top.proofs.Continued.{history_since}
use Rattle.osc_top.proofs.Staged.{both_each}

-- a method with the id was added
record AddedThere (history : List Entry) (id : ℕ) : Type 0 where
  before : List Entry
  caller : ℕ
  address : List ℕ
  later : List Entry
  place : history ≡ before ++ record { caller = caller; event = add address; answer = added id } ∷ later

extended : (entry : Entry) (entries : List Entry) (id : ℕ) → AddedThere entries id → AddedThere (entry ∷ entries) id
extended entry entries id is =
    record { before = entry ∷ is.before; caller = is.caller; address = is.address; later = is.later; place = ap (λ (l : List Entry). entry ∷ l) is.place }

added_now : (state : State) (entry : Entry) (entries : List Entry) (id : ℕ) → entry.answer ≡ (step state entry.event).answer
    → AddsMethod state entry.event (step state entry.event) → state.next_id ≡ id → AddedThere (entry ∷ entries) id
added_now state entry entries id answered adds same =
    let answer : entry.answer ≡ added id = answered ∙ (adds.answer ∙ ap added same) in
    let is : entry ≡ record { caller = entry.caller; event = add adds.address; answer = added id } =
    λ i. record { caller = entry.caller; event = adds.event_is i; answer = answer i } in
    record { before = []; caller = entry.caller; address = adds.address; later = entries; place = ap (λ (e : Entry). e ∷ entries) is }

add_there : (state : State) (history : List Entry) → LegalFrom state history → (id : ℕ) → state.next_id ≤ id → id < state.next_id + added_in history
    → AddedThere history id
add_there state [] legal id least below = absurd (omega (arith, least, below))
add_there state (entry ∷ entries) legal id least below =
    go (changes state entry.event) (λ above. add_there (step state entry.event).state entries legal.4 id above more) where
      more : id < (step state entry.event).state.next_id + added_in entries
      more = omega (arith, below, ids_counted state (entry ∷ entries) legal, ids_counted (step state entry.event).state entries legal.4)

      new : (adds : AddsMethod state entry.event (step state entry.event)) → ((step state entry.event).state.next_id ≤ id → AddedThere entries id)
          → AddedThere (entry ∷ entries) id
      new adds rest =
          dite (dec_le (step state entry.event).state.next_id id) (λ far. extended entry entries id (rest far))
          (λ near. added_now state entry entries id legal.3 adds (omega (arith, least, adds.next_id, near)))

      go : Changes state entry.event (step state entry.event) → ((step state entry.event).state.next_id ≤ id → AddedThere entries id)
          → AddedThere (entry ∷ entries) id
      go (inl keeps) rest = extended entry entries id (rest (omega (arith, least, keeps.next_id)))
      go (inr (inr loses)) rest = extended entry entries id (rest (omega (arith, least, loses.next_id)))
      go (inr (inl adds)) rest = new adds rest

-- whether an id is removed
removed_or_not : (later : List Entry) (id : ℕ) → AllByRecursion (λ entry. entry.answer ≢ removed id) later ⊎ Contains (removed_in later) id
removed_or_not [] id = inl tt
removed_or_not (entry ∷ later) id = go (removed_id entry.answer) refl (removed_or_not later id) where
  off : (x : ℕ) → removed_id entry.answer ≡ Some x → x ≢ id → AllByRecursion (λ e. e.answer ≢ removed id) later ⊎ Contains (removed_in later) id
      → AllByRecursion (λ e. e.answer ≢ removed id) (entry ∷ later) ⊎ Contains (x ∷ removed_in later) id
  off x is apart (inl all) = inl ((λ same. apart (let whole : Some x ≡ Some id = sym is ∙ ap removed_id same in cc)), all)
  off x is apart (inr (k, within, at)) = inr (suc k, omega (arith, within), at)

  go : (o : Option ℕ) → removed_id entry.answer ≡ o → AllByRecursion (λ e. e.answer ≢ removed id) later ⊎ Contains (removed_in later) id
      → AllByRecursion (λ e. e.answer ≢ removed id) (entry ∷ later) ⊎ Contains (cons_option o (removed_in later)) id
  go None is (inl all) = inl ((λ same. let whole : None ≡ Some id = sym is ∙ ap removed_id same in absurd (cc)), all)
  go None is (inr there) = inr there
  go (Some x) is rest = dite (ℕ_discrete x id) (λ same. inr (0, omega arith, same)) (λ apart. off x is apart rest)

in_map : {X Y : Type 0} (f : X → Y) (xs : List X) (x : X) → Contains xs x → Contains (map f xs) (f x)
in_map f [] x (k, within, is) = absurd (omega (arith, within))
in_map f (y ∷ xs) x (zero, within, is) = (0, omega arith, ap f is)
in_map f (y ∷ xs) x (suc k, within, is) = let there = in_map f xs x (k, omega (arith, within), is) in (suc there.0, omega (arith, there.1), there.2)

-- a method that a past adds is registered after it, or was removed
pub registered_or_removed : StaysSound → ((caps : Limits) → AreInRange caps → IsSound (opening caps)) → (caps : Limits) (before : List Entry)
    → Legal caps before → (id : ℕ) → id < added_in before
    → Contains (map (λ one. one.id) (after (opening caps) before).methods) id ⊎ Contains (removed_in before) id
registered_or_removed stays opens caps before legal id below = go made (removed_or_not made.later id) where
  made : AddedThere before id
  made = add_there (opening caps) before legal.1 id (omega arith) (omega (arith, below))

  go : (is : AddedThere before id) → AllByRecursion (λ e. e.answer ≢ removed id) is.later ⊎ Contains (removed_in is.later) id
      → Contains (map (λ one. one.id) (after (opening caps) before).methods) id ⊎ Contains (removed_in before) id
  go is (inl all) =
      let method : Method = record { id = id; address = is.address } in
      let there : Contains (after (opening caps) before).methods method =
      (methods_are stays opens caps before legal method).1
      (record { before = is.before; caller = is.caller; later = is.later; place = is.place; stays = all }) in
      inl (in_map (λ (one : Method). one.id) (after (opening caps) before).methods method there)
  go is (inr gone) =
      let entry : Entry = record { caller = is.caller; event = add is.address; answer = added id } in
      inr (subst (λ (h : List Entry). Contains (removed_in h) id) (sym is.place)
      (subst (λ (l : List ℕ). Contains l id) (sym (filter_map-append (λ (e : Entry). removed_id e.answer) is.before (entry ∷ is.later)))
      (Contains-append_right (removed_in is.before) (removed_in is.later) id gone)))

held_or_not : (ids : List ℕ) (id : ℕ) → Contains ids id ⊎ (Contains ids id → ⊥)
held_or_not [] id = inr (λ (k, within, is). omega (arith, within))
held_or_not (first ∷ ids) id = dite (ℕ_discrete first id) (λ same. inl (0, omega arith, same)) (λ apart. go apart (held_or_not ids id)) where
  go : first ≢ id → Contains ids id ⊎ (Contains ids id → ⊥) → Contains (first ∷ ids) id ⊎ (Contains (first ∷ ids) id → ⊥)
  go apart (inl (k, within, is)) = inl (suc k, omega (arith, within), is)
  go apart (inr none) = inr not where
    not : Contains (first ∷ ids) id → ⊥
    not (zero, within, is) = apart is
    not (suc k, within, is) = none (k, omega (arith, within), is)

module _ {M : Type 0} (keep : M → Fixed) (heard : M → Option (List ℕ)) where
  each_so : {P Q : ℕ × M → Type 0} → ((one : ℕ × M) → P one → Q one) → (ones : List (ℕ × M)) → AllByRecursion P ones → AllByRecursion Q ones
  each_so so [] all = tt
  each_so so (one ∷ ones) all = (so one all.0, each_so so ones all.1)

  pub first_boxes : StaysSound → ((caps : Limits) → AreInRange caps → IsSound (opening caps)) → TextLaws → (caps : Limits) (before : List Entry)
      (bank : List M) (boxes_heard : List (ℕ × M)) (left : List M) (lines : List Line) (recording text : List ℕ) (outcome : Outcome)
      → PlaysResumed keep heard caps before bank boxes_heard left lines recording text outcome → added_in before ≤ length bank
      → AllByRecursion (λ one. one.0 < added_in before → HasMarkOf keep heard bank one) boxes_heard
  first_boxes stays opens laws caps before bank boxes_heard left lines recording text outcome plays enough =
      each_so one_first boxes_heard (both_each keep heard Old New boxes_heard plays.boxes.old_marks plays.boxes.marked) where
        there : List (List ℕ)
        there = texts plays.performs.history

        legal : Legal caps (history_in there)
        legal = plays.performs.stage.legal

        past_legal : Legal caps before
        past_legal =
            let whole = history_since plays.past before plays.performs.history plays.performs.stage.since plays.past_is plays.performs.stage.goes_on in (
              legal.0,
              (legal_split (opening caps) before (history_in (texts plays.performs.stage.since)) (subst (LegalFrom (opening caps)) whole legal.1)).0,
            )

        Old : ℕ × M → Type 0
        Old one = Contains (removed_in before) one.0 → HasMarkOf keep heard bank one

        New : ℕ × M → Type 0
        New one = (Contains (removed_in before) one.0 → ⊥) → CarriesMark there one.0 (mark_of (known_of keep heard one.0 one.1))

        standing : (one : ℕ × M) → CarriesMark there one.0 (mark_of (known_of keep heard one.0 one.1)) → one.0 < added_in before
            → Contains (map (λ m. m.id) (after (opening caps) before).methods) one.0 → HasMarkOf keep heard bank one
        standing one carries below held = go (slice_get_cases bank one.0).1 where
          go : ((x : M) × (one.0 < length bank) × (slice_get bank one.0 ≡ Some x) × (get_or bank one.0 x ≡ x))
              ⊎ ((length bank ≤ one.0) × (slice_get bank one.0 ≡ None)) → HasMarkOf keep heard bank one
          go (inl (method, within, is, at)) = (
            method,
            is,
            one_mark there one.0 _ _ (read_again laws caps there legal) plays.performs.closed.ascending carries
                (plays.bank_marks one.0 method is held),
          )
          go (inr (past, none)) = absurd (omega (arith, past, below, enough))

        one_first : (one : ℕ × M) → Old one × New one → one.0 < added_in before → HasMarkOf keep heard bank one
        one_first one (old, new) below = go (held_or_not (removed_in before) one.0) where
          go : Contains (removed_in before) one.0 ⊎ (Contains (removed_in before) one.0 → ⊥) → HasMarkOf keep heard bank one
          go (inl gone) = old gone
          go (inr stays_in) = either_way (registered_or_removed stays opens caps before past_legal one.0 below) where
            either_way : Contains (map (λ m. m.id) (after (opening caps) before).methods) one.0 ⊎ Contains (removed_in before) one.0
                → HasMarkOf keep heard bank one
            either_way (inl held) = standing one (new stays_in) below held
            either_way (inr gone) = old gone
