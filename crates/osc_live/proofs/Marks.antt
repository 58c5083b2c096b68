-- What an add and a removal tell of marks, and of what boxes heard; and the clock.
use Rattle.std.proofs.Common.{◌≡◌, ℕ, zero, suc, List, [], ◌∷◌, ◌++◌, Option, inl, inr, true, sym, ap, subst, ◌∙◌, arith}
use Rattle.std.specs.List.{AllByRecursion, Contains}
use Rattle.std.proofs.lemmas.List.{append-nil}
use Rattle.std.proofs.lemmas.List.Elements.{filter_map-append, Contains-append_left}
use Rattle.osc_method.specs.Heard.{Fixed}
use Rattle.osc_model.specs.State.{State}
use Rattle.osc_model.specs.Events.{Event, remove, removed, Entry, Invocation}
use Rattle.osc_model.specs.Heard.{Told, reset}
use Rattle.osc_model.specs.History.{Performance, state_of, invoked_in, stepped_in, onward, HasHeard}
use Rattle.osc_model.specs.Step.{step}
use Rattle.osc_model.proofs.Changes.{tells_change, Changes, changes}
use Rattle.osc_record.specs.Reading.{entry_in}
use Rattle.osc_core.specs.declared.answers.Adding.{Adding}
use Rattle.osc_core.specs.declared.answers.Adding.TheVariants.{Added, Refused}
use Rattle.osc_core.specs.declared.answers.Removing.{Removing}
use Rattle.osc_core.specs.declared.answers.Removing.TheVariants as removing
use Rattle.osc_core.specs.Answers.{OnAdded, OnRemoved, removing_of}
use Rattle.osc_core.specs.Standing.{mark_of, text_with, history_in, CarriesMark, AreMarked, StandsFor}
use Rattle.osc_core.proofs.Texts.{reset_mark}
use Rattle.osc_turn.specs.History.{StartsWith}
use Rattle.osc_model.specs.Limits.{Limits}
use Rattle.osc_live.specs.Seen.{performance_in, clock_in}

last_marked : (texts : List (List ℕ)) (boxes : List Told) (told : Told) → AreMarked texts (boxes ++ told ∷ []) → CarriesMark texts told.id (mark_of told)
last_marked texts [] told are = are.0
last_marked texts (first ∷ boxes) told are = last_marked texts boxes told are.1

-- the entry of an added method has the mark of its box
pub added_tells : {M : Type 0} (keep : M → Fixed) (heard : M → Option (List ℕ)) (answer : Adding M) (method : M) (performance : Performance)
    (old new : List Told)
    (after : List (List ℕ)) → StandsFor performance new after
    → OnAdded answer (λ id. new ≡ old ++ reset (record { id = id; keep = keep method; heard = heard method }) ∷ [])
    → OnAdded answer (λ id. CarriesMark after id (mark_of (record { id = id; keep = keep method; heard = heard method })))
added_tells keep heard (Added id) method performance old new after stands is =
    let told : Told = record { id = id; keep = keep method; heard = heard method } in
    subst (λ (m : List ℕ). CarriesMark after id m) (reset_mark told) (last_marked after old (reset told) (subst (AreMarked after) is stands.marked))
added_tells keep heard (Refused why address back) method performance old new after stands is = tt

carries_on : (after before : List (List ℕ)) (id : ℕ) (mark : List ℕ) → StartsWith after before → CarriesMark before id mark → CarriesMark after id mark
carries_on after before id mark (rest, is) (entry, adds, read, there) = (
  entry,
  adds,
  subst (λ (h : List Entry). Contains h entry) (sym (ap history_in is ∙ filter_map-append entry_in before rest))
      (Contains-append_left (history_in before) (history_in rest) entry read),
  subst (λ (l : List (List ℕ)). Contains l (text_with mark entry)) (sym is) (Contains-append_left before rest (text_with mark entry) there),
)

one_of : (P : Told → Type 0) (boxes : List Told) (told : Told) → AllByRecursion P boxes → Contains boxes told → P told
one_of P [] told all (k, within, is) = absurd (omega arith)
one_of P (box ∷ boxes) told all (zero, within, is) = subst P is all.0
one_of P (box ∷ boxes) told all (suc k, within, is) = one_of P boxes told all.1 (k, omega arith, is)

-- a removal invokes nothing
removal_silent : (state : State) (address : List ℕ) (id : ℕ) → (step state (remove address)).answer ≡ removed id
    → (step state (remove address)).invocations ≡ []
removal_silent state address id is = go (changes state (remove address)) where
  go : Changes state (remove address) (step state (remove address)) → (step state (remove address)).invocations ≡ []
  go (inl kept) = let yes : tells_change (step state (remove address)).answer ≡ true = ap tells_change is in let no = kept.answer in absurd (cc)
  go (inr (inl more)) = let other = more.event_is in absurd (cc)
  go (inr (inr fewer)) = fewer.silent

-- a server with these limits that stands for texts has their clock
pub clock_there : (caps : Limits) (new : Performance) (boxes : List Told) (after : List (List ℕ)) → StandsFor new boxes after → new.caps ≡ caps
    → (state_of new).clock ≡ clock_in caps after
clock_there caps new boxes after stands limits =
    ap (λ (p : Performance). (state_of p).clock) (λ i. record { caps = limits i; history = sym stands.read i })

-- a box that is handed out has the mark of its id's entry, and has heard the history
pub removed_tells : {M : Type 0} (keep : M → Fixed) (heard : M → Option (List ℕ)) (given : Removing M) (old new : Performance) (caller : ℕ) (address : List ℕ)
    (boxes others : List Told) (before after : List (List ℕ))
    → ((performance : Performance) (caller : ℕ) (event : Event)
    → invoked_in (onward performance caller event) ≡ invoked_in performance ++ (stepped_in performance event).invocations)
    → StandsFor old boxes before → StandsFor new others after → StartsWith after before → new ≡ onward old caller (remove address) → new.caps ≡ old.caps
    → removing_of given ≡ (stepped_in old (remove address)).answer
    → OnRemoved given (λ id method. Contains {X = Told} boxes (record { id = id; keep = keep method; heard = heard method }))
    → OnRemoved given (λ id method. CarriesMark after id (mark_of (record { id = id; keep = keep method; heard = heard method }))
    × HasHeard (invoked_in (performance_in old.caps after)) (record { id = id; keep = keep method; heard = heard method }))
removed_tells keep heard (removing.Removed id method) old new caller address boxes others before after invoked one two starts onwards caps is held =
    let told : Told = record { id = id; keep = keep method; heard = heard method } in
    let whole : new ≡ performance_in old.caps after = λ i. record { caps = caps i; history = sym two.read i } in
    let none = removal_silent (state_of old) address id (sym is) in
    let same : invoked_in old ≡ invoked_in (performance_in old.caps after) =
    sym (append-nil (invoked_in old)) ∙ ap (λ (l : List Invocation). invoked_in old ++ l) (sym none) ∙ sym (invoked old caller (remove address))
    ∙ ap invoked_in (sym onwards) ∙ ap invoked_in whole in (
      carries_on after before id (mark_of told) starts (one_of (λ box. CarriesMark before box.id (mark_of box)) boxes told one.marked held),
      subst (λ (l : List Invocation). HasHeard l told) same (one_of (HasHeard (invoked_in old)) boxes told one.heard.heard held),
    )
removed_tells keep heard (removing.RecordFull room) old new caller address boxes others before after invoked one two starts onwards caps is held = tt
removed_tells keep heard removing.NotThere old new caller address boxes others before after invoked one two starts onwards caps is held = tt
