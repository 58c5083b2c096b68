-- The methods are those that were added and not removed since.
use Rattle.std.proofs.Common.{◌≡◌, ◌≢◌, ◌↔◌, ◌⊎◌, inl, inr, ℕ, Bool, true, false, not, List, [], ◌∷◌, ◌++◌, find, Option, Some, None, refl, sym, ap, subst, ◌∙◌}
use Rattle.std.proofs.Common.{append_assoc}
use Rattle.std.specs.List.{AllByRecursion, Contains}
use Rattle.std.specs.Option.{option_map}
use Rattle.std.specs.Str.{bytes_eq}
use Rattle.std.proofs.lemmas.List.{append-nil}
use Rattle.std.proofs.lemmas.List.Elements.{Contains-append_left, Contains-push, Contains-push_cases}
use Rattle.std.proofs.lemmas.Slice.Eq.{bytes_eq-Decides}
use Rattle.std.proofs.lemmas.Bool.{both_ways}
use Rattle.osc_pattern.specs.Methods.{Method, IsMethodList}
use Rattle.osc_tree.specs.Registry.{id_at}
use Rattle.osc_tree.proofs.Lists.{find-some}
use Rattle.osc_model.specs.Limits.{Limits, AreInRange}
use Rattle.osc_model.specs.State.{State, opening}
use Rattle.osc_model.specs.Events.{Event, add, added, removed, Entry}
use Rattle.osc_model.specs.Step.{step}
use Rattle.osc_model.specs.History.{IsLawful, LegalFrom, Legal, IsSound, after}
use Rattle.osc_model.proofs.Calls.{all_append}
use Rattle.osc_model.proofs.Changes.{Changes, KeepsMethods, AddsMethod, LosesMethod, tells_change, changes}
use Rattle.osc_laws.specs.Facts.{IsRegistered}
use Rattle.osc_laws.proofs.Members.{none_in, passed, passes}
use Rattle.osc_laws.proofs.Places.{IsLast, IsEarlier, last_or_earlier, all_split, unique}

-- a method stands at an address under an id
record IsThere (methods : List Method) (address : List ℕ) (id : ℕ) : Type 0 where
  method : Method
  held : Contains methods method
  at : method.address ≡ address
  under : method.id ≡ id

there_at : (methods : List Method) (address : List ℕ) (id : ℕ) → id_at methods address ≡ Some id → IsThere methods address id
there_at methods address id is = go (find (λ method. bytes_eq method.address address) methods) refl is where
  go : (at : Option Method) → find (λ method. bytes_eq method.address address) methods ≡ at → option_map (λ (method : Method). method.id) at ≡ Some id
      → IsThere methods address id
  go None e is = absurd (cc)
  go (Some method) e is =
      let held = find-some (λ (m : Method). bytes_eq m.address address) methods method e in
      record { method = method; held = held.0; at = (bytes_eq-Decides method.address address).0 held.1; under = (cc) }

-- A history with one entry more.

registered_later : (history : List Entry) (entry : Entry) (id : ℕ) (address : List ℕ) → entry.answer ≢ removed id → IsRegistered history id address
    → IsRegistered (history ++ entry ∷ []) id address
registered_later history entry id address stays is =
    let made : Entry = record { caller = is.caller; event = add address; answer = added id } in
    record {
      before = is.before;
      caller = is.caller;
      later = is.later ++ entry ∷ [];
      place = ap (λ (l : List Entry). l ++ entry ∷ []) is.place ∙ append_assoc is.before (made ∷ is.later) (entry ∷ []);
      stays = all_append _ is.later (entry ∷ []) is.stays (stays, tt);
    }

registered_now : (history : List Entry) (entry : Entry) (id : ℕ) (address : List ℕ) → entry.event ≡ add address → entry.answer ≡ added id
    → IsRegistered (history ++ entry ∷ []) id address
registered_now history entry id address event answer =
    record {
      before = history;
      caller = entry.caller;
      later = [];
      place = λ i. history ++ record { caller = entry.caller; event = event i; answer = answer i } ∷ [];
      stays = tt;
    }

abbrev WasRegistered : List Entry → Entry → ℕ → List ℕ → Type 0
WasRegistered history entry id address = ((entry.event ≡ add address) × (entry.answer ≡ added id))
    ⊎ (IsRegistered history id address × (entry.answer ≢ removed id))

registered_before : (history : List Entry) (entry : Entry) (id : ℕ) (address : List ℕ) → IsRegistered (history ++ entry ∷ []) id address
    → WasRegistered history entry id address
registered_before history entry id address is = go (last_or_earlier history entry is.before made is.later is.place) where
  made : Entry
  made = record { caller = is.caller; event = add address; answer = added id }

  go : IsLast is.before history is.later made entry ⊎ IsEarlier is.before history is.later made entry → WasRegistered history entry id address
  go (inl now) = inl (ap (λ (e : Entry). e.event) now.last_is, ap (λ (e : Entry). e.answer) now.last_is)
  go (inr then) =
      let stays = all_split (λ (e : Entry). e.answer ≢ removed id) then.rest (entry ∷ [])
      (subst (AllByRecursion (λ (e : Entry). e.answer ≢ removed id)) then.later_is is.stays) in
      inr (record { before = is.before; caller = is.caller; later = then.rest; place = then.all_is; stays = stays.0 }, stays.1.0)

-- the methods are those that a history registered
abbrev AreRead : List Entry → List Method → Type 0
AreRead history methods = (method : Method) → Contains methods method ↔ IsRegistered history method.id method.address

kept_read : (history : List Entry) (state : State) (entry : Entry) → entry.answer ≡ (step state entry.event).answer
    → KeepsMethods state (step state entry.event)
    → AreRead history state.methods → AreRead (history ++ entry ∷ []) (step state entry.event).state.methods
kept_read history state entry answered keeps read method = (there, λ is. back (registered_before history entry method.id method.address is)) where
  there : Contains (step state entry.event).state.methods method → IsRegistered (history ++ entry ∷ []) method.id method.address
  there held =
      registered_later history entry method.id method.address (λ is. both_ways _ keeps.answer (ap tells_change (sym answered ∙ is)))
      ((read method).0 (subst (λ (l : List Method). Contains l method) keeps.methods held))

  back : WasRegistered history entry method.id method.address → Contains (step state entry.event).state.methods method
  back (inl (event, answer)) = absurd (both_ways _ keeps.answer (ap tells_change (sym answered ∙ answer)))
  back (inr (was, stays)) = subst (λ (l : List Method). Contains l method) (sym keeps.methods) ((read method).1 was)

added_read : (history : List Entry) (state : State) (entry : Entry) → entry.answer ≡ (step state entry.event).answer
    → AddsMethod state entry.event (step state entry.event) → AreRead history state.methods
    → AreRead (history ++ entry ∷ []) (step state entry.event).state.methods
added_read history state entry answered adds read method = (
  λ held. there (Contains-push_cases state.methods one method (subst (λ (l : List Method). Contains l method) adds.methods held)),
  λ is.
      back (registered_before history entry method.id method.address is),
)
  where
    one : Method
    one = record { id = state.next_id; address = adds.address }

    answer_is : entry.answer ≡ added state.next_id
    answer_is = answered ∙ adds.answer

    there : Contains state.methods method ⊎ (one ≡ method) → IsRegistered (history ++ entry ∷ []) method.id method.address
    there (inl held) = registered_later history entry method.id method.address (λ is. absurd (cc)) ((read method).0 held)
    there (inr same) =
        subst (λ (m : Method). IsRegistered (history ++ entry ∷ []) m.id m.address) same
        (registered_now history entry state.next_id adds.address adds.event_is answer_is)

    back : WasRegistered history entry method.id method.address → Contains (step state entry.event).state.methods method
    back (inl (event, answer)) =
        let ids : state.next_id ≡ method.id = let whole : added state.next_id ≡ added method.id = sym answer_is ∙ answer in cc in
        let addresses : adds.address ≡ method.address = let whole : add adds.address ≡ add method.address = sym adds.event_is ∙ event in cc in
        let same : one ≡ method = λ i. record { id = ids i; address = addresses i } in
        subst (λ (l : List Method). Contains l method) (sym adds.methods) (subst (Contains (state.methods ++ one ∷ [])) same (Contains-push state.methods one))
    back (inr (was, stays)) =
        subst (λ (l : List Method). Contains l method) (sym adds.methods) (Contains-append_left state.methods (one ∷ []) method ((read method).1 was))

removed_read : (history : List Entry) (state : State) (entry : Entry) → entry.answer ≡ (step state entry.event).answer → IsMethodList state.methods
    → (removes : LosesMethod state entry.event (step state entry.event))
    → IsThere state.methods removes.address removes.id → AreRead history state.methods → AreRead (history ++ entry ∷ []) (step state entry.event).state.methods
removed_read history state entry answered list removes one read method = (
  λ held. there (passed others state.methods method (subst (λ (l : List Method). Contains l method) removes.methods held)),
  λ is.
      back (registered_before history entry method.id method.address is),
)
  where
    others : Method → Bool
    others m = not (bytes_eq m.address removes.address)

    answer_is : entry.answer ≡ removed removes.id
    answer_is = answered ∙ removes.answer

    equal : method.address ≡ removes.address → others method ≡ false
    equal same = ap not ((bytes_eq-Decides method.address removes.address).1 same)

    there : Contains state.methods method × (others method ≡ true) → IsRegistered (history ++ entry ∷ []) method.id method.address
    there (held, other) = registered_later history entry method.id method.address stays ((read method).0 held) where
      stays : entry.answer ≢ removed method.id
      stays is =
          let ids : removes.id ≡ method.id = let whole : removed removes.id ≡ removed method.id = sym answer_is ∙ is in cc in
          let same : one.method ≡ method = unique (λ (m : Method). m.id) state.methods one.method method list.ids one.held held (one.under ∙ ids) in
          let no : others method ≡ false = equal (sym (ap (λ (m : Method). m.address) same) ∙ one.at) in
          absurd (cc)

    back : WasRegistered history entry method.id method.address → Contains (step state entry.event).state.methods method
    back (inl (event, answer)) = absurd (cc)
    back (inr (was, stays)) =
        subst (λ (l : List Method). Contains l method) (sym removes.methods)
        (passes others state.methods method held (go (bytes_eq method.address removes.address) refl)) where
          held : Contains state.methods method
          held = (read method).1 was

          go : (t : Bool) → bytes_eq method.address removes.address ≡ t → not t ≡ true
          go false e = refl
          go true e =
              let at : method.address ≡ removes.address = (bytes_eq-Decides method.address removes.address).0 e in
              let same : one.method ≡ method = unique (λ (m : Method). m.address) state.methods one.method method list.addresses one.held held (one.at ∙ sym at)
              in
              absurd (stays (answer_is ∙ ap removed (sym one.under ∙ ap (λ (m : Method). m.id) same)))

step_read : (history : List Entry) (state : State) (entry : Entry) → entry.answer ≡ (step state entry.event).answer → IsMethodList state.methods
    → AreRead history state.methods → AreRead (history ++ entry ∷ []) (step state entry.event).state.methods
step_read history state entry answered list read = go (changes state entry.event) where
  go : Changes state entry.event (step state entry.event) → AreRead (history ++ entry ∷ []) (step state entry.event).state.methods
  go (inl keeps) = kept_read history state entry answered keeps read
  go (inr (inl adds)) = added_read history state entry answered adds read
  go (inr (inr removes)) =
      removed_read history state entry answered list removes (there_at state.methods removes.address removes.id removes.found) read

-- each lawful event keeps a server sound
abbrev pub StaysSound : Type 0
StaysSound = (state : State) (event : Event) → IsLawful event → IsSound state → IsSound (step state event).state

methods_from : StaysSound → (state : State) (history more : List Entry) → LegalFrom state more → IsSound state → AreRead history state.methods
    → AreRead (history ++ more) (after state more).methods
methods_from stays state history [] legal sound read = subst (λ (h : List Entry). AreRead h state.methods) (sym (append-nil history)) read
methods_from stays state history (entry ∷ entries) legal sound read =
    let next = (step state entry.event).state in
    let here = step_read history state entry legal.3 sound.methods.list read in
    subst (λ (h : List Entry). AreRead h (after next entries).methods) (append_assoc history (entry ∷ []) entries)
    (methods_from stays next (history ++ entry ∷ []) entries legal.4 (stays state entry.event legal.1 sound) here)

none_read : AreRead [] []
none_read method = (λ held. absurd (none_in method held), λ is. absurd (never is)) where
  never : IsRegistered [] method.id method.address → ⊥
  never is = go is.before is.place where
    go : (before : List Entry) → [] ≡ before ++ record { caller = is.caller; event = add method.address; answer = added method.id } ∷ is.later → ⊥
    go [] e = absurd (cc)
    go (x ∷ xs) e = absurd (cc)

pub methods_are : StaysSound → ((caps : Limits) → AreInRange caps → IsSound (opening caps)) → (caps : Limits) (history : List Entry) → Legal caps history
    → AreRead history (after (opening caps) history).methods
methods_are stays opens caps history legal = methods_from stays (opening caps) [] history legal.1 (opens caps legal.0) none_read
