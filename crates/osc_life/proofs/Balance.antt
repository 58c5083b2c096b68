-- The ids that a history adds are those of the methods that are left and those that it removes, each once.
use Rattle.std.proofs.Common.{◌≡◌, ◌≢◌, inl, inr, ℕ, suc, ◌+◌, ◌≤◌, Bool, true, false, not, cond, ◌&&◌, nat_lt, IsTrue, List, [], ◌∷◌, ◌++◌, map, Some}
use Rattle.std.proofs.Common.{AllPairs, flat_map, refl, sym, ap, subst, ◌∙◌, arith, append_assoc}
use Rattle.std.specs.List.{AllByRecursion, list_all}
use Rattle.std.specs.List.Sorted.{IsPermutation}
use Rattle.std.specs.Str.{bytes_eq}
use Rattle.std.proofs.lemmas.Bool.{lt-ltb}
use Rattle.std.proofs.lemmas.List.{map-append}
use Rattle.std.proofs.lemmas.List.Elements.{recursion_from_All}
use Rattle.std.proofs.lemmas.List.Sorted.{IsPermutation-refl, IsPermutation-sym, IsPermutation-trans, IsPermutation-cons, IsPermutation-append_left}
use Rattle.std.proofs.lemmas.List.Sorted.{IsPermutation-middle}
use Rattle.std.proofs.lemmas.Slice.Eq.{bytes_eq-Decides}
use Rattle.osc_pattern.specs.Methods.{Method}
use Rattle.osc_tree.specs.Registry.{id_at, without}
use Rattle.osc_core.specs.Ids.{is_ascending}
use Rattle.osc_model.specs.Limits.{Limits}
use Rattle.osc_model.specs.State.{State, opening}
use Rattle.osc_model.specs.Events.{Event, Answer, added, removed, Entry}
use Rattle.osc_model.specs.Step.{step}
use Rattle.osc_model.specs.History.{IsLawful, LegalFrom, Legal, IsSound, after}
use Rattle.osc_model.proofs.Changes.{Changes, tells_change, changes}
use Rattle.osc_life.specs.Lives.{id_in}
use Rattle.osc_life.specs.Lives.{added_id, added_ids}

-- the ids of the methods that a history removes, in order
abbrev pub gone_ids : List Entry → List ℕ
gone_ids entries = flat_map (λ entry. id_in entry.answer) entries

abbrev pub ids_of : List Method → List ℕ
ids_of methods = map (λ method. method.id) methods

-- each lawful event keeps a server sound
abbrev pub StaysSound : Type 0
StaysSound = (state : State) (event : Event) → IsLawful event → IsSound state → IsSound (step state event).state

-- A method that leaves.

all_stay : (methods : List Method) (address : List ℕ) → AllByRecursion (λ method. method.address ≢ address) methods → without methods address ≡ methods
all_stay [] address others = refl
all_stay (method ∷ methods) address others = go (bytes_eq method.address address) refl (all_stay methods address others.1) where
  go : (t : Bool) → bytes_eq method.address address ≡ t → without methods address ≡ methods
      → cond (not t) (method ∷ without methods address) (without methods address) ≡ method ∷ methods
  go true e rest = absurd (others.0 ((bytes_eq-Decides method.address address).0 e))
  go false e rest = ap (λ (l : List Method). method ∷ l) rest

pairs_after : (method : Method) (methods : List Method) → AllPairs (λ a b. a.address ≢ b.address) (method ∷ methods)
    → AllPairs (λ a b. a.address ≢ b.address) methods
pairs_after method methods apart = λ i j d lt within. apart (suc i) (suc j) d (omega arith) (omega arith)

pairs_ahead : (method : Method) (methods : List Method) → AllPairs (λ a b. a.address ≢ b.address) (method ∷ methods)
    → AllByRecursion (λ other. other.address ≢ method.address) methods
pairs_ahead method methods apart =
    recursion_from_All (λ other. other.address ≢ method.address) methods (λ k d within same. apart 0 (suc k) d (omega arith) (omega arith) (sym same))

one_less : (methods : List Method) (address : List ℕ) (id : ℕ) → AllPairs (λ a b. a.address ≢ b.address) methods → id_at methods address ≡ Some id
    → IsPermutation (ids_of methods) (id ∷ ids_of (without methods address))
one_less [] address id apart at = absurd (cc)
one_less (method ∷ methods) address id apart at =
    go (bytes_eq method.address address) refl (one_less methods address id (pairs_after method methods apart)) where
      go : (t : Bool) → bytes_eq method.address address ≡ t
          → (id_at methods address ≡ Some id → IsPermutation (ids_of methods) (id ∷ ids_of (without methods address)))
          → IsPermutation (method.id ∷ ids_of methods) (id ∷ ids_of (cond (not t) (method ∷ without methods address) (without methods address)))
      go true e more =
          let f : Some method.id ≡ Some id = rw e at at in
          let same : method.id ≡ id = cc in
          let text : method.address ≡ address = (bytes_eq-Decides method.address address).0 e in
          let others : without methods address ≡ methods =
          all_stay methods address (subst (λ (l : List ℕ). AllByRecursion (λ other. other.address ≢ l) methods) text (pairs_ahead method methods apart)) in
          subst (λ (q : ℕ × List Method). IsPermutation (method.id ∷ ids_of methods) (q.0 ∷ ids_of q.1)) (λ i. (same i, sym others i))
          (IsPermutation-refl (method.id ∷ ids_of methods))
      go false e more =
          let f : id_at methods address ≡ Some id = rw e at at in
          let rest = ids_of (without methods address) in
          IsPermutation-trans (method.id ∷ ids_of methods) (method.id ∷ id ∷ rest) (id ∷ method.id ∷ rest)
          (IsPermutation-cons method.id (ids_of methods) (id ∷ rest) (more f)) (IsPermutation-middle (method.id ∷ []) id rest)

-- An answer that changes no method.

pub unchanged : (answer : Answer) → tells_change answer ≡ false → (added_id answer ≡ []) × (id_in answer ≡ [])
unchanged (added id) is = absurd (cc)
unchanged (removed id) is = absurd (cc)
unchanged _ is = (refl, refl)

-- The balance, one entry on.

module _ (methods : List Method) (first left : List ℕ) (gone : List ℕ) where
  -- what stands before the entry, and what then
  abbrev Balances : List ℕ → List ℕ → List ℕ → Type 0
  Balances ids more less = IsPermutation (ids ++ (more ++ first)) (left ++ (less ++ gone))

  with_added : (id : ℕ) → Balances (ids_of methods ++ id ∷ []) [] [] → Balances (ids_of methods) (id ∷ []) []
  with_added id now = subst (λ (l : List ℕ). IsPermutation l (left ++ gone)) (append_assoc (ids_of methods) (id ∷ []) first) now

  with_removed : (id : ℕ) (others : List ℕ) → IsPermutation (ids_of methods) (id ∷ others) → Balances others [] [] → Balances (ids_of methods) [] (id ∷ [])
  with_removed id others less now =
      IsPermutation-trans (ids_of methods ++ first) (id ∷ (others ++ first)) (left ++ id ∷ gone)
      (IsPermutation-append_left first (ids_of methods) (id ∷ others) less)
      (IsPermutation-trans (id ∷ (others ++ first)) (id ∷ (left ++ gone)) (left ++ id ∷ gone)
      (IsPermutation-cons id (others ++ first) (left ++ gone) now)
      (IsPermutation-sym (left ++ id ∷ gone) (id ∷ (left ++ gone)) (IsPermutation-middle left id gone)))

balance_from : StaysSound → (state : State) (history : List Entry) → LegalFrom state history → IsSound state
    → IsPermutation (ids_of state.methods ++ added_ids history) (ids_of (after state history).methods ++ gone_ids history)
balance_from stays state [] legal sound = IsPermutation-refl (ids_of state.methods ++ [])
balance_from stays state (entry ∷ entries) legal sound =
    go (changes state entry.event)
    (balance_from stays (step state entry.event).state entries legal.4 (stays state entry.event legal.1 sound)) where
      left : List ℕ
      left = ids_of (after (step state entry.event).state entries).methods

      go : Changes state entry.event (step state entry.event)
          → IsPermutation (ids_of (step state entry.event).state.methods ++ added_ids entries) (left ++ gone_ids entries)
          → IsPermutation (ids_of state.methods ++ (added_id entry.answer ++ added_ids entries)) (left ++ (id_in entry.answer ++ gone_ids entries))
      go (inl keeps) now =
          let none = unchanged entry.answer (ap tells_change legal.3 ∙ keeps.answer) in
          subst (λ (q : List Method × List ℕ × List ℕ). IsPermutation (ids_of q.0 ++ (q.1 ++ added_ids entries)) (left ++ (q.2 ++ gone_ids entries)))
          (λ i. (keeps.methods i, sym none.0 i, sym none.1 i)) now
      go (inr (inl adds)) now =
          let is : entry.answer ≡ added state.next_id = legal.3 ∙ adds.answer in
          let more = ap ids_of adds.methods ∙ map-append (λ (method : Method). method.id) state.methods _ in
          subst (λ (a : Answer). IsPermutation (ids_of state.methods ++ (added_id a ++ added_ids entries)) (left ++ (id_in a ++ gone_ids entries))) (sym is)
          (with_added state.methods (added_ids entries) left (gone_ids entries) state.next_id
          (subst (λ (l : List ℕ). IsPermutation (l ++ added_ids entries) (left ++ gone_ids entries)) more now))
      go (inr (inr loses)) now =
          let is : entry.answer ≡ removed loses.id = legal.3 ∙ loses.answer in
          subst (λ (a : Answer). IsPermutation (ids_of state.methods ++ (added_id a ++ added_ids entries)) (left ++ (id_in a ++ gone_ids entries))) (sym is)
          (with_removed state.methods (added_ids entries) left (gone_ids entries) loses.id (ids_of (without state.methods loses.address))
          (one_less state.methods loses.address loses.id sound.methods.list.addresses loses.found)
          (subst (λ (l : List Method). IsPermutation (ids_of l ++ added_ids entries) (left ++ gone_ids entries)) loses.methods now))

-- the ids that a legal history adds are those of the methods after it and those that it removes
pub balance : StaysSound → (caps : Limits) (history : List Entry) → Legal caps history → IsSound (opening caps)
    → IsPermutation (added_ids history) (ids_of (after (opening caps) history).methods ++ gone_ids history)
balance stays caps history legal sound = balance_from stays (opening caps) history legal.1 sound

-- Added ids ascend.

abbrev AllFrom : ℕ → List ℕ → Type 0
AllFrom least ids = AllByRecursion (λ id. least ≤ id) ids

all_above : (id : ℕ) (ids : List ℕ) → AllFrom (id + 1) ids → list_all (nat_lt id) ids ≡ true
all_above id [] from = refl
all_above id (other ∷ ids) from = (λ i. lt-ltb id other (omega (arith, from.0)) i && list_all (nat_lt id) ids) ∙ all_above id ids from.1

from_less : (least more : ℕ) (ids : List ℕ) → least ≤ more → AllFrom more ids → AllFrom least ids
from_less least more [] below from = tt
from_less least more (id ∷ ids) below from = (omega (arith, from.0), from_less least more ids below from.1)

ascends_from : (state : State) (history : List Entry) → LegalFrom state history
    → AllFrom state.next_id (added_ids history) × IsTrue (is_ascending (added_ids history))
ascends_from state [] legal = (tt, refl)
ascends_from state (entry ∷ entries) legal = go (changes state entry.event) (ascends_from (step state entry.event).state entries legal.4) where
  go : Changes state entry.event (step state entry.event)
      → AllFrom (step state entry.event).state.next_id (added_ids entries) × IsTrue (is_ascending (added_ids entries))
      → AllFrom state.next_id (added_id entry.answer ++ added_ids entries) × IsTrue (is_ascending (added_id entry.answer ++ added_ids entries))
  go (inl keeps) now =
      let none = unchanged entry.answer (ap tells_change legal.3 ∙ keeps.answer) in
      subst (λ (l : List ℕ). AllFrom state.next_id (l ++ added_ids entries) × IsTrue (is_ascending (l ++ added_ids entries))) (sym none.0)
      (subst (λ (n : ℕ). AllFrom n (added_ids entries)) keeps.next_id now.0, now.1)
  go (inr (inl adds)) now =
      let is : entry.answer ≡ added state.next_id = legal.3 ∙ adds.answer in
      let above : AllFrom (state.next_id + 1) (added_ids entries) = subst (λ (n : ℕ). AllFrom n (added_ids entries)) adds.next_id now.0 in
      subst (λ (a : Answer). AllFrom state.next_id (added_id a ++ added_ids entries) × IsTrue (is_ascending (added_id a ++ added_ids entries))) (sym is) (
        (omega arith, from_less state.next_id (state.next_id + 1) (added_ids entries) (omega arith) above),
        (λ i. all_above state.next_id (added_ids entries) above i && is_ascending (added_ids entries)) ∙ now.1,
      )
  go (inr (inr loses)) now =
      let is : entry.answer ≡ removed loses.id = legal.3 ∙ loses.answer in
      subst (λ (a : Answer). AllFrom state.next_id (added_id a ++ added_ids entries) × IsTrue (is_ascending (added_id a ++ added_ids entries))) (sym is)
      (subst (λ (n : ℕ). AllFrom n (added_ids entries)) loses.next_id now.0, now.1)

pub ascends : (caps : Limits) (history : List Entry) → Legal caps history → IsTrue (is_ascending (added_ids history))
ascends caps history legal = (ascends_from (opening caps) history legal.1).1
