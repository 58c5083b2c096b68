-- The rows that stand after a legal history are the methods of the server.
use Rattle.std.proofs.Common.{◌≡◌, ◌≢◌, ℕ, suc, ◌+◌, ◌<◌, ◌==◌, ◌⊎◌, inl, inr, Bool, true, false, not, cond, List, [], ◌∷◌, ◌++◌, map, fold, Option, None, Some, All, refl, sym, ap, subst, ◌∙◌, arith}
use Rattle.std.specs.List.{AllByRecursion, AllPairs}
use Rattle.std.specs.List.Sorted.{IsPermutation}
use Rattle.std.specs.Str.{bytes_eq}
use Rattle.std.proofs.lemmas.List.{map-append}
use Rattle.std.specs.List.{cons_option}
use Rattle.std.proofs.lemmas.List.Elements.{recursion_from_All, All-from_recursion, All-from_get_or}
use Rattle.std.proofs.lemmas.List.Sorted.{All-permutation, IsPermutation-map}
use Rattle.std.proofs.lemmas.List.Sorted.{IsPermutation-refl, IsPermutation-sym, IsPermutation-trans, IsPermutation-cons, IsPermutation-insert}
use Rattle.std.proofs.lemmas.Slice.Eq.{bytes_eq-Decides}
use Rattle.osc_pattern.specs.Methods.{Method}
use Rattle.osc_tree.specs.Registry.{id_at, without}
use Rattle.osc_model.specs.Limits.{Limits, AreInRange}
use Rattle.osc_model.specs.State.{State, opening}
use Rattle.osc_model.specs.Events.{Event, Answer, Entry, add, remove, added, removed}
use Rattle.osc_model.specs.Step.{step}
use Rattle.osc_model.specs.History.{IsLawful, IsSound, Legal, LegalFrom, after}
use Rattle.osc_model.proofs.Changes.{Changes, changes, tells_change}
use Rattle.osc_watch.specs.declared.row.Edit.{Edit}
use Rattle.osc_watch.specs.declared.row.MethodRow.{MethodRow}
use Rattle.osc_watch.specs.Edits.{edit_by, edits_of}
use Rattle.osc_watch.specs.Listing.{entered, left, edited, listing}
use Rattle.osc_watch.proofs.RowsKept.{Ascend, none_ascend, enters, entered_ascend, leaves_list, left_ascend}

abbrev pub as_row : Method → MethodRow
as_row method = record { id = method.id; address = method.address }

pairs_behind : {X : Type 0} (R : X → X → Type 0) (x : X) (xs : List X) → AllPairs R (x ∷ xs) → AllPairs R xs
pairs_behind R x xs pairs = λ i j d lt within. pairs (suc i) (suc j) d (omega arith) (omega arith)

pairs_ahead : {X : Type 0} (R : X → X → Type 0) (x : X) (xs : List X) → AllPairs R (x ∷ xs) → AllByRecursion (R x) xs
pairs_ahead R x xs pairs = recursion_from_All (R x) xs (All-from_get_or (R x) xs x (λ k lt. pairs 0 (suc k) x (omega arith) (omega arith)))

-- where no method has the address, all stay
all_stay : (address : List ℕ) (methods : List Method) → AllByRecursion (λ method. address ≢ method.address) methods → without methods address ≡ methods
all_stay address [] all = refl
all_stay address (method ∷ methods) all = go (bytes_eq method.address address) refl (all_stay address methods all.1) where
  go : (t : Bool) → bytes_eq method.address address ≡ t → without methods address ≡ methods
      → cond (not t) (method ∷ without methods address) (without methods address) ≡ method ∷ methods
  go true is more = absurd (all.0 (sym ((bytes_eq-Decides method.address address).0 is)))
  go false is more = ap (λ (l : List Method). method ∷ l) more

-- the method at an address is taken out
pub taken_out : (methods : List Method) (address : List ℕ) (id : ℕ) → AllPairs (λ a b. a.address ≢ b.address) methods → id_at methods address ≡ Some id
    → IsPermutation (map as_row methods) (record { id = id; address = address } ∷ map as_row (without methods address))
taken_out [] address id apart there = absurd (cc)
taken_out (method ∷ methods) address id apart there =
    go (bytes_eq method.address address) refl there (taken_out methods address id (pairs_behind (λ a b. a.address ≢ b.address) method methods apart))
  where
    row : MethodRow
    row = record { id = id; address = address }

    go : (t : Bool) → bytes_eq method.address address ≡ t → id_at (method ∷ methods) address ≡ Some id
        → (id_at methods address ≡ Some id → IsPermutation (map as_row methods) (row ∷ map as_row (without methods address)))
        → IsPermutation (map as_row (method ∷ methods)) (row ∷ map as_row (cond (not t) (method ∷ without methods address) (without methods address)))
    go true is found more =
        let f : Some method.id ≡ Some id = rw is at found in
        let same : method.id ≡ id = cc in
        let text : method.address ≡ address = (bytes_eq-Decides method.address address).0 is in
        let stay : without methods address ≡ methods =
        all_stay address methods (subst (λ (l : List ℕ). AllByRecursion (λ (other : Method). l ≢ other.address) methods) text
        (pairs_ahead (λ a b. a.address ≢ b.address) method methods apart)) in
        subst (λ (l : List MethodRow). IsPermutation (map as_row (method ∷ methods)) l)
        (λ i. record { id = same i; address = text i } ∷ map as_row (sym stay i)) (IsPermutation-refl (map as_row (method ∷ methods)))
    go false is found more =
        let f : id_at methods address ≡ Some id = rw is at found in
        let rest = map as_row (without methods address) in
        IsPermutation-trans (as_row method ∷ map as_row methods) (as_row method ∷ (row ∷ rest)) (row ∷ (as_row method ∷ rest))
        (IsPermutation-cons (as_row method) (map as_row methods) (row ∷ rest) (more f))
        (IsPermutation-sym (row ∷ (as_row method ∷ rest)) (as_row method ∷ (row ∷ rest)) (IsPermutation-insert (as_row method ∷ rest) 1 row))

-- a method more
pub one_more : (rows : List MethodRow) (methods : List Method) (id : ℕ) (address : List ℕ) → IsPermutation rows (map as_row methods)
    → IsPermutation (entered rows (record { id = id; address = address })) (map as_row (methods ++ record { id = id; address = address } ∷ []))
one_more rows methods id address same =
    let row : MethodRow = record { id = id; address = address } in
    subst (IsPermutation (entered rows row)) (sym (map-append as_row methods (record { id = id; address = address } ∷ [])))
    (enters rows (map as_row methods) row same)

-- a method less
pub one_less : (rows : List MethodRow) (methods : List Method) (id : ℕ) (address : List ℕ) → AllPairs (λ a b. a.address ≢ b.address) methods
    → id_at methods address ≡ Some id → IsPermutation rows (map as_row methods)
    → IsPermutation (left rows (record { id = id; address = address })) (map as_row (without methods address))
one_less rows methods id address apart there same =
    leaves_list rows (map as_row methods) (map as_row (without methods address)) (record { id = id; address = address }) same
    (taken_out methods address id apart there)

-- What an event does to the rows.

-- the rows after an edit, if there is one
abbrev after_edit : List MethodRow → Option Edit → List MethodRow
after_edit rows None = rows
after_edit rows (Some edit) = edited rows edit

-- an answer that tells no change makes no edit
no_edit : (event : Event) (answer : Answer) → tells_change answer ≡ false → edit_by event answer ≡ None
no_edit (add address) (added id) is = absurd (cc)
no_edit (remove address) (removed id) is = absurd (cc)
no_edit _ _ is = refl

last_of : {X : Type 0} (P : X → Type 0) (xs : List X) (y : X) → AllByRecursion P (xs ++ y ∷ []) → P y
last_of P [] y all = all.0
last_of P (x ∷ xs) y all = last_of P xs y all.1

before_last : (methods : List Method) (last : Method) → AllPairs (λ a b. a.address ≢ b.address) (methods ++ last ∷ [])
    → AllByRecursion (λ row. last.address ≢ row.address) (map as_row methods)
before_last [] last apart = tt
before_last (method ∷ methods) last apart = (
  λ same. last_of (λ (other : Method). method.address ≢ other.address) methods last
      (pairs_ahead (λ a b. a.address ≢ b.address) method (methods ++ last ∷ []) apart) (sym same),
  before_last methods last (pairs_behind (λ a b. a.address ≢ b.address) method (methods ++ last ∷ []) apart),
)

-- the rows are the methods of the state, in ascending order
record Lists (rows : List MethodRow) (state : State) : Type 0 where
  same : IsPermutation rows (map as_row state.methods)
  ascend : Ascend rows

one_listed : (state : State) (event : Event) (answer : Answer) → answer ≡ (step state event).answer → IsSound state → IsSound (step state event).state
    → (rows : List MethodRow) → Lists rows state → Lists (after_edit rows (edit_by event answer)) (step state event).state
one_listed state event answer is sound next rows lists = cases (changes state event) where
  Then : Option Edit → Type 0
  Then edit = Lists (after_edit rows edit) (step state event).state

  cases : Changes state event (step state event) → Then (edit_by event answer)
  cases (inl keeps) =
      subst Then (sym (no_edit event answer (ap tells_change is ∙ keeps.answer)))
      (record { same = subst (λ (l : List Method). IsPermutation rows (map as_row l)) (sym keeps.methods) lists.same; ascend = lists.ascend })
  cases (inr (inl adds)) =
      let row : MethodRow = record { id = state.next_id; address = adds.address } in
      let method : Method = record { id = state.next_id; address = adds.address } in
      let apart = before_last state.methods method
      (subst (AllPairs (λ (a b : Method). a.address ≢ b.address)) adds.methods next.methods.list.addresses) in
      let others : AllByRecursion (λ (other : MethodRow). row.address ≢ other.address) rows =
      recursion_from_All (λ (other : MethodRow). row.address ≢ other.address) rows
      (All-permutation (λ (other : MethodRow). row.address ≢ other.address) (map as_row state.methods) rows
      (IsPermutation-sym rows (map as_row state.methods) lists.same)
      (All-from_recursion (λ (other : MethodRow). row.address ≢ other.address) (map as_row state.methods) apart)) in
      subst Then (λ i. edit_by (sym adds.event_is i) (sym (is ∙ adds.answer) i)) (record {
        same = subst (λ (l : List Method). IsPermutation (entered rows row) (map as_row l)) (sym adds.methods)
            (one_more rows state.methods state.next_id adds.address lists.same);
        ascend = entered_ascend rows row others lists.ascend;
      })
  cases (inr (inr loses)) =
      let row : MethodRow = record { id = loses.id; address = loses.address } in
      subst Then (λ i. edit_by (sym loses.event_is i) (sym (is ∙ loses.answer) i)) (record {
        same = subst (λ (l : List Method). IsPermutation (left rows row) (map as_row l)) (sym loses.methods)
            (one_less rows state.methods loses.id loses.address sound.methods.list.addresses loses.found lists.same);
        ascend = left_ascend rows row lists.ascend;
      })

-- What a history does to them.

abbrev pub StepsSound : Type 0
StepsSound = (state : State) (event : Event) → IsLawful event → IsSound state → IsSound (step state event).state

folded : (rows : List MethodRow) (edit : Option Edit) (edits : List Edit) → fold edited (after_edit rows edit) edits ≡ fold edited rows (cons_option edit edits)
folded rows None edits = refl
folded rows (Some edit) edits = refl

all_listed : StepsSound → (state : State) (history : List Entry) (rows : List MethodRow) → IsSound state → Lists rows state → LegalFrom state history
    → Lists (fold edited rows (edits_of history)) (after state history)
all_listed stays state [] rows sound lists legal = lists
all_listed stays state (one ∷ history) rows sound lists legal =
    let next = stays state one.event legal.1 sound in
    let edit = edit_by one.event one.answer in
    subst (λ (l : List MethodRow). Lists l (after (step state one.event).state history)) (folded rows edit (edits_of history))
    (all_listed stays (step state one.event).state history (after_edit rows edit) next
    (one_listed state one.event one.answer legal.3 sound next rows lists) legal.4)

pairs_of : (methods : List Method) → map {B = ℕ × List ℕ} (λ (row : MethodRow). (row.id, row.address)) (map as_row methods)
    ≡ map {B = ℕ × List ℕ} (λ (method : Method). (method.id, method.address)) methods
pairs_of [] = refl
pairs_of (method ∷ methods) = ap (λ (l : List (ℕ × List ℕ)). (method.id, method.address) ∷ l) (pairs_of methods)

abbrev pub OpensSound : Type 0
OpensSound = (caps : Limits) → AreInRange caps → IsSound (opening caps)

module _ (opens : OpensSound) (stays : StepsSound) (caps : Limits) (history : List Entry) (legal : Legal caps history) where
  lists_all : Lists (listing (edits_of history)) (after (opening caps) history)
  lists_all =
      all_listed stays (opening caps) history [] (opens caps legal.0) (record { same = IsPermutation-refl []; ascend = none_ascend }) legal.1

  pub rows_are_methods : IsPermutation (map {B = ℕ × List ℕ} (λ (row : MethodRow). (row.id, row.address)) (listing (edits_of history)))
      (map {B = ℕ × List ℕ} (λ (method : Method). (method.id, method.address)) (after (opening caps) history).methods)
  rows_are_methods =
      subst (IsPermutation (map {B = ℕ × List ℕ} (λ (row : MethodRow). (row.id, row.address)) (listing (edits_of history)))) (pairs_of (after (opening caps) history).methods)
      (IsPermutation-map {X = ℕ × List ℕ} (λ (row : MethodRow). (row.id, row.address)) (listing (edits_of history)) (map as_row (after (opening caps) history).methods)
      lists_all.same)

  pub rows_ascend : Ascend (listing (edits_of history))
  rows_ascend = lists_all.ascend
