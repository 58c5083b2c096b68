-- A note's message calls the method at its address, and no other.
use Rattle.std.proofs.Common.{◌≡◌, ◌≢◌, ℕ, zero, suc, ◌+◌, ◌<◌, ◌||◌, Bool, true, false, cond, List, [], ◌∷◌, ◌++◌, length, map, get_or, filter, fold, inl, inr, Option, Some, is_some, AllPairs, Contains, refl, sym, ap, ◌∙◌, subst, arith, append_assoc}
use Rattle.std.specs.List.{AllByRecursion, list_any}
use Rattle.std.specs.Str.{bytes_eq}
use Rattle.std.proofs.lemmas.Bool.{false_from_ne_true, cases_order}
use Rattle.std.proofs.lemmas.Slice.Eq.{bytes_eq-Decides}
use Rattle.std.proofs.lemmas.List.Folds.{list_any-append}
use Rattle.osc_message.specs.Messages.{Argument, tag_of, message_text}
use Rattle.osc_message.specs.Arguments.{tags_of, message_arguments}
use Rattle.osc_pattern.specs.Addresses.{IsAddress}
use Rattle.osc_pattern.specs.Patterns.{matches}
use Rattle.osc_pattern.specs.Methods.{Method, IsMethodList}
use Rattle.osc_tree.specs.Matching.{matching, in_place}
use Rattle.osc_tree.proofs.Lists.{contains_later}
use Rattle.osc_model.specs.Events.{Call}
use Rattle.osc_model.specs.Step.{matching_calls, calls_of, calls_from, invocations_of}
use Rattle.osc_score.specs.Scores.{Note, message_of, first_uses, addresses_of, methods_from, IsNote}
use Rattle.osc_score_laws.specs.Known.{Known, IsReadAs}
use Rattle.osc_score_laws.specs.Heard.{Sound, sound_at}
use Rattle.osc_score_laws.proofs.Bundles.{texts_of, note_lawful}
use Rattle.osc_score_laws.proofs.Grouped.{sound_in}

-- there is a method at the address
abbrev pub HasMethod : List Method → List ℕ → Type 0
HasMethod methods address = (id : ℕ) × Contains methods (record { id = id; address = address })

-- The methods of a score: there is one at each note's address.

any_on : (address : List ℕ) (first more : List (List ℕ)) → list_any (bytes_eq address) first ≡ true → list_any (bytes_eq address) (first ++ more) ≡ true
any_on address first more e = list_any-append (bytes_eq address) first more ∙ ap (λ (t : Bool). t || list_any (bytes_eq address) more) e

any_last : (address : List ℕ) (first : List (List ℕ)) → list_any (bytes_eq address) (first ++ address ∷ []) ≡ true
any_last address [] = ap (λ (t : Bool). t || false) ((bytes_eq-Decides address address).1 refl)
any_last address (other ∷ first) = ap (λ (t : Bool). bytes_eq address other || t) (any_last address first) ∙ or_true (bytes_eq address other) where
  or_true : (t : Bool) → (t || true) ≡ true
  or_true true = refl
  or_true false = refl

abbrev IsUsed : List (List ℕ) → Note → Type 0
IsUsed addresses note = list_any (bytes_eq note.address) addresses ≡ true

all_used : (before : List (List ℕ)) (notes : List Note) → AllByRecursion (IsUsed (before ++ first_uses before notes)) notes
all_used before [] = tt
all_used before (note ∷ notes) = go (list_any (bytes_eq note.address) before) refl (all_used before notes) (all_used (before ++ note.address ∷ []) notes) where
  go : (t : Bool) → list_any (bytes_eq note.address) before ≡ t → AllByRecursion (IsUsed (before ++ first_uses before notes)) notes
      → AllByRecursion (IsUsed ((before ++ note.address ∷ []) ++ first_uses (before ++ note.address ∷ []) notes)) notes
      → AllByRecursion (IsUsed (before ++ cond t (first_uses before notes) (note.address ∷ first_uses (before ++ note.address ∷ []) notes))) (note ∷ notes)
  go true e old new = (any_on note.address before (first_uses before notes) e, old)
  go false e old new =
      let later : List (List ℕ) = first_uses (before ++ note.address ∷ []) notes in
      subst (λ (l : List (List ℕ)). AllByRecursion (IsUsed l) (note ∷ notes)) (append_assoc before (note.address ∷ []) later)
      (any_on note.address (before ++ note.address ∷ []) later (any_last note.address before), new)

used_method : (id : ℕ) (address : List ℕ) (addresses : List (List ℕ)) → list_any (bytes_eq address) addresses ≡ true → HasMethod (methods_from id addresses) address
used_method id address [] e = absurd (cc)
used_method id address (other ∷ addresses) e = go (bytes_eq address other) refl e (used_method (id + 1) address addresses) where
  go : (t : Bool) → bytes_eq address other ≡ t → (t || list_any (bytes_eq address) addresses) ≡ true
      → (list_any (bytes_eq address) addresses ≡ true → HasMethod (methods_from (id + 1) addresses) address)
      → HasMethod (methods_from id (other ∷ addresses)) address
  go true is any more =
      let same : address ≡ other = (bytes_eq-Decides address other).0 is in
      (id, (0, omega arith, ap (λ (a : List ℕ). let m : Method = record { id = id; address = a } in m) (sym same)))
  go false is any more =
      let found = more any in
      (found.0, contains_later (record { id = found.0; address = address }) (record { id = id; address = other }) (methods_from (id + 1) addresses) found.1)

pub notes_have : (notes : List Note) → AllByRecursion (λ note. HasMethod (methods_from 0 (addresses_of notes)) note.address) notes
notes_have notes = have notes (all_used [] notes) where
  have : (some : List Note) → AllByRecursion (IsUsed (addresses_of notes)) some
      → AllByRecursion (λ note. HasMethod (methods_from 0 (addresses_of notes)) note.address) some
  have [] used = tt
  have (note ∷ some) used = (used_method 0 note.address (addresses_of notes) used.0, have some used.1)

-- One method matches.

none_pass : {X : Type 0} (test : X → Bool) (xs : List X) (d : X) → ((j : ℕ) → j < length xs → test (get_or xs j d) ≡ false) → filter test xs ≡ []
none_pass test [] d fails = refl
none_pass test (x ∷ xs) d fails =
    ap (λ (t : Bool). cond t (x ∷ filter test xs) (filter test xs)) (fails 0 (omega arith)) ∙ none_pass test xs d (λ j below. fails (suc j) (omega arith))

one_passes : {X : Type 0} (test : X → Bool) (xs : List X) (x : X) (k : ℕ) → k < length xs → get_or xs k x ≡ x → test x ≡ true
    → ((j : ℕ) → j < length xs → j ≢ k → test (get_or xs j x) ≡ false) → filter test xs ≡ x ∷ []
one_passes test [] x k below at passes fails = absurd (omega arith)
one_passes test (y ∷ ys) x zero below at passes fails =
    ap (λ (t : Bool). cond t (y ∷ filter test ys) (filter test ys)) (ap test at ∙ passes)
    ∙ ap (λ (z : _). z ∷ filter test ys) at
    ∙ ap (λ (l : List _). x ∷ l) (none_pass test ys x (λ j within. fails (suc j) (omega arith) (λ same. omega arith)))
one_passes test (y ∷ ys) x (suc k) below at passes fails =
    ap (λ (t : Bool). cond t (y ∷ filter test ys) (filter test ys)) (fails 0 (omega arith) (λ same. omega arith))
    ∙ one_passes test ys x k (omega arith) at passes (λ j within differ. fails (suc j) (omega arith) (λ same. differ (omega arith)))

differ_at : (methods : List Method) (j k : ℕ) (d : Method) → AllPairs (λ a b. a.address ≢ b.address) methods → j < length methods → k < length methods → j ≢ k
    → (get_or methods k d).address ≢ (get_or methods j d).address
differ_at methods j k d pairs j_below k_below other = elim (cases_order j k) [
  | inl same ↦ absurd (other same)
  | inr (inl before) ↦ λ e. pairs j k d before k_below (sym e)
  | inr (inr after) ↦ λ e. pairs k j d after j_below e
]

pub one_matching : Known → (methods : List Method) (method : Method) → IsMethodList methods → IsAddress method.address → Contains methods method
    → matching method.address methods ≡ method ∷ []
one_matching known methods method list lawful (k, below, at) =
    let test : Method → Bool = λ other. matches method.address other.address in
    let itself : test method ≡ true = (known.itself method.address method.address lawful lawful).1 refl in
    let others : (j : ℕ) → j < length methods → j ≢ k → test (get_or methods j method) ≡ false =
    λ j within differ.
    false_from_ne_true (test (get_or methods j method)) (λ e.
    differ_at methods j k method list.addresses within below differ
    (ap (λ (m : Method). m.address) at ∙ (known.itself method.address (get_or methods j method).address lawful (list.lawful j method within)).0 e)) in
    ap (λ (l : List Method). fold in_place [] l) (one_passes test methods method k below at itself others)

-- the call of a note
pub record IsCalled (methods : List Method) (index : ℕ) (note : Note) : Type 0 where
  pub call : Call
  pub calls : calls_of methods index (message_text (message_of note)) ≡ call ∷ []
  pub address : call.address ≡ note.address
  pub message : call.message ≡ message_text (message_of note)

pub note_read : Known → (note : Note) → IsNote note → IsReadAs (message_text (message_of note)) note.address note.arguments
note_read known note is = known.message note.address note.arguments (note_lawful known note is)

pub note_called : Known → (methods : List Method) (index : ℕ) (note : Note) → IsMethodList methods → IsNote note → HasMethod methods note.address
    → IsCalled methods index note
note_called known methods index note list is (id, there) =
    let text : List ℕ = message_text (message_of note) in
    let read : IsReadAs text note.address note.arguments = note_read known note is in
    let method : Method = record { id = id; address = note.address } in
    let call_at : Method → Call = λ m. record { index = index; id = m.id; address = m.address; message = text } in
    record {
      call = call_at method;
      calls = ap (λ (o : Option ℕ). cond (is_some o) [] (matching_calls methods index text)) read.all_known
          ∙ ap (λ (p : List ℕ). map call_at (matching p methods)) read.pattern_is
          ∙ ap (λ (l : List Method). map call_at l) (one_matching known methods method list is.address there);
      address = refl;
      message = refl;
    }

-- what a note's call lets be heard
heard_one : Known → (methods : List Method) (index clock unit : ℕ) (note : Note) → IsNote note → (called : IsCalled methods index note)
    → sound_at clock (record { unit = unit; call = called.call }) ≡ sound_in clock note
heard_one known methods index clock unit note is called =
    let read : IsReadAs (message_text (message_of note)) note.address note.arguments = note_read known note is in
    ap (λ (a : List ℕ). let s : Sound = record { clock = clock; address = a; tags = tags_of called.call.message; arguments = message_arguments called.call.message } in s)
    called.address
    ∙ ap (λ (m : List ℕ). let s : Sound = record { clock = clock; address = note.address; tags = tags_of m; arguments = message_arguments m } in s) called.message
    ∙ ap (λ (o : Option (List ℕ)). let s : Sound = record { clock = clock; address = note.address; tags = o; arguments = message_arguments (message_text (message_of note)) } in s)
    read.tags_are
    ∙ ap (λ (l : List Argument). let s : Sound = record { clock = clock; address = note.address; tags = Some (map tag_of note.arguments); arguments = l } in s)
    read.arguments_are

pub unit_heard : Known → (methods : List Method) (index clock unit : ℕ) (notes : List Note) → IsMethodList methods → AllByRecursion IsNote notes
    → AllByRecursion (λ note. HasMethod methods note.address) notes
    → map (sound_at clock) (invocations_of unit (calls_from methods index (texts_of notes))) ≡ map (sound_in clock) notes
unit_heard known methods index clock unit [] list all have = refl
unit_heard known methods index clock unit (note ∷ notes) list all have =
    let called : IsCalled methods index note = note_called known methods index note list all.0 have.0 in
    let later : List Call = calls_from methods (index + 1) (texts_of notes) in
    ap (λ (l : List Call). map (sound_at clock) (invocations_of unit (l ++ later))) called.calls
    ∙ ap (λ (s : Sound). s ∷ map (sound_at clock) (invocations_of unit later)) (heard_one known methods index clock unit note all.0 called)
    ∙ ap (λ (l : List Sound). sound_in clock note ∷ l) (unit_heard known methods (index + 1) clock unit notes list all.1 have.1)

pub unit_called : Known → (methods : List Method) (index : ℕ) (notes : List Note) → IsMethodList methods → AllByRecursion IsNote notes
    → AllByRecursion (λ note. HasMethod methods note.address) notes → length (calls_from methods index (texts_of notes)) ≡ length notes
unit_called known methods index [] list all have = refl
unit_called known methods index (note ∷ notes) list all have =
    let called : IsCalled methods index note = note_called known methods index note list all.0 have.0 in
    ap (λ (l : List Call). length (l ++ calls_from methods (index + 1) (texts_of notes))) called.calls
    ∙ ap suc (unit_called known methods (index + 1) notes list all.1 have.1)
