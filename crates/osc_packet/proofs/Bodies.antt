-- Elements with lawful sizes and messages.
use Rattle.std.proofs.Common.{◌≡◌, ℕ, zero, suc, ◌+◌, ◌-◌, ◌<◌, ◌≤◌, Bool, true, false, cond, not, List, [], ◌∷◌, length, take, drop, Option, Some, None, refl}
use Rattle.std.proofs.Common.{sym, ◌∙◌, ap, inl, inr, arith, length-drop, length-take}
use Rattle.std.specs.Prelude.{option_map}
use Rattle.std.specs.Option.{option_or}
use Rattle.std.specs.List.{filter}
use Rattle.std.proofs.lemmas.Bool.{cond-true, cond-false, cases_lt}
use Rattle.osc_atoms.specs.declared.fault.Fault.{Fault}
use Rattle.osc_message.specs.Reading.{message_fault}
use Rattle.osc_packet.specs.Faults.{element_size, moved}
use Rattle.osc_packet.specs.Wants.{IsSize}
use Rattle.osc_packet.specs.Reading.{is_bundle, message_fault_at, body_fault, first_size, first_element, after_first, begins_with_size, messages_in}
use Rattle.osc_packet.specs.Contents.{own_fault, SplitsElements, IsSound, Splits, messages_of}
use Rattle.osc_packet.specs.declared.content.Content.TheVariants.{Alone, Among}
use Rattle.osc_packet.specs.declared.content.Content.{Content}
use Rattle.osc_packet.specs.Units.{stored_size}
use denote.Ref.{Bor}
use Rattle.std.proofs.lemmas.List.{length-take-le}
use Rattle.osc_packet.proofs.Steps.{body_step, body_end, in_step, in_end, some_none}
use Rattle.osc_packet.proofs.Told.{is_size}

pub both_none : (r s : Option Fault) → option_or r s ≡ None → (r ≡ None) × (s ≡ None)
both_none None s e = (refl, e)
both_none (Some f) s e = absurd (some_none e)

-- what is known of elements that are read without a fault, where there is one
pub record Silent (fault_of : ℕ → List ℕ → Option Fault) (at : ℕ) (bytes : List ℕ) : Type 0 where
  pub test : begins_with_size bytes ≡ true
  pub size : IsSize (first_size bytes) (length bytes - 4)
  pub one : fault_of (at + 4) (first_element bytes) ≡ None
  pub rest : body_fault fault_of (at + 4 + first_size bytes) (after_first bytes) ≡ None

pub silent_step : (f : ℕ → List ℕ → Option Fault) (at : ℕ) (bytes : List ℕ) → 0 < length bytes → body_fault f at bytes ≡ None → Silent f at bytes
silent_step f at bytes some silent = go (begins_with_size bytes) refl (sym (body_step f at bytes some) ∙ silent) where
  go : (test : Bool) → begins_with_size bytes ≡ test
      → cond test (option_or (f (at + 4) (first_element bytes)) (body_fault f (at + 4 + first_size bytes) (after_first bytes))) (Some (element_size at)) ≡ None
      → Silent f at bytes
  go false is e = absurd (some_none e)
  go true is e =
      let both = both_none (f (at + 4) (first_element bytes)) (body_fault f (at + 4 + first_size bytes) (after_first bytes)) e in
      record { test = is; size = is_size (first_size bytes) (length bytes - 4) is; one = both.0; rest = both.1 }

weaker_by : (f g : ℕ → List ℕ → Option Fault) → ((at to : ℕ) (bytes : List ℕ) → f at bytes ≡ None → g to bytes ≡ None) → (bound at to : ℕ) (bytes : List ℕ)
    → length bytes ≤ bound → body_fault f at bytes ≡ None → body_fault g to bytes ≡ None
weaker_by f g each zero at to bytes few silent = body_end g to bytes (omega arith)
weaker_by f g each (suc bound) at to bytes few silent = elim (cases_lt 0 (length bytes)) [
  | inr none ↦ body_end g to bytes (omega arith)
  | inl some ↦
      let step = silent_step f at bytes some silent in
      let rest = weaker_by f g each bound (at + 4 + first_size bytes) (to + 4 + first_size bytes) (after_first bytes)
      (omega (arith, length-drop (first_size bytes) (drop 4 bytes), length-drop 4 bytes)) step.rest in
      body_step g to bytes some ∙ cond-true _ _ _ step.test
      ∙ ap (λ (o : Option Fault). option_or o (body_fault g (to + 4 + first_size bytes) (after_first bytes)))
      (each (at + 4) (to + 4) (first_element bytes) step.one)
      ∙ rest
]

-- where one reading has no fault, another has none
pub weaker : (f g : ℕ → List ℕ → Option Fault) → ((at to : ℕ) (bytes : List ℕ) → f at bytes ≡ None → g to bytes ≡ None) → (at to : ℕ) (bytes : List ℕ)
    → body_fault f at bytes ≡ None → body_fault g to bytes ≡ None
weaker f g each at to bytes silent = weaker_by f g each (length bytes) at to bytes (omega arith) silent

pub message_anywhere : (at to : ℕ) (bytes : List ℕ) → message_fault_at at bytes ≡ None → message_fault_at to bytes ≡ None
message_anywhere at to bytes = go (message_fault (length bytes) bytes) where
  go : (r : Option Fault) → option_map (moved at) r ≡ None → option_map (moved to) r ≡ None
  go None e = refl
  go (Some f) e = absurd (some_none e)

pub own_anywhere : (at to : ℕ) (bytes : List ℕ) → own_fault at bytes ≡ None → own_fault to bytes ≡ None
own_anywhere at to bytes = go (is_bundle bytes) where
  go : (test : Bool) → cond test None (message_fault_at at bytes) ≡ None → cond test None (message_fault_at to bytes) ≡ None
  go true e = refl
  go false e = message_anywhere at to bytes e

-- the messages among elements, by the first element
pub messages_step : (bytes : List ℕ) → 0 < length bytes
    → messages_in bytes ≡ cond (not (is_bundle (first_element bytes))) (first_element bytes ∷ messages_in (after_first bytes)) (messages_in (after_first bytes))
messages_step bytes some = ap (filter (λ (element : List ℕ). not (is_bundle element))) (in_step bytes some)

pub messages_end : (bytes : List ℕ) → length bytes ≡ 0 → messages_in bytes ≡ []
messages_end bytes none = ap (filter (λ (element : List ℕ). not (is_bundle element))) (in_end bytes none)

not_bundle : (bytes : List ℕ) → is_bundle bytes ≡ false → own_fault 4 bytes ≡ None → message_fault_at 0 bytes ≡ None
not_bundle bytes is fine = message_anywhere 4 0 bytes (sym (cond-false _ _ _ is) ∙ fine)

-- a first element that is a message
pub first_message : (bytes element rest : List ℕ) (size : ℕ) → 0 < length bytes → body_fault own_fault 0 bytes ≡ None → size ≡ first_size bytes
    → element ≡ take size (drop 4 bytes) → rest ≡ drop size (drop 4 bytes) → is_bundle element ≡ false → SplitsElements bytes element rest
first_message bytes element rest size some silent is_size is_element is_rest test =
    let step = silent_step own_fault 0 bytes some silent in
    let first : element ≡ first_element bytes = is_element ∙ ap (λ (n : ℕ). take n (drop 4 bytes)) is_size in
    let others : rest ≡ after_first bytes = is_rest ∙ ap (λ (n : ℕ). drop n (drop 4 bytes)) is_size in
    let here : is_bundle (first_element bytes) ≡ false = ap is_bundle (sym first) ∙ test in
    record {
      parts = messages_step bytes some ∙ cond-true _ _ _ (ap not here) ∙ (λ i. sym first i ∷ messages_in (sym others i));
      lawful = ap (message_fault_at 0) first ∙ not_bundle (first_element bytes) here step.one;
      small = omega (arith, ap length is_element, length-take size (drop 4 bytes), length-drop 4 bytes);
      sound = ap (body_fault own_fault 0) others ∙ weaker own_fault own_fault own_anywhere (0 + 4 + first_size bytes) 0 (after_first bytes) step.rest;
      shorter = omega (arith, ap length is_rest, length-drop size (drop 4 bytes), length-drop 4 bytes);
    }

-- a first element that is a bundle
pub skipped : (bytes element rest : List ℕ) (size : ℕ) → 0 < length bytes → body_fault own_fault 0 bytes ≡ None → size ≡ first_size bytes
    → element ≡ take size (drop 4 bytes) → rest ≡ drop size (drop 4 bytes) → is_bundle element ≡ true
    → (messages_in bytes ≡ messages_in rest) × (body_fault own_fault 0 rest ≡ None)
skipped bytes element rest size some silent is_size is_element is_rest test =
    let step = silent_step own_fault 0 bytes some silent in
    let first : element ≡ first_element bytes = is_element ∙ ap (λ (n : ℕ). take n (drop 4 bytes)) is_size in
    let others : rest ≡ after_first bytes = is_rest ∙ ap (λ (n : ℕ). drop n (drop 4 bytes)) is_size in
    let here : is_bundle (first_element bytes) ≡ true = ap is_bundle (sym first) ∙ test in (
      messages_step bytes some ∙ cond-false _ _ _ (ap not here) ∙ ap messages_in (sym others),
      ap (body_fault own_fault 0) others ∙ weaker own_fault own_fault own_anywhere (0 + 4 + first_size bytes) 0 (after_first bytes) step.rest,
    )

-- after a message alone nothing is left
pub alone_splits : (message empty : Bor (List ℕ)) → IsSound (Alone message) → empty.now ≡ [] → Splits (Alone message) message.now (Among empty)
alone_splits message empty sound none = record {
  parts = λ i. message.now ∷ sym (messages_end empty.now (ap length none)) i;
  lawful = sound.0;
  small = sound.1;
  sound = (body_end own_fault 0 empty.now (ap length none), omega (arith, ap length none));
}

-- the messages among elements, each after its size, are no longer than the elements
stored_within : (bound : ℕ) (bytes : List ℕ) → length bytes ≤ bound → body_fault own_fault 0 bytes ≡ None → stored_size (messages_in bytes) ≤ length bytes
stored_within zero bytes few silent = rw (messages_end bytes (omega arith)) (omega arith)
stored_within (suc bound) bytes few silent = elim (cases_lt 0 (length bytes)) [
  | inr none ↦ rw (messages_end bytes (omega arith)) (omega arith)
  | inl some ↦
      let step = silent_step own_fault 0 bytes some silent in
      let size : length (first_element bytes) ≡ first_size bytes =
      length-take-le (first_size bytes) (drop 4 bytes) (omega (arith, length-drop 4 bytes, step.size.inside)) in
      let others : length (after_first bytes) ≡ length bytes - 4 - first_size bytes =
      length-drop (first_size bytes) (drop 4 bytes) ∙ ap (λ (n : ℕ). n - first_size bytes) (length-drop 4 bytes) in
      let rest = stored_within bound (after_first bytes) (omega (arith, step.size.positive))
      (weaker own_fault own_fault own_anywhere (0 + 4 + first_size bytes) 0 (after_first bytes) step.rest) in
      rw (messages_step bytes some) (go bytes (not (is_bundle (first_element bytes))) size others step.size.inside step.size.positive rest)
]
  where
    go : (bytes : List ℕ) (test : Bool) → length (first_element bytes) ≡ first_size bytes → length (after_first bytes) ≡ length bytes - 4 - first_size bytes
        → first_size bytes ≤ length bytes - 4 → 4 ≤ first_size bytes → stored_size (messages_in (after_first bytes)) ≤ length (after_first bytes)
        → stored_size (cond test (first_element bytes ∷ messages_in (after_first bytes)) (messages_in (after_first bytes))) ≤ length bytes
    go bytes true size others inside positive rest = omega arith
    go bytes false size others inside positive rest = omega arith

pub stored_small : (content : Content) → IsSound content → stored_size (messages_of content) ≤ 65508
stored_small (Alone message) sound = omega (arith, sound.1)
stored_small (Among elements) sound = omega (arith, stored_within (length elements.now) elements.now (omega arith) sound.0, sound.1)

pub count_stored : (messages : List (List ℕ)) → length messages ≤ stored_size messages
count_stored [] = omega arith
count_stored (message ∷ messages) = omega (arith, count_stored messages)
