-- What a check answers, by the fault that is read.
use Rattle.std.proofs.Common.{◌≡◌, ◌↔◌, ◌⊎◌, ℕ, ◌%◌, ◌<◌, ◌≤◌, List, length, Some, None, Result, Ok, Err, IsOk, refl, sym, ◌∙◌, ap, subst, inl, inr}
use Rattle.std.proofs.lemmas.Option.{none-some, same_Some}
use Rattle.std.specs.Prelude.{IfErr, slice_index}
use Rattle.std.specs.Result.{result_err}
use Rattle.osc_atoms.specs.declared.fault.Fault.{Fault}
use Rattle.osc_atoms.specs.Atoms.{AreBytes}
use Rattle.osc_message.specs.Messages.{IsMessage}
use Rattle.osc_message.specs.Wants.{some_byte, FirstFault}
use Rattle.osc_message.specs.Reading.{Parts, limited_read, message_fault}
use Rattle.osc_message.proofs.FirstFaults.{Found, message_seen, fault_is_read, fault_within}
use Rattle.osc_message.proofs.MessageLaws.{limited_again, text_some, text_fours, text_first}

-- a message is read without a fault
no_fault : (most : ℕ) (bytes : List ℕ) → IsMessage most bytes → result_err (limited_read most bytes) ≡ None
no_fault most bytes message = ap result_err (limited_again most bytes message.form message.lawful message.spelled message.short)

pub fault_read : (most : ℕ) (bytes : List ℕ) (fault : Fault) → FirstFault bytes most fault → result_err (limited_read most bytes) ≡ Some fault
fault_read most bytes fault found = fault_is_read bytes (some_byte most) fault tt found

pub first_of : {X : Type 0} (r : Result X Fault) (most : ℕ) (bytes : List ℕ) → result_err r ≡ result_err (limited_read most bytes) → (fault : Fault)
    → FirstFault bytes most fault → r ≡ Err fault
first_of (Ok x) most bytes same fault found = absurd (none-some fault (same ∙ fault_read most bytes fault found))
first_of (Err f) most bytes same fault found = ap (λ (g : Fault). Err g) (same_Some f fault (same ∙ fault_read most bytes fault found))

pub fault_of : {X : Type 0} (r : Result X Fault) (most : ℕ) (bytes : List ℕ) → AreBytes bytes → result_err r ≡ result_err (limited_read most bytes)
    → IfErr r (λ fault. FirstFault bytes most fault)
fault_of (Ok x) most bytes small same = tt
fault_of (Err f) most bytes small same = elim (message_seen most bytes small) [
  | inl found ↦ subst (FirstFault bytes most) (sym (same_Some f found.fault (same ∙ fault_read most bytes found.fault found.found))) found.found
  | inr message ↦ absurd (none-some f (sym (no_fault most bytes message) ∙ sym same))
]

pub exact_of : {X : Type 0} (r : Result X Fault) (most : ℕ) (bytes : List ℕ) → AreBytes bytes → result_err r ≡ result_err (limited_read most bytes)
    → IsOk r ↔ IsMessage most bytes
exact_of (Ok x) most bytes small same = (λ _. message (message_seen most bytes small), λ _. refl) where
  message : Found bytes (some_byte most) ⊎ IsMessage most bytes → IsMessage most bytes
  message (inl found) = absurd (none-some found.fault (same ∙ fault_read most bytes found.fault found.found))
  message (inr m) = m
exact_of (Err f) most bytes small same = (λ e. absurd (cc), λ message. absurd (none-some f (sym (no_fault most bytes message) ∙ sym same)))

pub none_is : (most : ℕ) (bytes : List ℕ) → AreBytes bytes → IsMessage most bytes ↔ ((fault : Fault) → FirstFault bytes most fault → ⊥)
none_is most bytes small = (
  λ message fault found. none-some fault (sym (no_fault most bytes message) ∙ fault_read most bytes fault found),
  λ none.
      go none (message_seen most bytes small),
) where
  go : ((fault : Fault) → FirstFault bytes most fault → ⊥) → Found bytes (some_byte most) ⊎ IsMessage most bytes → IsMessage most bytes
  go none (inl found) = absurd (none found.fault found.found)
  go none (inr message) = message

pub one_is : (most : ℕ) (bytes : List ℕ) (fault other : Fault) → FirstFault bytes most fault → FirstFault bytes most other → fault ≡ other
one_is most bytes fault other one two = same_Some fault other (sym (fault_read most bytes fault one) ∙ fault_read most bytes other two)

pub told_is : (most : ℕ) (bytes : List ℕ) (fault : Fault) → AreBytes bytes → message_fault most bytes ≡ Some fault ↔ FirstFault bytes most fault
told_is most bytes fault small =
    (λ read. told (limited_read most bytes) read (fault_of (limited_read most bytes) most bytes small refl), fault_read most bytes fault) where
      told : (r : Result Parts Fault) → result_err r ≡ Some fault → IfErr r (λ f. FirstFault bytes most f) → FirstFault bytes most fault
      told (Ok x) e h = absurd (none-some fault e)
      told (Err f) e h = subst (FirstFault bytes most) (same_Some f fault e) h

pub silent_is : (most : ℕ) (bytes : List ℕ) → AreBytes bytes → message_fault most bytes ≡ None ↔ IsMessage most bytes
silent_is most bytes small = (λ none. go none (message_seen most bytes small), no_fault most bytes) where
  go : message_fault most bytes ≡ None → Found bytes (some_byte most) ⊎ IsMessage most bytes → IsMessage most bytes
  go none (inl found) = absurd (none-some found.fault (sym none ∙ fault_read most bytes found.fault found.found))
  go none (inr message) = message

pub within_of : {X : Type 0} (r : Result X Fault) (most : ℕ) (bytes : List ℕ) → AreBytes bytes → result_err r ≡ result_err (limited_read most bytes)
    → IfErr r (λ fault. fault.at ≤ length bytes)
within_of (Ok x) most bytes small same = tt
within_of {X} (Err f) most bytes small same = fault_within bytes (some_byte most) f tt (fault_of {X = X} (Err f) most bytes small same)

pub begins_is : (most : ℕ) (bytes : List ℕ) → IsMessage most bytes → (0 < length bytes) × (length bytes % 4 ≡ 0) × (slice_index bytes 0 ≡ 47)
begins_is most bytes message = (
  subst (λ (l : List ℕ). 0 < length l) (sym message.spelled) (text_some message.form message.lawful),
  subst (λ (l : List ℕ). length l % 4 ≡ 0) (sym message.spelled) (text_fours message.form message.lawful),
  ap (λ (l : List ℕ). slice_index l 0) message.spelled ∙ text_first message.form message.lawful,
)
