-- What the laws of messages give.
use Rattle.std.proofs.Common.{◌≡◌, ℕ, ◌%◌, ◌<◌, ◌≤◌, true, IsTrue, List, length, None, Result, Ok, Err, refl, sym, subst}
use Rattle.std.specs.Prelude.{slice_index, ◌↔◌, Some, is_ok}
use Rattle.std.specs.Result.{result_err}
use Rattle.osc_atoms.specs.declared.fault.Fault.{Fault}
use Rattle.osc_atoms.specs.Atoms.{AreBytes}
use Rattle.osc_message.specs.Messages.{Form, message_text, IsLawful, IsMessage}
use Rattle.osc_message.specs.Reading.{is_message, message_fault, limited_read}
use Rattle.osc_message.specs.Wants.{FirstFault}
use Rattle.osc_packet.specs.Known.{OfMessages}

no_err : {X : Type 0} (r : Result X Fault) → is_ok r ≡ true → result_err r ≡ None
no_err (Ok x) e = refl
no_err (Err f) e = cc

-- the laws of messages, as one
pub of_messages : ((form : Form) (most : ℕ) → IsLawful form → length (message_text form) ≤ most → IsTrue (is_message most (message_text form)))
    → ((one other : Form) → IsLawful one → IsLawful other → message_text one ≡ message_text other → one ≡ other)
    → ((most : ℕ) (bytes : List ℕ) (fault other : Fault) → FirstFault bytes most fault → FirstFault bytes most other → fault ≡ other)
    → ((most : ℕ) (bytes : List ℕ) (fault : Fault) → AreBytes bytes → message_fault most bytes ≡ Some fault ↔ FirstFault bytes most fault)
    → ((most : ℕ) (bytes : List ℕ) → AreBytes bytes → message_fault most bytes ≡ None ↔ IsMessage most bytes)
    → ((most : ℕ) (bytes : List ℕ) → IsMessage most bytes → (0 < length bytes) × (length bytes % 4 ≡ 0) × (slice_index bytes 0 ≡ 47))
    → OfMessages
of_messages accepted apart one told silent begun = record {
  read = λ most bytes small none. (silent most bytes small).0 none;
  written = λ most bytes is. no_err (limited_read most bytes)
      (subst (λ (l : List ℕ). is_message most l ≡ true) (sym is.spelled)
      (accepted is.form most is.lawful (subst (λ (l : List ℕ). length l ≤ most) is.spelled is.short)));
  told = λ most bytes fault small is. (told most bytes fault small).0 is;
  one = one;
  slash = λ most bytes is. (begun most bytes is).2;
  some = λ most bytes is. (begun most bytes is).0;
  fourfold = λ most bytes is. (begun most bytes is).1;
  apart = apart;
}
