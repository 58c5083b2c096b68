-- Inside the crate: what is known of messages where packets are read.
use Rattle.std.specs.Prelude.{◌≡◌, ℕ, ◌%◌, ◌<◌, List, length, slice_index, Some, None}
use Rattle.osc_atoms.specs.declared.fault.Fault.{Fault}
use Rattle.osc_atoms.specs.Atoms.{AreBytes}
use Rattle.osc_message.specs.Messages.{Form, message_text, IsLawful, IsMessage}
use Rattle.osc_message.specs.Reading.{message_fault}
use Rattle.osc_message.specs.Wants.{FirstFault}

-- bytes are read as a message where they are one, and else their first fault is told; no two
-- messages have one text
pub record OfMessages : Type 0 where
  pub read : (most : ℕ) (bytes : List ℕ) → AreBytes bytes → message_fault most bytes ≡ None
      → IsMessage most bytes
  pub written : (most : ℕ) (bytes : List ℕ) → IsMessage most bytes → message_fault most bytes ≡ None
  pub told : (most : ℕ) (bytes : List ℕ) (fault : Fault) → AreBytes bytes
      → message_fault most bytes ≡ Some fault → FirstFault bytes most fault
  pub one : (most : ℕ) (bytes : List ℕ) (f g : Fault) → FirstFault bytes most f
      → FirstFault bytes most g → f ≡ g
  pub slash : (most : ℕ) (bytes : List ℕ) → IsMessage most bytes → slice_index bytes 0 ≡ 47
  pub some : (most : ℕ) (bytes : List ℕ) → IsMessage most bytes → 0 < length bytes
  pub fourfold : (most : ℕ) (bytes : List ℕ) → IsMessage most bytes → length bytes % 4 ≡ 0
  pub apart : (f g : Form) → IsLawful f → IsLawful g → message_text f ≡ message_text g → f ≡ g
