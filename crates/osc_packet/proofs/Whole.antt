-- A packet whole: it is valid, or has one first fault.
use Rattle.std.proofs.Common.{◌≡◌, ℕ, ◌%◌, ◌<◌, ◌≤◌, ◌^◌, ◌==◌, Bool, true, false, cond, nat_lt, List, length, Option, Some, None, refl, sym, ◌∙◌, ap, subst}
use Rattle.std.proofs.Common.{arith}
use Rattle.std.proofs.lemmas.Bool.{cond-false, ltb-false, le-ltb}
use Rattle.osc_atoms.specs.declared.fault.Fault.{Fault}
use Rattle.osc_atoms.specs.Atoms.{AreBytes}
use Rattle.osc_packet.specs.Packets.{IsPacket}
use Rattle.osc_packet.specs.Wants.{FirstFault}
use Rattle.osc_packet.specs.Reading.{packet_fault, element_fault}
use Rattle.osc_atoms.specs.Faults.{empty, too_long, not_four}
use Rattle.osc_packet.specs.Known.{OfMessages}
use Rattle.osc_packet.proofs.Chains.{one_fault, no_fault}
use Rattle.osc_packet.proofs.Told.{Outcome, packet_told}
use Rattle.osc_packet.proofs.Found.{packet_found}
use Rattle.osc_packet.proofs.Silent.{valid_silent}
use Rattle.osc_packet.proofs.Steps.{some_none}

-- what the reading tells is the first fault
pub told_first : OfMessages → (most : ℕ) (bytes : List ℕ) → AreBytes bytes → (fault : Fault) → packet_fault most bytes ≡ Some fault
    → FirstFault bytes most fault
told_first known most bytes small fault is = subst (Outcome bytes most None) is (packet_told known bytes most small)

-- the first fault is what the reading tells
pub fault_again : OfMessages → (most : ℕ) (bytes : List ℕ) → AreBytes bytes → (fault : Fault) → FirstFault bytes most fault
    → packet_fault most bytes ≡ Some fault
fault_again known most bytes small fault found = go (packet_fault most bytes) (packet_told known bytes most small) where
  go : (read : Option Fault) → Outcome bytes most None read → read ≡ Some fault
  go None ended = absurd (no_fault ended found)
  go (Some other) first = ap (λ (f : Fault). Some f) (one_fault known first found)

pub none_packet : OfMessages → (most : ℕ) (bytes : List ℕ) → AreBytes bytes → ((fault : Fault) → FirstFault bytes most fault → ⊥) → IsPacket most bytes
none_packet known most bytes small none = go (packet_fault most bytes) refl where
  go : (read : Option Fault) → packet_fault most bytes ≡ read → IsPacket most bytes
  go None is = packet_found known most bytes small is
  go (Some fault) is = absurd (none fault (told_first known most bytes small fault is))

pub packet_none : OfMessages → (most : ℕ) (bytes : List ℕ) → most < 2 ^ 32 → AreBytes bytes → IsPacket most bytes → (fault : Fault)
    → FirstFault bytes most fault → ⊥
packet_none known most bytes few small is fault found =
    some_none (sym (fault_again known most bytes small fault found) ∙ valid_silent known most bytes few is)

-- what is read under a lower limit is read under a higher one
pub limit_raised : (most higher : ℕ) (bytes : List ℕ) → most ≤ higher → packet_fault most bytes ≡ None → packet_fault higher bytes ≡ None
limit_raised most higher bytes order = go (length bytes == 0) (nat_lt most (length bytes)) refl where
  go : (a b : Bool) → nat_lt most (length bytes) ≡ b
      → cond a (Some empty) (cond b (Some (too_long most)) (cond (length bytes % 4 == 0) (element_fault 16 None 0 bytes) (Some (not_four (length bytes)))))
      ≡ None
      → cond a (Some empty)
      (cond (nat_lt higher (length bytes)) (Some (too_long higher))
      (cond (length bytes % 4 == 0) (element_fault 16 None 0 bytes) (Some (not_four (length bytes))))) ≡ None
  go true b is e = absurd (some_none e)
  go false true is e = absurd (some_none e)
  go false false is e = cond-false _ _ _ (le-ltb higher (length bytes) (omega (arith, ltb-false most (length bytes) is))) ∙ e

some_is : {f g : Fault} → ◌≡◌ {A = Option Fault} (Some f) (Some g) → f ≡ g
some_is e = cc

module _ (known : OfMessages) (most : ℕ) (bytes : List ℕ) (small : AreBytes bytes) (few : most ≤ 65504) where
  pub refused_exact : (fault : Fault) → packet_fault most bytes ≡ Some fault → IsPacket most bytes → ⊥
  refused_exact fault read is = some_none (sym read ∙ valid_silent known most bytes (omega arith) is)

  pub refused_first : (fault other : Fault) → packet_fault most bytes ≡ Some fault → FirstFault bytes most other → fault ≡ other
  refused_first fault other read found = some_is (sym read ∙ fault_again known most bytes small other found)

  pub accepted_first : (other : Fault) → packet_fault most bytes ≡ None → FirstFault bytes most other → ⊥
  accepted_first other read found = some_none (sym (fault_again known most bytes small other found) ∙ read)
