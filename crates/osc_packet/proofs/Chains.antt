-- The reached wants stand in one row, so at most one of them ends it.
use Rattle.std.proofs.Common.{◌≡◌, ◌⊎◌, ℕ, List, Some, None, refl, sym, ◌∙◌, subst, inl, inr}
use Rattle.std.proofs.lemmas.Option.{same_Some}
use Rattle.osc_atoms.specs.declared.fault.Fault.{Fault}
use Rattle.osc_packet.specs.Faults.{moved}
use Rattle.osc_packet.specs.Wants.{Want, some_byte, within, fourfold, begun, is_message, named_bundle, headed, shallow, in_time, sized, Stands, next_of, Names}
use Rattle.osc_packet.specs.Wants.{Reaches, first, later, FirstFault}
use Rattle.osc_packet.specs.Known.{OfMessages}
use Rattle.osc_packet.proofs.Steps.{some_none}

-- the second want is reached from the first
data Onward (bytes : List ℕ) (most : ℕ) : Want → Want → Type 0 where
  here : {want : Want} → Onward bytes most want want
  on : {want next last : Want} → Stands bytes most want → next_of bytes want ≡ Some next → Onward bytes most next last → Onward bytes most want last

extend : {bytes : List ℕ} {most : ℕ} {a b c : Want} → Onward bytes most a b → Stands bytes most b → next_of bytes b ≡ Some c → Onward bytes most a c
extend here stands next = on stands next here
extend (on s n rest) stands next = on s n (extend rest stands next)

from_first : {bytes : List ℕ} {most : ℕ} {want : Want} → Reaches bytes most want → Onward bytes most some_byte want
from_first first = here
from_first (later reached stands next) = extend (from_first reached) stands next

past : {bytes : List ℕ} {most : ℕ} {want next last : Want} → Onward bytes most want last → next_of bytes want ≡ Some next
    → (want ≡ last) ⊎ Onward bytes most next last
past here n = inl refl
past {bytes} {most} {want} {next} {last} (on {next = other} s m rest) n = inr (subst (λ w. Onward bytes most w last) (same_Some other next (sym m ∙ n)) rest)

compared : {bytes : List ℕ} {most : ℕ} {want other : Want} → Reaches bytes most want → Onward bytes most some_byte other
    → Onward bytes most want other ⊎ Onward bytes most other want
compared first onward = inl onward
compared {bytes} {most} {want} {other} (later {want = before} reached stands next) onward = elim (compared reached onward) [
  | inl to ↦ elim (past to next) [
    | inl same ↦ inr (subst (λ w. Onward bytes most w want) same (on stands next here))
    | inr more ↦ inl more
  ]
  | inr back ↦ inr (extend back stands next)
]

-- the row ends at the want
abbrev pub Ends : List ℕ → ℕ → Want → Type 0
Ends bytes most want = (Stands bytes most want → ⊥) ⊎ (next_of bytes want ≡ None)

stays : {bytes : List ℕ} {most : ℕ} {want last : Want} → Onward bytes most want last → Ends bytes most want → want ≡ last
stays here ends = refl
stays (on {next = next} stands n rest) (inl fails) = absurd (fails stands)
stays (on {next = next} stands n rest) (inr none) = absurd (some_none (sym n ∙ none))

pub one_end : {bytes : List ℕ} {most : ℕ} {a b : Want} → Reaches bytes most a → Ends bytes most a → Reaches bytes most b → Ends bytes most b → a ≡ b
one_end ra ea rb eb = elim (compared ra (from_first rb)) [
  | inl to ↦ stays to ea
  | inr back ↦ sym (stays back eb)
]

-- the last want is reached and stands
pub record Ended (bytes : List ℕ) (most : ℕ) : Type 0 where
  pub want : Want
  pub reached : Reaches bytes most want
  pub stands : Stands bytes most want
  pub last : next_of bytes want ≡ None

pub no_fault : {bytes : List ℕ} {most : ℕ} {fault : Fault} → Ended bytes most → FirstFault bytes most fault → ⊥
no_fault {bytes} {most} ended found =
    found.fails (subst (Stands bytes most) (one_end ended.reached (inr ended.last) found.reached (inl found.fails)) ended.stands)

named_one : OfMessages → (bytes : List ℕ) (most : ℕ) (want : Want) (f g : Fault) → Names bytes most want f → Names bytes most want g → f ≡ g
named_one known bytes most some_byte f g a b = a ∙ sym b
named_one known bytes most within f g a b = a ∙ sym b
named_one known bytes most fourfold f g a b = a ∙ sym b
named_one known bytes most (begun element) f g a b = a ∙ sym b
named_one known bytes most (is_message element) f g (own, found, named) (other, again, also) =
    named ∙ (λ i. moved element.place (known.one _ _ own other found again i)) ∙ sym also
named_one known bytes most (named_bundle element) f g a b = a ∙ sym b
named_one known bytes most (headed element) f g a b = a ∙ sym b
named_one known bytes most (shallow element) f g a b = a ∙ sym b
named_one known bytes most (in_time element) f g a b = a ∙ sym b
named_one known bytes most (sized place frame around) f g a b = a ∙ sym b

-- at most one first fault
pub one_fault : OfMessages → {bytes : List ℕ} {most : ℕ} {f g : Fault} → FirstFault bytes most f → FirstFault bytes most g → f ≡ g
one_fault known {bytes} {most} {f} {g} a b =
    named_one known bytes most b.want f g (subst (λ w. Names bytes most w f) (one_end a.reached (inl a.fails) b.reached (inl b.fails)) a.named) b.named
