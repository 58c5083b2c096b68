-- A want that stands has one next want.
use Rattle.std.proofs.Common.{◌≡◌, ℕ, ◌+◌, List, [], ◌∷◌, length, drop, Result, Ok, sym, ◌∙◌, ap, inl, inr}
use Rattle.osc_atoms.specs.declared.fault.Fault.{Fault}
use Rattle.osc_atoms.specs.Atoms.{string}
use Rattle.osc_atoms.specs.Standing.{StartsWithString}
use Rattle.osc_atoms.proofs.Strings.{string_again}
use Rattle.osc_atoms.proofs.Outcomes.{ok_is}
use Rattle.osc_message.specs.Messages.{Argument, tag_of, atom_of, tag_string}
use Rattle.osc_message.specs.Wants.{Want, some_byte, within, fourfold, slash, pattern, lawful, comma, tag_text, brackets_balance, arguments, done, after_tags}
use Rattle.osc_message.specs.Wants.{Leads, StartsWithArgument}
use Rattle.osc_message.specs.ArgumentReading.{argument_read}
use Rattle.osc_message.proofs.ArgumentAtoms.{argument_again}
use Rattle.osc_message.proofs.Steps.{empty_not}

text_is : (bytes : List ℕ) (at : ℕ) (one other : List ℕ) → StartsWithString bytes at one → StartsWithString bytes at other → one ≡ other
text_is bytes at one other a b = first_is one other _ _ (sym (string_again bytes at one a) ∙ string_again bytes at other b) where
  first_is : (x y : List ℕ) (m n : ℕ) → ◌≡◌ {A = Result (List ℕ × ℕ) Fault} (Ok (x, m)) (Ok (y, n)) → x ≡ y
  first_is x y m n e = ap (λ (p : List ℕ × ℕ). p.0) (ok_is (x, m) (y, n) e)

tail_is : (x : ℕ) (xs ys : List ℕ) → x ∷ xs ≡ x ∷ ys → xs ≡ ys
tail_is x xs ys e = cc

argument_is : (bytes : List ℕ) (tag at : ℕ) (one other : Argument) → tag_of one ≡ tag → tag_of other ≡ tag → StartsWithArgument bytes at one
    → StartsWithArgument bytes at other → one ≡ other
argument_is bytes tag at one other p q a b =
    first_is one other _ _
    (sym (ap (λ (t : ℕ). argument_read t bytes at) (sym p) ∙ argument_again bytes at one a) ∙ ap (λ (t : ℕ). argument_read t bytes at) (sym q)
    ∙ argument_again bytes at other b)
  where
    first_is : (x y : Argument) (m n : ℕ) → ◌≡◌ {A = Result (Argument × ℕ) Fault} (Ok (x, m)) (Ok (y, n)) → x ≡ y
    first_is x y m n e = ap (λ (p : Argument × ℕ). p.0) (ok_is (x, m) (y, n) e)

pub lead_on : (bytes : List ℕ) (want next other : Want) → Leads bytes want next → Leads bytes want other → next ≡ other
lead_on bytes (some_byte most) next other a b = a.1 ∙ sym b.1
lead_on bytes (within most) next other a b = a.1 ∙ sym b.1
lead_on bytes fourfold next other a b = a.1 ∙ sym b.1
lead_on bytes (slash at) next other a b = a.2 ∙ sym b.2
lead_on bytes (pattern at) next other a b = a.2 ∙ ap (λ (t : List ℕ). lawful at t (at + length (string t))) (text_is bytes at a.0 b.0 a.1 b.1) ∙ sym b.2
lead_on bytes (lawful at text end) next other a b = a.1 ∙ sym b.1
lead_on bytes (comma at) next other (inl a) (inl b) = a.1 ∙ sym b.1
lead_on bytes (comma at) next other (inl a) (inr b) = absurd (empty_not 44 b.0 (drop at bytes) a.0 b.1)
lead_on bytes (comma at) next other (inr a) (inl b) = absurd (empty_not 44 a.0 (drop at bytes) b.0 a.1)
lead_on bytes (comma at) next other (inr a) (inr b) = a.2 ∙ sym b.2
lead_on bytes (tag_text at) next other a b =
    a.2 ∙ ap (λ (t : List ℕ). after_tags (at + 1) t (at + length (tag_string t))) (tail_is 44 a.0 b.0 (text_is bytes at (44 ∷ a.0) (44 ∷ b.0) a.1 b.1))
    ∙ sym b.2
lead_on bytes (brackets_balance place tags at) next other a b = a.1 ∙ sym b.1
lead_on bytes (arguments [] at) next other a b = a.1 ∙ sym b.1
lead_on bytes (arguments (tag ∷ tags) at) next other a b =
    a.3 ∙ ap (λ (x : Argument). arguments tags (at + length (atom_of x))) (argument_is bytes tag at a.0 b.0 a.1 b.1 a.2 b.2) ∙ sym b.3
lead_on bytes done next other a b = absurd a
