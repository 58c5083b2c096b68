-- The array brackets of arguments, as words of a line.
use Rattle.std.proofs.Common.{◌≡◌, ℕ, ◌+◌, ◌-◌, ◌==◌, Bool, true, false, cond, List, [], ◌∷◌, map, Option, Some, None, Result, Ok, Err, refl, sym, ap, subst, ◌∙◌}
use Rattle.std.proofs.lemmas.Bool.{cond-true, cond-false}
use Rattle.osc_atoms.specs.declared.fault.Fault.{Fault as ReadFault}
use Rattle.osc_message.specs.Faults.{brackets}
use Rattle.osc_message.specs.Messages.{Argument, tag_of}
use Rattle.osc_message.specs.Tags.{Balanced}
use Rattle.osc_message.specs.Reading.{brackets_read}
use Rattle.osc_message.proofs.ArrayBrackets.{balance_again}
use Rattle.osc_cues.specs.declared.fault.WordFault.{WordFault}
use Rattle.osc_cues.specs.declared.fault.Fault.TheVariants.{OpenBracket}
use Rattle.osc_cues.specs.Words.{word_at}
use Rattle.osc_cues.specs.Cues.{fault_at, bracketed, brackets_in, opened_at, fault_in, brackets_fault, unopened}
use Rattle.osc_shown_laws.proofs.Scans.{type_of, Span}
use Rattle.osc_shown_laws.proofs.Lines.{AreBrackets}

abbrev Brackets : Type 0
Brackets = type_of unopened

-- nothing is wrong with the brackets of these words
abbrev IsClear : List ℕ → List Span → Brackets → Type 0
IsClear line spans b = fault_in (brackets_in line b spans) (brackets_in line b spans).closing ≡ None

last_clear : (b : Brackets) (outer : ℕ) → b.closing ≡ None → brackets_read b.depth outer [] 0 ≡ Ok tt → fault_in b b.closing ≡ None
last_clear b outer clear read = ap (fault_in b) clear ∙ go (b.depth == 0) read where
  go : (t : Bool) → cond {A = Result (Unit {0}) ReadFault} t (Ok tt) (Err (brackets outer)) ≡ Ok tt
      → cond {A = Option WordFault} t None (Some (fault_at b.opened OpenBracket)) ≡ None
  go true read = refl
  go false read = absurd (cc)

shut : (line : List ℕ) (arguments : List Argument) (spans : List Span) (b : Brackets) (outer place : ℕ) → AreBrackets line arguments spans
    → b.closing ≡ None → brackets_read b.depth outer (map tag_of arguments) place ≡ Ok tt → IsClear line spans b
shut line [] [] b outer place are clear read = last_clear b outer clear read
shut line [] (one ∷ spans) b outer place are clear read = absurd are
shut line (argument ∷ arguments) [] b outer place are clear read = absurd are
shut line (argument ∷ arguments) (one ∷ spans) b outer place are clear read =
    go (tag_of argument == 91) (tag_of argument == 93) (b.depth == 0) refl refl refl
    (λ after out at closed more. shut line arguments spans after out at are.2 closed more) where
      Later : Type 0
      Later = (after : Brackets) (out at : ℕ) → after.closing ≡ None → brackets_read after.depth out (map tag_of arguments) at ≡ Ok tt
          → IsClear line spans after

      go : (s t u : Bool) → (tag_of argument == 91) ≡ s → (tag_of argument == 93) ≡ t → (b.depth == 0) ≡ u → Later
          → IsClear line spans (bracketed b one.from (word_at line one))
      go true t u first second third later =
          subst (IsClear line spans) (sym (cond-true _ _ _ (are.0 ∙ first)))
          (later (opened_at b one.from) (cond (b.depth == 0) place outer) (place + 1) clear (sym (cond-true _ _ _ first) ∙ read))
      go false true true first second third later = absurd (
          let wrong : brackets_read b.depth outer (map tag_of (argument ∷ arguments)) place ≡ Err (brackets place) =
          cond-false _ _ _ first ∙ cond-true _ _ _ second ∙ cond-true _ _ _ third in
          cc (wrong, read)
          )
      go false true false first second third later =
          subst (IsClear line spans) (sym (cond-false _ _ _ (are.0 ∙ first) ∙ cond-true _ _ _ (are.1 ∙ second) ∙ cond-false _ _ _ third))
          (later (record b { depth = b.depth - 1 }) outer (place + 1) clear
          (sym (cond-false _ _ _ first ∙ cond-true _ _ _ second ∙ cond-false _ _ _ third) ∙ read))
      go false false u first second third later =
          subst (IsClear line spans) (sym (cond-false _ _ _ (are.0 ∙ first) ∙ cond-false _ _ _ (are.1 ∙ second)))
          (later b outer (place + 1) clear (sym (cond-false _ _ _ first ∙ cond-false _ _ _ second) ∙ read))

pub no_fault : (line : List ℕ) (arguments : List Argument) (spans : List Span) → AreBrackets line arguments spans
    → Balanced (map tag_of arguments) → brackets_fault line spans ≡ None
no_fault line arguments spans are even = shut line arguments spans unopened 0 0 are refl (balance_again 0 (map tag_of arguments) even)
