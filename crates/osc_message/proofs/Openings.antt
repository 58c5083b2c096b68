-- A pattern that is opened, and texts without a zero byte.
use Rattle.std.proofs.Common.{◌≡◌, ℕ, ◌<◌, ◌≤◌, ◌^◌, true, List, [], ◌∷◌, length, position, Option, Some, None, Result, Err, sym, ◌∙◌, ap, arith, le-leb}
use Rattle.std.specs.Prelude.{option_map}
use Rattle.std.proofs.lemmas.Bool.{cond-true, cond-false, lt-leb}
use Rattle.std.proofs.lemmas.List.{take_all}
use Rattle.std.proofs.lemmas.Option.{same_Some}
use Rattle.osc_atoms.specs.Atoms.{string, has_no_zero}
use Rattle.osc_atoms.specs.Reading.{is_zero}
use Rattle.osc_atoms.proofs.Positions.{not_found}
use Rattle.osc_atoms.proofs.Strings.{length-string}
use Rattle.osc_pattern.specs.declared.faults.PatternFault.{PatternFault}
use Rattle.osc_pattern.specs.Patterns.{IsPattern, pattern_fault}
use Rattle.osc_message.specs.declared.build_fault.BuildFault.{BuildFault}
use Rattle.osc_message.specs.declared.build_fault.BuildFault.TheVariants.{Pattern, HasNull, TooLong}
use Rattle.osc_message.specs.Messages.{Argument, text, symbol, atom_of, HasNoZero}
use Rattle.osc_message.specs.Building.{null_of, null_in, refused_null, open_refusal, IsKept}
use Rattle.osc_message.proofs.Buildings.{kept_of}

-- a short text in which no zero byte is found has none
text_nonzero : (bytes : List ℕ) → length (string bytes) ≤ 65504 → null_of bytes ≡ None → has_no_zero bytes ≡ true
text_nonzero bytes short none =
    not_found is_zero bytes (ap (position is_zero) (sym (take_all (2 ^ 32) bytes (omega (arith, length-string bytes)))) ∙ none)

pub argument_nonzero : (argument : Argument) → length (atom_of argument) ≤ 65504 → null_in argument ≡ None → HasNoZero argument
argument_nonzero (text bytes) short none = text_nonzero bytes short none
argument_nonzero (symbol bytes) short none = text_nonzero bytes short none
argument_nonzero _ short none = tt

-- what is refused where the pattern isn't too long
refused_next : (pattern : List ℕ) → length pattern ≤ 65000
    → open_refusal pattern ≡ refused_null (null_of pattern) (option_map (λ fault. Pattern fault) (pattern_fault pattern))
refused_next pattern short = cond-true _ _ _ (le-leb (length pattern) 65000 short)

pub open_long : (pattern : List ℕ) → 65000 < length pattern → open_refusal pattern ≡ Some TooLong
open_long pattern long = cond-false _ _ _ (lt-leb (length pattern) 65000 long)

pub open_null : (pattern : List ℕ) (at : ℕ) → length pattern ≤ 65000 → null_of pattern ≡ Some at → open_refusal pattern ≡ Some (HasNull at)
open_null pattern at short null =
    refused_next pattern short ∙ ap (λ (o : Option ℕ). refused_null o (option_map (λ fault. Pattern fault) (pattern_fault pattern))) null

pub open_pattern : (pattern : List ℕ) (o : Option PatternFault) → length pattern ≤ 65000 → null_of pattern ≡ None → pattern_fault pattern ≡ o
    → open_refusal pattern ≡ option_map (λ fault. Pattern fault) o
open_pattern pattern o short none fault =
    refused_next pattern short ∙ ap (λ (n : Option ℕ). refused_null n (option_map (λ fault. Pattern fault) (pattern_fault pattern))) none
    ∙ ap (option_map (λ fault. Pattern fault)) fault

-- one fault is refused
pub only : {X : Type 0} (pattern : List ℕ) (told fault : BuildFault) → open_refusal pattern ≡ Some told → open_refusal pattern ≡ Some fault
    → ◌≡◌ {A = Result X BuildFault} (Err told) (Err fault)
only pattern told fault a b = ap (λ (f : BuildFault). Err f) (same_Some told fault (sym a ∙ b))

pub none_refused : (pattern : List ℕ) (fault : BuildFault) → open_refusal pattern ≡ None → open_refusal pattern ≡ Some fault → ⊥
none_refused pattern fault a b = cc

-- a pattern alone is kept
pub opened : (pattern kept tags atoms : List ℕ) → kept ≡ pattern → tags ≡ 44 ∷ [] → atoms ≡ [] → IsPattern pattern → length pattern ≤ 65000
    → IsKept kept tags atoms
opened pattern kept tags atoms k t a lawful short =
    rw (k, t, a) (kept_of pattern [] lawful tt (λ i. omega arith) (omega (arith, length-string pattern)))
