-- What comes of a past and a script, by what was read of them.
use Rattle.std.proofs.Common.{◌≡◌, ◌⊎◌, inl, inr, ℕ, List, [], Option, Some, None, Result, Ok, Err, refl, arith}
use Rattle.std.specs.Prelude.{IsErrAnd}
use Rattle.osc_script.specs.declared.fault.ScriptFault.{ScriptFault}
use Rattle.osc_script.specs.declared.line.Line.{Line}
use Rattle.osc_script.specs.declared.mode.Mode.TheVariants.{Lanes}
use Rattle.osc_script.specs.Scripts.{script_of}
use Rattle.osc_ends.specs.Judging.{IsChecked}
use Rattle.osc_ends.specs.Printing.{refusal_text}
use Rattle.osc_ends.specs.Sinks.{SinkChange, GainsUnless}
use Rattle.osc_top.specs.Taken.{OfInputs, TakesIn}

pub any_inputs : (past input : Option (List ℕ)) (P : List ℕ → List ℕ → Type 0) → ((bytes script : List ℕ) → P bytes script) → OfInputs past input P
any_inputs None None P holds = ([], [], tt, tt, holds [] [])
any_inputs None (Some script) P holds = ([], script, tt, refl, holds [] script)
any_inputs (Some bytes) None P holds = (bytes, [], refl, tt, holds bytes [])
any_inputs (Some bytes) (Some script) P holds = (bytes, script, refl, refl, holds bytes script)

-- what follows of them
pub both_so : (past input : Option (List ℕ)) (P Q : List ℕ → List ℕ → Type 0) → ((bytes script : List ℕ) → P bytes script → Q bytes script)
    → OfInputs past input P → OfInputs past input Q
both_so past input P Q so (bytes, script, past_is, input_is, holds) = (bytes, script, past_is, input_is, so bytes script holds)

-- the bytes of the first
pub past_of : (past input : Option (List ℕ)) (P Q : List ℕ → Type 0) → OfInputs past input (λ bytes script. P bytes × Q script)
    → (bytes : List ℕ) × P bytes
past_of past input P Q (bytes, script, past_is, input_is, holds) = (bytes, holds.0)

-- one of two was refused, or there was no memory
pub refused_or_short : (status : ℕ) → (status ≡ 1) ⊎ (status ≡ 3) → (status ≡ 1) ⊎ (status ≡ 3) ⊎ (status ≡ 4)
refused_or_short status (inl one) = inl one
refused_or_short status (inr three) = inr (inl three)

-- nothing was judged
pub unjudged : (bytes script : List ℕ) (out : SinkChange) (status : ℕ) → (status ≡ 3) ⊎ (status ≡ 4) → TakesIn (Err status) bytes script out
unjudged bytes script out status known = record {
  both = tt;
  refused = λ one. absurd (other known one);
  complete = λ lines past is one. other known one;
} where
  other : (status ≡ 3) ⊎ (status ≡ 4) → status ≡ 1 → ⊥
  other (inl three) one = omega (arith, three, one)
  other (inr four) one = omega (arith, four, one)

faultless : (read : Result (List Line) ScriptFault) (P : ScriptFault → Type 0) (lines : List Line) → IsErrAnd read P → read ≡ Ok lines → ⊥
faultless (Ok got) P lines and is = and
faultless (Err fault) P lines and is = absurd (cc)

-- a script was refused after a past that is one
pub script_judged : (bytes script : List ℕ) (out : SinkChange) (status : ℕ) (replay : List ℕ) → IsChecked replay bytes
    → (status ≡ 1 → IsErrAnd (script_of Lanes script) (λ fault. GainsUnless out (refusal_text fault))) → TakesIn (Err status) bytes script out
script_judged bytes script out status replay past refused = record {
  both = tt;
  refused = λ one. inr ((past.caps, past.history, past.recording_of), refused one);
  complete = λ lines lawful is one. faultless (script_of Lanes script) _ lines (refused one) is;
}
