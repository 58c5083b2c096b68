-- Faults, and steps after which there may be one.
use Rattle.std.specs.Prelude.{ℕ, List, ◌∷◌, Result, Ok, Err}
use Rattle.osc_cues.specs.declared.fault.Fault.{Fault}
use Rattle.osc_cues.specs.declared.fault.WordFault.{WordFault}

-- a fault at a place of a word
abbrev pub wrong_at : {X : Type 0} → ℕ → Fault → Result X WordFault
wrong_at at fault = Err (record { at = at; fault = fault })

-- something made of what is read, where nothing is wrong
abbrev pub made : {X Y E : Type 0} → (X → Y) → Result X E → Result Y E
made f (Ok value) = Ok (f value)
made f (Err error) = Err error

-- a byte before others
abbrev pub before : {E : Type 0} → ℕ → Result (List ℕ) E → Result (List ℕ) E
before byte read = made (λ bytes. byte ∷ bytes) read
