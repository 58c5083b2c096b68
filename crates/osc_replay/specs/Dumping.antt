-- What a dump is answered.
use Rattle.std.specs.Prelude.{◌≡◌, ℕ, List, Result, Ok, Err}
use Rattle.osc_replay.specs.declared.dump_text.DumpFault.{DumpFault}
use Rattle.osc_replay.specs.declared.dump_text.DumpFault.TheVariants.{Malformed, NoMemory}

-- where the recording is malformed, this holds of the place
abbrev pub OnUnformed : Result (List ℕ) DumpFault → (ℕ → Type 0) → Type 0
OnUnformed (Err (Malformed at)) holds = holds at
OnUnformed _ holds = Unit {0}

-- the text is this one, or memory ran out
abbrev pub IsDumpUnlessShort : Result (List ℕ) DumpFault → List ℕ → Type 0
IsDumpUnlessShort (Ok text) expected = text ≡ expected
IsDumpUnlessShort (Err NoMemory) expected = Unit {0}
IsDumpUnlessShort (Err _) expected = ⊥
