-- What a replay and a check are answered.
use Rattle.std.specs.Prelude.{◌≡◌, ℕ, List, Result, Ok, Err}
use Rattle.osc_replay.specs.declared.fault.ReplayFault.{ReplayFault}
use Rattle.osc_replay.specs.declared.fault.ReplayFault.TheVariants.{Malformed, Disagrees, NoMemory}

-- where the recording is malformed, this holds of the place
abbrev pub OnMalformed : {X : Type 0} → Result X ReplayFault → (ℕ → Type 0) → Type 0
OnMalformed (Err (Malformed at)) holds = holds at
OnMalformed _ holds = Unit {0}

-- where an entry disagrees, this holds of its number, of the bytes that are kept, and of those that
-- the server computed
abbrev pub OnDisagrees : {X : Type 0} → Result X ReplayFault
    → (ℕ → List ℕ → List ℕ → Type 0) → Type 0
OnDisagrees (Err (Disagrees entry kept computed)) holds = holds entry kept computed
OnDisagrees _ holds = Unit {0}

-- the text is this one, or memory ran out
abbrev pub IsTextUnlessShort : Result (List ℕ) ReplayFault → List ℕ → Type 0
IsTextUnlessShort (Ok text) expected = text ≡ expected
IsTextUnlessShort (Err NoMemory) expected = Unit {0}
IsTextUnlessShort (Err _) expected = ⊥
