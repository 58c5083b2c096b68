-- What a carry is answered.
use Rattle.osc_script.specs.declared.script.TheConstants.{MAX_SCRIPT}
use Rattle.std.specs.Prelude.{◌≡◌, ⊤, ℕ, ◌<◌, ◌≤◌, List, ◌++◌, length, Result, Ok, Err}
use Rattle.osc_script.specs.declared.act.Act.{Act}
use Rattle.osc_script.specs.Written.{written}
use Rattle.osc_replay.specs.declared.fault.ReplayFault.{ReplayFault}
use Rattle.osc_replay.specs.declared.fault.ReplayFault.TheVariants as replay
use Rattle.osc_carry.specs.declared.fault.CarryFault.{CarryFault}
use Rattle.osc_carry.specs.declared.fault.CarryFault.TheVariants.{Malformed, Disagrees, TooLong}
use Rattle.osc_carry.specs.declared.fault.CarryFault.TheVariants.{NoMemory}

-- where the recording is malformed, this holds of the place
abbrev pub OnMalformed : {X : Type 0} → Result X CarryFault → (ℕ → Type 0) → Type 0
OnMalformed (Err (Malformed at)) holds = holds at
OnMalformed _ holds = Unit {0}

-- where an entry disagrees, this holds of its number, of the bytes that are kept, and of those that
-- the server computed
abbrev pub OnDisagrees : {X : Type 0} → Result X CarryFault
    → (ℕ → List ℕ → List ℕ → Type 0) → Type 0
OnDisagrees (Err (Disagrees entry kept computed)) holds = holds entry kept computed
OnDisagrees _ holds = Unit {0}

-- where the script is too long, this holds
abbrev pub OnTooLong : {X : Type 0} → Result X CarryFault → Type 0 → Type 0
OnTooLong (Err TooLong) holds = holds
OnTooLong _ holds = Unit {0}

-- the bytes of the script are these, where they are as many as a script may have; it is too long,
-- where they are more; or memory ran out
abbrev pub IsScriptUnlessShort : {X : Type 0} → Result X CarryFault → (X → List ℕ) → List ℕ
    → Type 0
IsScriptUnlessShort (Ok script) bytes expected =
    (bytes script ≡ expected) × (length (bytes script) ≤ MAX_SCRIPT)
IsScriptUnlessShort (Err TooLong) bytes expected = MAX_SCRIPT < length expected
IsScriptUnlessShort (Err NoMemory) bytes expected = Unit {0}
IsScriptUnlessShort (Err (Malformed at)) bytes expected = ⊥
IsScriptUnlessShort (Err (Disagrees entry kept computed)) bytes expected = ⊥

-- a replay's refusal, as one of a carry
abbrev pub refused_as : ReplayFault → CarryFault
refused_as (replay.Malformed at) = Malformed at
refused_as (replay.Disagrees entry kept computed) = Disagrees entry kept computed
refused_as replay.NoMemory = NoMemory

-- Inside the crate: the lines of acts were added, and the script isn't too long; it is too long
-- with them; or memory ran out.
abbrev pub Adds : Result ⊤ CarryFault → List ℕ → List Act → List ℕ → Type 0
Adds (Ok _) old acts new = (new ≡ old ++ written acts) × (length new ≤ MAX_SCRIPT)
Adds (Err TooLong) old acts new = MAX_SCRIPT < length (old ++ written acts)
Adds (Err NoMemory) old acts new = Unit {0}
Adds (Err (Malformed at)) old acts new = ⊥
Adds (Err (Disagrees entry kept computed)) old acts new = ⊥
