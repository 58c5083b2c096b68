-- Who comes by a door.
use Rattle.std.specs.Prelude.{ℕ, List, Option}
use Rattle.osc_door.specs.declared.door.Knock.{Knock}
use Rattle.osc_door.specs.Visitors.{IsFresh}

-- a visitor that comes has taken nothing yet
abbrev pub IsFreshComer : {V : Type 0} → (V → Option (List ℕ)) → Knock V → Type 0
IsFreshComer taken (Knock.Came visitor) = IsFresh (taken visitor)
IsFreshComer taken Knock.Nobody = Unit {0}
IsFreshComer taken Knock.Failed = Unit {0}
