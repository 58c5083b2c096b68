-- What a host reads of calls, and of a fader.
use Rattle.std.specs.Prelude.{◌≡◌, ℕ, ◌==◌, if◌then◌else◌, List, [], length, Option, Some, None}
use Rattle.std.specs.Prelude.{Contains}
use Rattle.std.specs.Int.{w32, from_be_bytes}
use Rattle.osc_model.specs.Heard.{Told}
use Rattle.osc_core.specs.Invoked.{Call}

-- the message of a call, where it is one of the method with this id, or else what was found before
abbrev pub later_message : ℕ → Option (List ℕ) → Call → Option (List ℕ)
later_message id found call = if call.id == id then Some call.message else found

-- The box with this id tells four bytes, which are this number. Or there is no number: the box, if
-- there is one, tells no byte.
abbrev pub TellsLevel : List ℕ → List Told → ℕ → Option ℕ → Type 0
TellsLevel ids boxes id (Some level) = (bytes : List ℕ) × (length bytes ≡ 4)
    × (level ≡ from_be_bytes w32 bytes)
    × Contains boxes (record { id = id; keep = record { most = 4; name = []; outlets = [] }; heard = Some bytes })
TellsLevel ids boxes id None = Contains ids id
    → Contains boxes (record { id = id; keep = record { most = 4; name = []; outlets = [] }; heard = Some [] })
