-- Inside the crate: the first entry whose packet or address is unlawful.
use Rattle.std.specs.Prelude.{ℕ, if◌then◌else◌, List, [], ◌∷◌, Option, Some, None}
use Rattle.osc_record.specs.Reading.{Placed}
use Rattle.osc_replay.specs.Lawful.{is_lawful}

-- its place
abbrev pub first_unlawful_in : List Placed → Option ℕ
first_unlawful_in [] = None
first_unlawful_in (placed ∷ entries) =
    if is_lawful placed.entry.event then first_unlawful_in entries else Some placed.at
