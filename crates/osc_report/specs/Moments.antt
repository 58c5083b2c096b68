-- At which moment entries are shown.
use Rattle.std.specs.Prelude.{ℕ, ◌==◌, Bool, true, false, if◌then◌else◌, List, [], ◌∷◌, Option}
use Rattle.std.specs.Prelude.{Some, None}
use Rattle.osc_model.specs.Events.{Event, enrol, submit, add, remove, tick, release, Entry}
use Rattle.osc_story.specs.Standings.{Standing, seen}

-- ticks and releases end a stretch of entries
abbrev pub ends_stretch : Event → Bool
ends_stretch enrol = false
ends_stretch (submit packet) = false
ends_stretch (add address) = false
ends_stretch (remove address) = false
ends_stretch (tick now) = true
ends_stretch release = true

-- The moment of the first entry after what stands: the clock after the next tick or release, that
-- entry itself included, or after the last entry where there is none.
abbrev pub moment_of : Standing → List Entry → ℕ
moment_of standing [] = standing.clock
moment_of standing (entry ∷ rest) =
    if ends_stretch entry.event then (seen standing entry).clock
    else moment_of (seen standing entry) rest

-- a moment, unless nothing has ticked
abbrev pub shown_moment : ℕ → Option ℕ
shown_moment moment = if moment == 1 then None else Some moment
