-- The faults that a message can have besides those of its atoms, each with its number and its
-- place.
use Rattle.std.specs.Prelude.{ℕ, ◌+◌}
use Rattle.osc_atoms.specs.declared.fault.Fault.{Fault}
use Rattle.osc_atoms.specs.declared.fault.TheConstants.Fault.{NO_TAGS, BRACKETS, LEFT_OVER}

-- a fault of the pattern that stands at a place: its own place is counted from there
abbrev pub of_pattern : ℕ → ℕ → ℕ → Fault
of_pattern at kind place = record { kind = kind; at = at + place }

-- a byte after the pattern that isn't a comma
abbrev pub no_tags : ℕ → Fault
no_tags at = record { kind = NO_TAGS; at = at }

-- an array bracket that closes nothing, or one that is never closed
abbrev pub brackets : ℕ → Fault
brackets at = record { kind = BRACKETS; at = at }

-- bytes after the last argument
abbrev pub left_over : ℕ → Fault
left_over at = record { kind = LEFT_OVER; at = at }
