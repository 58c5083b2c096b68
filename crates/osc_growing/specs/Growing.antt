-- A recording that is written while it grows.
use Rattle.std.specs.Prelude.{◌≤◌, ℕ, List, length, take, Option, Some, None}
use Rattle.osc_ends.specs.Sinks.{SinkChange, GainsAll, GainsPart}
use Rattle.osc_model.specs.Limits.{Limits}
use Rattle.osc_model.specs.Recordings.{record_text}
use Rattle.osc_turn.specs.declared.view.View.{View}
use Rattle.osc_live.specs.Seen.{history_of}
use Rattle.osc_growing.specs.declared.growth.Growth.{Growth}
use Rattle.osc_growing.specs.declared.growth.Growth.TheVariants.{Written, Failed, NoMemory}

-- the bytes of the recording of all that is seen
unfoldable pub recorded : Limits → View → List ℕ
recorded caps view = record_text caps (history_of view)

-- A sink has gained a front of a recording, of so many bytes; or it failed, after some front. Out
-- of memory, nothing is promised.
abbrev pub HasGrown : Growth → SinkChange → List ℕ → Type 0
HasGrown (Written at) sink recording =
    (at ≤ length recording) × GainsAll sink (take at recording)
HasGrown Failed sink recording = GainsPart sink recording
HasGrown NoMemory sink recording = Unit {0}

-- how far it was written by whoever has looked, if someone has
abbrev pub growth_of : Option Growth → Growth
growth_of None = Written 0
growth_of (Some growth) = growth

-- no more was written than a recording of so many bytes has
abbrev pub IsWithin : Growth → ℕ → Type 0
IsWithin (Written at) size = at ≤ size
IsWithin Failed size = Unit {0}
IsWithin NoMemory size = Unit {0}
