-- Inside the crate: what the word of a moment tells is small.
use Rattle.std.specs.Prelude.{◌<◌, ◌^◌}
use Rattle.osc_cues.specs.declared.told.Zone.{Zone}
use Rattle.osc_cues.specs.declared.told.Zone.TheVariants.{Local, Ahead, Behind}
use Rattle.osc_cues.specs.declared.told.ClockTime.{ClockTime}
use Rattle.osc_cues.specs.declared.told.Told.{Told}
use Rattle.osc_cues.specs.declared.told.Told.TheVariants.{Now, Tag, After, Beat, Clock}

abbrev pub IsSmallZone : Zone → Type 0
IsSmallZone Local = Unit {0}
IsSmallZone (Ahead seconds) = seconds < 2 ^ 42
IsSmallZone (Behind seconds) = seconds < 2 ^ 42

abbrev pub IsSmallClock : ClockTime → Type 0
IsSmallClock clock = (clock.nanos < 10 ^ 18) × IsSmallZone clock.zone

abbrev pub IsSmall : Told → Type 0
IsSmall Now = Unit {0}
IsSmall (Tag tag) = tag < 2 ^ 64
IsSmall (After nanos) = nanos < 2 ^ 61
IsSmall (Beat bar beat) = (bar < 10 ^ 9) × (beat < 2 ^ 61)
IsSmall (Clock clock) = IsSmallClock clock
