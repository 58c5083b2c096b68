-- Moments, as a wall clock shows them. A moment is a time tag: seconds since the start of 1900 in
-- the upper 32 bits, and a fraction of one in the lower (OSC 1.0, "OSC Time Tags").
use Rattle.std.specs.Prelude.{◌≡◌, ℕ, ◌+◌, ◌-◌, ◌*◌, ◌/◌, ◌%◌, ◌^◌, ◌==◌, Bool}
use Rattle.std.specs.Prelude.{true, false, not, nat_lt, if◌then◌else◌, List, ◌++◌}
use Rattle.std.specs.Prelude.{Option, Some, None, codes, pos, ◌-ℤ◌}
use Rattle.std.specs.Fmt.{decimal}
use Rattle.jiff_core.specs.Date.{epoch_day}
use Rattle.jiff_core.specs.declared.civil.date.Date.{Date}
use Rattle.jiff_fmt.specs.Text.{date_text}
use Rattle.osc_shown.specs.declared.wall_clock.WallClock.{WallClock}
use Rattle.osc_shown.specs.Numbers.{two, three}

-- the milliseconds since the start of 1900, to the nearest
unfoldable pub millis_of : ℕ → ℕ
millis_of moment = (moment * 1000 + 2 ^ 31) / 2 ^ 32

-- the milliseconds that a wall clock shows, counted from the start of 1899-12-30
unfoldable pub shown_millis : WallClock → ℕ → ℕ
shown_millis clock moment = millis_of moment + clock.ahead * 1000

-- the day on which a moment falls, counted from 1899-12-30
abbrev pub day_of : WallClock → ℕ → ℕ
day_of clock moment = shown_millis clock moment / 86_400_000

-- seconds, as `20:15:03`, and on the next day again from `00:00:00`
abbrev pub clock_text : ℕ → List ℕ
clock_text seconds =
    two (seconds / 3600 % 24) ++ codes ":" ++ two (seconds / 60 % 60) ++ codes ":"
    ++ two (seconds % 60)

-- milliseconds, as `20:15:03.300`
abbrev pub day_time : ℕ → List ℕ
day_time millis = clock_text (millis / 1000) ++ codes "." ++ three millis

-- the time of day of a moment, as `20:15:03.300`
abbrev pub time_text : WallClock → ℕ → List ℕ
time_text clock moment = day_time (shown_millis clock moment)

-- milliseconds as seconds, as `1.120`
abbrev pub bare_seconds : ℕ → List ℕ
bare_seconds millis = decimal (millis / 1000) ++ codes "." ++ three millis

-- milliseconds as seconds, as `1.120 s`
abbrev pub seconds_text : ℕ → List ℕ
seconds_text millis = decimal (millis / 1000) ++ codes "." ++ three millis ++ codes " s"

-- how long it is from one moment to a later one
abbrev pub span_text : ℕ → ℕ → List ℕ
span_text from to = seconds_text (millis_of to - millis_of from)

-- the date on which a moment falls, as `2026-11-29`: 1970-01-01 is 25,569 days after 1899-12-30
abbrev pub IsDate : WallClock → ℕ → List ℕ → Type 0
IsDate clock moment said =
    (date : Date) × (epoch_day date ≡ pos (day_of clock moment) -ℤ pos 25_569)
    × (said ≡ date_text date)

-- the date was added
abbrev pub AddsDate : WallClock → ℕ → List ℕ → List ℕ → Type 0
AddsDate clock moment before after =
    (date : List ℕ) × IsDate clock moment date × (after ≡ before ++ date)

-- a moment falls on another day than the one from which it is seen
abbrev pub is_other_day : WallClock → Option ℕ → ℕ → Bool
is_other_day clock None tag = false
is_other_day clock (Some moment) tag = not (day_of clock moment == day_of clock tag)

-- the time of day, and the date before it if it falls on another day
pub record IsDated (clock : WallClock) (moment : Option ℕ) (tag : ℕ) (said : List ℕ) : Type 0 where
  pub today : is_other_day clock moment tag ≡ false → said ≡ time_text clock tag
  pub other : is_other_day clock moment tag ≡ true
      → (date : List ℕ) × IsDate clock tag date × (said ≡ date ++ codes " " ++ time_text clock tag)

-- this was added
abbrev pub AddsDated : WallClock → Option ℕ → ℕ → List ℕ → List ℕ → Type 0
AddsDated clock moment tag before after =
    (said : List ℕ) × IsDated clock moment tag said × (after ≡ before ++ said)

-- the days of the week, by their places from Saturday on
abbrev pub weekday_text : ℕ → List ℕ
weekday_text place =
    if place == 0 then codes "Saturday" else
    if place == 1 then codes "Sunday" else
    if place == 2 then codes "Monday" else
    if place == 3 then codes "Tuesday" else
    if place == 4 then codes "Wednesday" else
    if place == 5 then codes "Thursday" else codes "Friday"

-- hours and minutes of some seconds
abbrev pub hours_text : ℕ → List ℕ
hours_text seconds = two (seconds / 3600) ++ codes ":" ++ two (seconds / 60 % 60)

-- how far a clock is ahead of UTC, as `UTC`, `UTC+01:00` or `UTC-03:30`
abbrev pub zone_text : WallClock → List ℕ
zone_text clock =
    if nat_lt clock.ahead 172_800 then codes "UTC-" ++ hours_text (172_800 - clock.ahead) else
    if nat_lt 172_800 clock.ahead then codes "UTC+" ++ hours_text (clock.ahead - 172_800)
    else codes "UTC"
