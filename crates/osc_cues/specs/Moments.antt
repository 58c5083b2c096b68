-- The words of moments, read. A moment is counted from 1900 in billionths of a time tag's unit, in
-- which both a time tag and a nanosecond are whole.
use Rattle.std.specs.Prelude.{ℕ, ◌<◌, ◌+◌, ◌-◌, ◌*◌, ◌/◌, ◌^◌, ◌==◌, ◌&&◌, Bool, true, false}
use Rattle.std.specs.Prelude.{nat_lt, nat_le, nat_eq, if◌then◌else◌, List, length, drop}
use Rattle.std.specs.Prelude.{codes, bytes_eq, Option, Some, None, option_map, option_and_then}
use Rattle.std.specs.Prelude.{Result, Ok, Err, ℤ, pos, neg_ℤ, ◌+ℤ◌, ◌-ℤ◌, ◌*ℤ◌, int_lt}
use Rattle.std.specs.Prelude.{unsigned_abs, is_none}
use Rattle.std.specs.List.{starts_with}
use Rattle.jiff_core.specs.Date.{epoch_day}
use Rattle.jiff_core.specs.Calendar.{days_in_month, days_from_civil}
use Rattle.osc_cues.specs.declared.fault.Fault.{Fault}
use Rattle.osc_cues.specs.declared.fault.Fault.TheVariants.{NotMoment, NotTime, ZoneAlone, NotDay}
use Rattle.osc_cues.specs.declared.fault.Fault.TheVariants.{EarlyDay, PastTags, NoTempo, NotBeat}
use Rattle.osc_cues.specs.declared.told.Day.{Day}
use Rattle.osc_cues.specs.declared.told.Zone.{Zone}
use Rattle.osc_cues.specs.declared.told.Zone.TheVariants.{Local, Ahead, Behind}
use Rattle.osc_cues.specs.declared.told.ClockTime.{ClockTime}
use Rattle.osc_cues.specs.declared.told.Told.{Told}
use Rattle.osc_cues.specs.declared.told.Told.TheVariants.{Now, Tag, After, Beat, Clock}
use Rattle.osc_cues.specs.declared.setting.Setting.{Setting}
use Rattle.osc_cues.specs.declared.setting.Tempo.{Tempo}
use Rattle.osc_cues.specs.Numbers.{sixteen_read}
use Rattle.osc_cues.specs.Cuts.{byte_cut, digits_cut, number_cut, fraction_cut}

-- Forms.

-- a whole number and a fraction of it in billionths, where nothing follows
abbrev pub billionths : ℕ → ℕ → List ℕ → Option ℕ
billionths whole part rest = if length rest == 0 then Some (whole * 10 ^ 9 + part) else None

-- a number with up to 9 digits after its point, in billionths
abbrev pub decimal_told : ℕ → List ℕ → Option ℕ
decimal_told most text =
    option_and_then (λ whole.
    option_and_then (λ part. billionths whole.0 part.0 part.1) (fraction_cut 9 whole.1))
    (number_cut most text)

-- `+0.625`
abbrev pub after_told : List ℕ → Option Told
after_told word =
    if starts_with nat_eq word (codes "+")
    then option_map (λ nanos. After nanos) (decimal_told 9 (drop 1 word)) else None

-- `5|2.5`
abbrev pub beat_told : List ℕ → Option Told
beat_told word =
    option_and_then (λ bar.
    option_and_then (λ rest.
    option_map (λ beat. Beat bar.0 beat) (decimal_told 3 rest)) (byte_cut 124 bar.1))
    (number_cut 4 word)

-- `2026-11-30T`, and what follows it
abbrev pub day_cut : List ℕ → Option (Day × List ℕ)
day_cut word =
    option_and_then (λ year.
    option_and_then (λ to_month.
    option_and_then (λ month.
    option_and_then (λ to_day.
    option_and_then (λ day.
    option_map (λ rest. (record { year = year.0; month = month.0; day = day.0 }, rest))
    (byte_cut 84 day.1)) (digits_cut 2 to_day)) (byte_cut 45 month.1)) (digits_cut 2 to_month))
    (byte_cut 45 year.1)) (digits_cut 4 word)

-- a colon and minutes
abbrev pub minute_cut : List ℕ → Option (ℕ × List ℕ)
minute_cut text = option_and_then (digits_cut 2) (byte_cut 58 text)

-- hours and minutes as seconds, where nothing follows
abbrev pub seconds_of : ℕ → ℕ → List ℕ → Option ℕ
seconds_of hour minute rest =
    if length rest == 0 then Some (hour * 3600 + minute * 60) else None

-- `01:00`
abbrev pub ahead_told : List ℕ → Option ℕ
ahead_told text =
    option_and_then (λ hour.
    option_and_then (λ minute. seconds_of hour.0 minute.0 minute.1) (minute_cut hour.1))
    (digits_cut 2 text)

-- nothing, `Z`, or `+01:00`
abbrev pub zone_told : List ℕ → Option Zone
zone_told text =
    if length text == 0 then Some Local else
    if bytes_eq text (codes "Z") then Some (Ahead 0) else
    if starts_with nat_eq text (codes "+")
    then option_map (λ seconds. Ahead seconds) (ahead_told (drop 1 text)) else
    if starts_with nat_eq text (codes "-")
    then option_map (λ seconds. Behind seconds) (ahead_told (drop 1 text)) else None

-- a time and its zone
abbrev pub zoned : ClockTime → List ℕ → Option Told
zoned clock text = option_map (λ zone. Clock (record clock { zone = zone })) (zone_told text)

-- seconds, with their billionths, and a zone
abbrev pub second_told : ClockTime → List ℕ → Option Told
second_told clock text =
    option_and_then (λ second.
    option_and_then
    (λ part. zoned (record clock { second = second.0; nanos = part.0 }) part.1)
    (fraction_cut 9 second.1)) (digits_cut 2 text)

abbrev pub after_minute : ClockTime → List ℕ → Option Told
after_minute clock text =
    if starts_with nat_eq text (codes ":") then second_told clock (drop 1 text)
    else zoned clock text

-- the start of a minute
abbrev pub minute_at : Option Day → ℕ → ℕ → ClockTime
minute_at day hour minute =
    record {
      day = day;
      hour = hour;
      minute = minute;
      second = 0;
      nanos = 0;
      zone = Local;
    }

-- a time of a day
abbrev pub time_told : Option Day → List ℕ → Option Told
time_told day text =
    option_and_then (λ hour.
    option_and_then (λ minute. after_minute (minute_at day hour.0 minute.0) minute.1)
    (minute_cut hour.1)) (number_cut 2 text)

abbrev pub clock_from : List ℕ → Option (Day × List ℕ) → Option Told
clock_from word None = time_told None word
clock_from word (Some cut) = time_told (Some cut.0) cut.1

abbrev pub clock_told : List ℕ → Option Told
clock_told word = clock_from word (day_cut word)

-- the first that is something
abbrev pub or_told : Option Told → Option Told → Option Told
or_told (Some told) other = Some told
or_told None other = other

-- what a word tells that is neither `now` nor a time tag
abbrev pub time_of : List ℕ → Option Told
time_of word = or_told (after_told word) (or_told (beat_told word) (clock_told word))

-- what the word of a moment tells
abbrev pub told_of : List ℕ → Option Told
told_of word =
    if bytes_eq word (codes "now") then Some Now else
    or_told (option_map (λ tag. Tag tag) (sixteen_read word)) (time_of word)

-- Moments.

-- the moment of a time tag
abbrev pub moment_at : ℕ → ℕ
moment_at tag = tag * 10 ^ 9

-- the nearest time tag
abbrev pub tag_of : ℕ → ℕ
tag_of moment = (moment + 500_000_000) / 10 ^ 9

-- the moment after so many nanoseconds
abbrev pub after : ℕ → ℕ → ℕ
after moment nanos = moment + nanos * 2 ^ 32

-- a moment whose nearest time tag has 64 bits
abbrev pub IsMoment : ℕ → Type 0
IsMoment moment = moment + 500_000_000 < 2 ^ 64 * 10 ^ 9

-- a tempo whose first beat is such a moment
pub record IsTempo (tempo : Tempo) : Type 0 where
  pub origin : IsMoment tempo.origin
  pub some : 0 < tempo.pace
  pub few : tempo.meter < 100

-- a moment that has a time tag
abbrev pub kept : ℕ → Result ℕ Fault
kept moment = if nat_lt (tag_of moment) (2 ^ 64) then Ok moment else Err PastTags

-- the moment of the line before, or else now
abbrev pub last_of : Setting → Option ℕ → ℕ
last_of setting None = moment_at setting.now
last_of setting (Some moment) = moment

-- the beats of so many bars and beats more, in billionths, to the nearest nanosecond
abbrev pub nanos_of : Tempo → ℕ → ℕ → ℕ
nanos_of tempo bar beat =
    (((bar - 1) * tempo.meter * 10 ^ 9 + (beat - 10 ^ 9)) * 60_000 + tempo.pace / 2) / tempo.pace

-- a beat of a bar that has so many
abbrev pub is_beat : ℕ → ℕ → ℕ → Bool
is_beat meter bar beat =
    nat_lt 0 bar && nat_le (10 ^ 9) beat && nat_lt beat ((meter + 1) * 10 ^ 9)

abbrev pub beat_moment : Option Tempo → ℕ → ℕ → Result ℕ Fault
beat_moment None bar beat = Err NoTempo
beat_moment (Some tempo) bar beat =
    if is_beat tempo.meter bar beat then kept (after tempo.origin (nanos_of tempo bar beat))
    else Err (NotBeat tempo.meter)

-- a day of the calendar
abbrev pub is_day : Day → Bool
is_day date =
    nat_le date.year 9999 && nat_le 1 date.month && nat_le date.month 12 && nat_le 1 date.day
    && nat_le date.day (days_in_month (pos date.year) date.month)

-- the day of a time, counted from 1970
abbrev pub day_number : Setting → Option Day → Result ℤ Fault
day_number setting None = Ok (epoch_day setting.date)
day_number setting (Some date) =
    if is_day date then Ok (days_from_civil (pos date.year) date.month date.day) else Err NotDay

-- how far the clock is ahead, in seconds
abbrev pub ahead : Setting → Zone → ℤ
ahead setting Local = setting.offset.seconds
ahead setting (Ahead seconds) = pos seconds
ahead setting (Behind seconds) = neg_ℤ (pos seconds)

-- the seconds from the start of 1900, which is 25,567 days before that of 1970, to that of a day
abbrev pub day_seconds : ℤ → ℤ
day_seconds day = (day +ℤ pos 25_567) *ℤ pos 86_400

-- from the start of a day to a time
abbrev pub time_seconds : ClockTime → ℕ
time_seconds clock = clock.hour * 3600 + clock.minute * 60 + clock.second

-- the seconds since 1900
abbrev pub seconds_since : Setting → ClockTime → ℤ → ℤ
seconds_since setting clock day =
    (day_seconds day +ℤ pos (time_seconds clock)) -ℤ ahead setting clock.zone

-- so many seconds since 1900, and nanoseconds
abbrev pub moment_since : ℤ → ℕ → Result ℕ Fault
moment_since seconds nanos =
    if int_lt seconds (pos 0) then Err EarlyDay
    else kept ((unsigned_abs seconds * 10 ^ 9 + nanos) * 2 ^ 32)

abbrev pub moment_on : Setting → ClockTime → Result ℤ Fault → Result ℕ Fault
moment_on setting clock (Err fault) = Err fault
moment_on setting clock (Ok day) = moment_since (seconds_since setting clock day) clock.nanos

abbrev pub has_zone : Zone → Bool
has_zone Local = false
has_zone (Ahead seconds) = true
has_zone (Behind seconds) = true

-- a zone, and no day
abbrev pub is_zone_alone : ClockTime → Bool
is_zone_alone clock = has_zone clock.zone && is_none clock.day

abbrev pub is_time : ClockTime → Bool
is_time clock = nat_lt clock.hour 24 && nat_lt clock.minute 60 && nat_lt clock.second 60

abbrev pub clock_moment : Setting → ClockTime → Result ℕ Fault
clock_moment setting clock =
    if is_time clock
    then (if is_zone_alone clock then Err ZoneAlone
    else moment_on setting clock (day_number setting clock.day))
    else Err NotTime

-- the moment that is told
abbrev pub moment_told : Setting → Option ℕ → Option Tempo → Told → Result ℕ Fault
moment_told setting before tempo Now = Ok (moment_at setting.now)
moment_told setting before tempo (Tag tag) = Ok (moment_at tag)
moment_told setting before tempo (After nanos) = kept (after (last_of setting before) nanos)
moment_told setting before tempo (Beat bar beat) = beat_moment tempo bar beat
moment_told setting before tempo (Clock clock) = clock_moment setting clock

abbrev pub moment_from : Setting → Option ℕ → Option Tempo → Option Told → Result ℕ Fault
moment_from setting before tempo None = Err NotMoment
moment_from setting before tempo (Some told) = moment_told setting before tempo told

-- the moment of a word, after a line at that moment, by that tempo; or what is wrong with the word
abbrev pub moment_read : Setting → Option ℕ → Option Tempo → List ℕ → Result ℕ Fault
moment_read setting before tempo word = moment_from setting before tempo (told_of word)
