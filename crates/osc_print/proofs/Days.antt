-- The date of a day and of a second is the one that the calendar gives.
use Rattle.std.proofs.Common.{◌≡◌, ◌∙◌, ℕ, zero, suc, ◌+◌, ◌-◌, ◌*◌, ◌/◌, ◌%◌, ◌<◌, ◌≤◌, ◌^◌, Bool, true, false, cond, nat_lt, [], ◌∷◌, ◌++◌, refl, ap, arith}
use Rattle.std.proofs.Common.{pos, ◌-ℤ◌, ◌*ℤ◌, None}
use Rattle.std.proofs.lemmas.Bool.{ltb-false, ltb-true}
use Rattle.jiff_core.specs.Calendar.{days_in_year, days_in_month, day_count}
use Rattle.jiff_core.specs.Date.{epoch_day}
use Rattle.jiff_core.specs.DateTime.{civil_nanos}
use Rattle.jiff_core.specs.Time.{time_nanos}
use Rattle.jiff_core.specs.declared.civil.date.Date.{Date}
use Rattle.jiff_core.specs.declared.civil.time.Time.{Time}
use Rattle.jiff_core.specs.declared.civil.datetime.DateTime.{DateTime}
use Rattle.jiff_core.proofs.CalendarLemmas.{day_count-day, day_count-next_month, day_count-next_year, day_count-last_of_year, days_from_civil-day_count}
use Rattle.jiff_core.proofs.DateLemmas.{epoch_day_injective}
use Rattle.jiff_core.proofs.DateTimeLemmas.{civil_nanos-parts, civil_nanos_injective, time_nanos_injective}
use Rattle.jiff_core.proofs.MarchLemmas.{day_count-early}
use Rattle.jiff_core.proofs.SignedLemmas.{signed_arith}
use Rattle.jiff_fmt.specs.Text as text
use Rattle.osc_print.specs.Dates.{year_of, month_of, year_at, month_at, day_text, clock_text, date_text}

day_1900 : day_count (pos 1900) 1 1 ≡ 4346386
day_1900 = day_count-early (pos 1900) 11899 1 1 refl (omega arith) (omega arith) (omega arith)

day_2037 : day_count (pos 2037) 1 1 ≡ 4396425
day_2037 = day_count-early (pos 2037) 12036 1 1 refl (omega arith) (omega arith) (omega arith)

next_year : (year : ℕ) → day_count (pos (year + 1)) 1 1 ≡ day_count (pos year) 1 1 + days_in_year (pos year)
next_year year = day_count-next_year (pos year) (pos (year + 1)) (omega (arith, signed_arith)) (omega (arith, signed_arith))

record InYear (year more day : ℕ) (r : ℕ × ℕ) : Type 0 where
  low : year ≤ r.0
  high : r.0 ≤ year + more
  same : day_count (pos r.0) 1 1 + r.1 ≡ day_count (pos year) 1 1 + day
  within : r.1 < days_in_year (pos r.0)

year_found : (more year day : ℕ) → day_count (pos year) 1 1 + day < day_count (pos (year + more + 1)) 1 1 → InYear year more day (year_of more year day)
unfolding year_of
year_found zero year day lt =
    let here : year + 0 + 1 ≡ year + 1 = omega arith in
    let last = ap (λ (n : ℕ). day_count (pos n) 1 1) here in
    record { low = omega arith; high = omega arith; same = refl; within = omega (arith, next_year year, last) }
year_found (suc more) year day lt = go (nat_lt day (days_in_year (pos year))) refl (year_found more (suc year))
  where
    go : (b : Bool) → nat_lt day (days_in_year (pos year)) ≡ b
        → ((left : ℕ) → day_count (pos (suc year)) 1 1 + left < day_count (pos (suc year + more + 1)) 1 1
        → InYear (suc year) more left (year_of more (suc year) left))
        → InYear year (suc more) day (cond b (year, day) (year_of more (suc year) (day - days_in_year (pos year))))
    go true is later = record { low = omega arith; high = omega arith; same = refl; within = ltb-true day (days_in_year (pos year)) is }
    go false is later =
        let from : suc year + more + 1 ≡ year + suc more + 1 = omega arith in
        let one : suc year ≡ year + 1 = omega arith in
        let end = ap (λ (n : ℕ). day_count (pos n) 1 1) from in
        let start = ap (λ (n : ℕ). day_count (pos n) 1 1) one in
        let past : days_in_year (pos year) ≤ day = ltb-false day (days_in_year (pos year)) is in
        let found = later (day - days_in_year (pos year)) (omega (arith, next_year year, end, start)) in
        record {
          low = omega (arith, found.low);
          high = omega (arith, found.high);
          same = omega (arith, found.same, next_year year, start);
          within =
              found.within;
        }

record InMonth (year month more day : ℕ) (r : ℕ × ℕ) : Type 0 where
  low : month ≤ r.0
  high : r.0 ≤ month + more
  same : day_count (pos year) r.0 1 + r.1 ≡ day_count (pos year) month 1 + day
  within : r.1 < days_in_month (pos year) r.0

next_month : (year month : ℕ) → 1 ≤ month → day_count (pos year) (suc month) 1 ≡ day_count (pos year) month 1 + days_in_month (pos year) month
next_month year month le =
    let one : suc month ≡ month + 1 = omega arith in
    ap (λ (n : ℕ). day_count (pos year) n 1) one ∙ day_count-next_month (pos year) month le

month_found : (year more month day : ℕ) → 1 ≤ month → month + more ≡ 12 → day_count (pos year) month 1 + day < day_count (pos year) 12 1 + 31
    → InMonth year month more day (month_of year more month day)
unfolding month_of
month_found year zero month day le twelve lt =
    let is : month ≡ 12 = omega arith in
    let long : days_in_month (pos year) month ≡ 31 = ap (days_in_month (pos year)) is in
    let here = ap (λ (n : ℕ). day_count (pos year) n 1) is in
    record { low = omega arith; high = omega arith; same = refl; within = omega (arith, long, here) }
month_found year (suc more) month day le twelve lt = go (nat_lt day (days_in_month (pos year) month)) refl (month_found year more (suc month))
  where
    go : (b : Bool) → nat_lt day (days_in_month (pos year) month) ≡ b
        → ((left : ℕ) → 1 ≤ suc month → suc month + more ≡ 12 → day_count (pos year) (suc month) 1 + left < day_count (pos year) 12 1 + 31
        → InMonth year (suc month) more left (month_of year more (suc month) left))
        → InMonth year month (suc more) day (cond b (month, day) (month_of year more (suc month) (day - days_in_month (pos year) month)))
    go true is later = record { low = omega arith; high = omega arith; same = refl; within = ltb-true day (days_in_month (pos year) month) is }
    go false is later =
        let past : days_in_month (pos year) month ≤ day = ltb-false day (days_in_month (pos year) month) is in
        let found = later (day - days_in_month (pos year) month) (omega arith) (omega arith) (omega (arith, next_month year month le)) in
        record {
          low = omega (arith, found.low);
          high = omega (arith, found.high);
          same = omega (arith, found.same, next_month year month le);
          within =
              found.within;
        }

record OnDay (day : ℕ) : Type 0 where
  date : Date
  placed : epoch_day date ≡ pos day -ℤ pos 25567
  shown : text.date_text date ≡ day_text day

the_day : (day : ℕ) → day ≤ 49710 → OnDay day
the_day day le =
    let y = year_at day in
    let m = month_at day in
    let year : InYear 1900 136 day (year_at day) = year_found 136 1900 day (omega (arith, day_1900, day_2037)) in
    let december : day_count (pos y.0) 12 1 + 31 ≡ day_count (pos y.0) 1 1 + days_in_year (pos y.0) =
    omega (arith, day_count-last_of_year (pos y.0), day_count-day (pos y.0) 12 1 31 (omega arith) (omega arith)) in
    let month : InMonth y.0 1 11 y.1 (month_at day) = month_found y.0 11 1 y.1 (omega arith) (omega arith) (omega (arith, december, year.within)) in
    let first = day_count-day (pos y.0) m.0 (m.1 + 1) 1 (omega arith) (omega arith) in
    record {
      date = record {
        year = pos y.0;
        month = m.0;
        day = m.1 + 1;
        year_in = omega (arith, signed_arith, year.low, year.high);
        month_in = omega (arith, month.low, month.high);
        day_in = omega (arith, month.within);
      };
      placed = omega (arith, signed_arith, days_from_civil-day_count (pos y.0) m.0 (m.1 + 1), first, month.same, year.same, day_1900);
      shown = refl {a = day_text day};
    }

record AtSecond (seconds : ℕ) : Type 0 where
  time : Time
  placed : time_nanos time ≡ seconds * 1000000000
  shown : text.time_text None time ≡ clock_text seconds

the_time : (seconds : ℕ) → seconds < 86400 → AtSecond seconds
the_time seconds lt = record {
  time = record {
    hour = seconds / 3600;
    minute = seconds / 60 % 60;
    second = seconds % 60;
    subsec_nanosecond = 0;
    hour_in = omega arith;
    minute_in = omega arith;
    second_in = omega arith;
    subsec_in = omega arith;
  };
  placed = omega arith;
  shown = refl;
}

same_date : (a b : Date) → epoch_day a ≡ epoch_day b → text.date_text a ≡ text.date_text b
same_date a b same =
    let parts = epoch_day_injective a b same in
    (λ i. text.year_text (parts.0 i) ++ 45 ∷ [] ++ text.pad2 (parts.1 i) ++ 45 ∷ [] ++ text.pad2 (parts.2 i))

same_time : (a b : Time) → time_nanos a ≡ time_nanos b → text.time_text None a ≡ text.time_text None b
same_time a b same =
    let parts = time_nanos_injective a b same in
    (λ i. text.pad2 (parts.0 i) ++ 58 ∷ text.pad2 (parts.1 i) ++ 58 ∷ text.pad2 (parts.2 i) ++ text.fraction_part None (parts.3 i))

pub the_date : (dt : DateTime) (seconds : ℕ) → seconds < 2 ^ 32
    → civil_nanos dt ≡ (pos seconds -ℤ pos 2208988800) *ℤ pos 1000000000
    → text.datetime_text false 84 None dt ++ 90 ∷ [] ≡ date_text seconds
the_date dt seconds lt is =
    let day = the_day (seconds / 86400) (omega arith) in
    let time = the_time (seconds % 86400) (omega arith) in
    let at : DateTime = record { date = day.date; time = time.time } in
    let same = civil_nanos_injective dt at (omega (arith, signed_arith, is, civil_nanos-parts at, day.placed, time.placed)) in
    (λ i. (same_date dt.date day.date same.0 i ++ 84 ∷ same_time dt.time time.time same.1 i) ++ 90 ∷ [])
    ∙ (λ i. (day.shown i ++ 84 ∷ time.shown i) ++ 90 ∷ [])
