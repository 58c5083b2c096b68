-- Dates, by seconds that are counted from the start of the year 1900, without leap seconds.
use Rattle.std.specs.Prelude.{ℕ, zero, suc, ◌+◌, ◌-◌, ◌/◌, ◌%◌, nat_lt, if◌then◌else◌, List, []}
use Rattle.std.specs.Prelude.{◌∷◌, ◌++◌, pos}
use Rattle.jiff_core.specs.Calendar.{days_in_year, days_in_month}
use Rattle.jiff_fmt.specs.Text.{pad2, pad4}

-- the year in which a day lies and its place in that year, by its place from the start of an
-- earlier year on, at most so many years before
unfoldable pub year_of : ℕ → ℕ → ℕ → ℕ × ℕ
year_of zero year day = (year, day)
year_of (suc more) year day =
    if nat_lt day (days_in_year (pos year)) then (year, day)
    else year_of more (suc year) (day - days_in_year (pos year))

-- the month in which a day of a year lies and its place in that month, the same way
unfoldable pub month_of : ℕ → ℕ → ℕ → ℕ → ℕ × ℕ
month_of year zero month day = (month, day)
month_of year (suc more) month day =
    if nat_lt day (days_in_month (pos year) month) then (month, day)
    else month_of year more (suc month) (day - days_in_month (pos year) month)

-- the year of a day that is counted from the first of January 1900, and its place in the year
abbrev pub year_at : ℕ → ℕ × ℕ
year_at day = year_of 136 1900 day

-- its month, and its place in the month
abbrev pub month_at : ℕ → ℕ × ℕ
month_at day = month_of (year_at day).0 11 1 (year_at day).1

-- as `1900-01-01`
abbrev pub day_text : ℕ → List ℕ
day_text day =
    pad4 (year_at day).0 ++ 45 ∷ (pad2 (month_at day).0 ++ 45 ∷ pad2 ((month_at day).1 + 1))

-- the seconds of a day, as `00:00:00`
abbrev pub clock_text : ℕ → List ℕ
clock_text seconds =
    pad2 (seconds / 3600) ++ 58 ∷ (pad2 (seconds / 60 % 60) ++ 58 ∷ pad2 (seconds % 60))

-- as `1900-01-01T00:00:00Z`
abbrev pub date_text : ℕ → List ℕ
date_text seconds = day_text (seconds / 86400) ++ 84 ∷ (clock_text (seconds % 86400) ++ 90 ∷ [])
