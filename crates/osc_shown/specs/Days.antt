-- The line before the first of a day.
use Rattle.std.specs.Prelude.{◌≡◌, ℕ, ◌%◌, List, ◌++◌, codes}
use Rattle.osc_shown.specs.declared.look.Look.{Look}
use Rattle.osc_shown.specs.Columns.{begun, ended}
use Rattle.osc_shown.specs.Times.{IsDate, day_of, weekday_text, zone_text}

-- the weekday, the date and the zone, faint where lines have colours
pub record AddsDay (look : Look) (moment : ℕ) (before after : List ℕ) : Type 0 where
  pub date : List ℕ
  pub dated : IsDate look.clock moment date
  pub line : after ≡ before ++ (begun look.colours 126 ++ codes "-- "
      ++ weekday_text (day_of look.clock moment % 7) ++ codes " " ++ date ++ codes ", "
      ++ zone_text look.clock ++ ended look.colours 126 ++ codes "\n")
