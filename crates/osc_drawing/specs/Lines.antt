-- Inside the crate: words that stand in lines.
use Rattle.std.specs.Prelude.{◌≡◌, ℕ, ◌-◌, ◌%◌, nat_lt, if◌then◌else◌, List, [], ◌++◌, length, take}
use Rattle.std.specs.Prelude.{drop, codes}
use Rattle.osc_shown.specs.declared.wall_clock.WallClock.{WallClock}
use Rattle.osc_shown.specs.Times.{IsDate, day_of, weekday_text, zone_text}

-- what stands in a line between two dashes and its end
abbrev pub inner : List ℕ → List ℕ
inner line = if nat_lt (length line) 4 then [] else take (length line - 1 - 3) (drop 3 line)

-- the weekday, the date and the zone
pub record IsDay (clock : WallClock) (moment : ℕ) (words : List ℕ) : Type 0 where
  pub date : List ℕ
  pub dated : IsDate clock moment date
  pub is : words ≡ weekday_text (day_of clock moment % 7) ++ codes " " ++ date ++ codes ", "
      ++ zone_text clock
