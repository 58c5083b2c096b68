-- Lines of one moment, after the line of the day where it is another one.
use Rattle.std.specs.Prelude.{◌≡◌, ℕ, ◌==◌, Bool, true, false, not, ◌&&◌, List, [], ◌++◌, length}
use Rattle.std.specs.Prelude.{Option, Some, None}
use Rattle.osc_shown.specs.declared.wall_clock.WallClock.{WallClock}
use Rattle.osc_shown.specs.Days.{AddsDay}
use Rattle.osc_shown.specs.Times.{day_of}
use Rattle.osc_report.specs.declared.options.Options.{Options}
use Rattle.osc_report.specs.declared.span.Span.{Span}
use Rattle.osc_report.specs.Choices.{is_within}
use Rattle.osc_report.specs.Fronts.{is_relative}

-- no line has a time yet
abbrev pub no_span : Span
no_span = record { first = None; last = None }

-- lines were shown at a moment
abbrev pub shown_at : Span → ℕ → Span
shown_at span moment = record { first = span.first; last = Some moment }

-- a moment is on another day than the last one that was shown, or none was
abbrev pub is_new_day : WallClock → Option ℕ → ℕ → Bool
is_new_day clock None moment = true
is_new_day clock (Some last) moment = not (day_of clock last == day_of clock moment)

-- the line of a day stands before lines of a moment: where they are the first of it, and have the
-- time of day
abbrev pub begins_day : Options → Option ℕ → ℕ → Bool
begins_day options last moment =
    not (is_relative options) && is_new_day options.look.clock last moment

-- lines were added, after the line of a day where they begin one
pub record AddsDated (options : Options) (last : Option ℕ) (moment : ℕ)
    (lines before after : List ℕ) : Type 0 where
  pub same : begins_day options last moment ≡ false → after ≡ before ++ lines
  pub other : begins_day options last moment ≡ true
      → (mid : List ℕ) × AddsDay options.look moment before mid × (after ≡ mid ++ lines)

-- lines of a moment, unless none of that moment are shown
pub record IsDatedPage (options : Options) (span : Span) (moment : ℕ) (lines page : List ℕ)
    (after : Span) : Type 0 where
  pub left : is_within options moment ≡ false → (page ≡ []) × (after ≡ span)
  pub shown : is_within options moment ≡ true
      → AddsDated options span.last moment lines [] page × (after ≡ shown_at span moment)

-- lines of a moment; where nothing has ticked no day's line precedes them, and all are shown
abbrev pub IsPageAt : Options → Span → Option ℕ → List ℕ → List ℕ → Span → Type 0
IsPageAt options span None lines page after = (page ≡ lines) × (after ≡ span)
IsPageAt options span (Some moment) lines page after =
    IsDatedPage options span moment lines page after

-- the same, or nothing where there are no lines; and when the last line was shown then
pub record IsPage (options : Options) (span : Span) (moment : Option ℕ) (lines page : List ℕ)
    (after : Span) : Type 0 where
  pub none : (length lines == 0) ≡ true → (page ≡ []) × (after ≡ span)
  pub some : (length lines == 0) ≡ false → IsPageAt options span moment lines page after
