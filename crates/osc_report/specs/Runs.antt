-- What is told of lines that were gathered, and what is shown of an entry then.
use Rattle.std.specs.Prelude.{◌≡◌, ℕ, ◌==◌, ◌&&◌, Bool, true, false, if◌then◌else◌}
use Rattle.std.specs.Prelude.{List, [], ◌∷◌, ◌++◌, length, Option, Some, None}
use Rattle.osc_runs.specs.Gathering.{Gathered, Plain, Run, none, gather, goes_on}
use Rattle.osc_runs.specs.Telling.{is_many, row_text}
use Rattle.osc_shown.specs.declared.wall_clock.WallClock.{WallClock}
use Rattle.osc_shown.specs.Times.{day_of}
use Rattle.osc_report.specs.declared.options.Options.{Options}
use Rattle.osc_report.specs.declared.span.Span.{Span}
use Rattle.osc_report.specs.Choices.{is_named}
use Rattle.osc_report.specs.Pages.{no_span, IsPage}

-- How far a report is: when the first line was, and the last that was shown, and the lines that are
-- gathered, of which nothing is told yet.
pub record Progress : Type 0 where
  pub span : Span
  pub run : Run

abbrev pub no_progress : Progress
no_progress = record { span = no_span; run = none }

-- lines of an address, if they are shown
abbrev pub named_lines : Options → List ℕ → List ℕ → List ℕ
named_lines options address lines = if is_named options.only address then lines else []

-- lines of an address that are of one moment were added
abbrev pub AddsAt : Options → Span → ℕ → List ℕ → List ℕ → List ℕ → List ℕ → Span → Type 0
AddsAt options span moment address lines before after now =
    (page : List ℕ)
    × IsPage options span (Some moment) (named_lines options address lines) page now
    × (after ≡ before ++ page)

-- What is told of one address was added: the one line at the moment of its first, or up to two lines,
-- each at its own.
pub record AddsRow (options : Options) (span : Span) (row : Gathered) (before after : List ℕ)
    (now : Span) : Type 0 where
  pub many : is_many row ≡ true
      → AddsAt options span row.since row.address (row_text row) before after now
  pub few : is_many row ≡ false
      → (mid : List ℕ) × (between : Span)
      × AddsAt options span row.since row.address row.line before mid between
      × AddsAt options between row.till row.address row.second mid after now

-- What is told of what was gathered was added, of one address after another; and when the last line
-- was shown then.
abbrev pub AddsRows : Options → Span → List Gathered → List ℕ → List ℕ → Span → Type 0
AddsRows options span [] before after now = (after ≡ before) × (now ≡ span)
AddsRows options span (row ∷ rows) before after now =
    (mid : List ℕ) × (between : Span) × AddsRow options span row before mid between
    × AddsRows options between rows mid after now

-- a moment is on the day of the one before it
abbrev pub is_same_day : WallClock → Option ℕ → ℕ → Bool
is_same_day clock None moment = true
is_same_day clock (Some latest) moment = day_of clock latest == day_of clock moment

-- a line joins those that were gathered: soon after the last of them, and on the same day
abbrev pub joins : WallClock → Run → ℕ → Bool
joins clock run moment =
    goes_on run.latest moment && is_same_day clock run.latest moment

-- A line is gathered, after what is told of those before it where it doesn't join them.
pub record GathersPlain (options : Options) (old : Progress) (plain : Plain) (text : List ℕ)
    (span : Span) (run : Run) : Type 0 where
  pub joined : joins options.look.clock old.run plain.moment ≡ true
      → (text ≡ []) × (span ≡ old.span) × (run ≡ gather old.run plain)
  pub apart : joins options.look.clock old.run plain.moment ≡ false
      → AddsRows options old.span old.run.rows [] text span × (run ≡ gather none plain)

-- What was gathered is told, and then other lines of a moment.
pub record TellsThen (options : Options) (old : Progress) (moment : Option ℕ) (lines : List ℕ)
    (text : List ℕ) (span : Span) (run : Run) : Type 0 where
  pub told : List ℕ
  pub page : List ℕ
  pub mid : Span
  pub rows : AddsRows options old.span old.run.rows [] told mid
  pub others : IsPage options mid moment lines page span
  pub text_is : text ≡ told ++ page
  pub run_is : run ≡ none

-- The same, or nothing where an entry has no line, shown or left out.
pub record TellsOther (options : Options) (old : Progress) (moment : Option ℕ)
    (lines all : List ℕ) (text : List ℕ) (span : Span) (run : Run) : Type 0 where
  pub silent : (length all == 0) ≡ true → (text ≡ []) × (span ≡ old.span) × (run ≡ old.run)
  pub said : (length all == 0) ≡ false → TellsThen options old moment lines text span run

-- what is told at an entry that may be told with others, or not
abbrev pub TellsEntry : Options → Progress → Option ℕ → List ℕ → List ℕ → Option Plain → List ℕ
    → Span → Run → Type 0
TellsEntry options old moment lines all (Some plain) text span run =
    GathersPlain options old plain text span run
TellsEntry options old moment lines all None text span run =
    TellsOther options old moment lines all text span run
