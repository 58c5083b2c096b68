-- What is shown of entries, one after another.
use Rattle.std.specs.Prelude.{◌≡◌, ℕ, ◌==◌, Bool, true, false, if◌then◌else◌, List, []}
use Rattle.std.specs.Prelude.{◌∷◌, ◌++◌, length, Option, None, is_some}
use Rattle.osc_model.specs.declared.late.Late.{Late}
use Rattle.osc_model.specs.Events.{Entry}
use Rattle.osc_record.specs.Reading.{Placed}
use Rattle.osc_runs.specs.Gathering.{Plain}
use Rattle.osc_record.specs.Unread.{Remaining}
use Rattle.osc_story.specs.declared.disagreement.SeeFault.{SeeFault}
use Rattle.osc_story.specs.declared.disagreement.SeeFault.TheVariants as see
use Rattle.osc_story.specs.Standings.{Standing, opened, seen, seen_all, disagreement}
use Rattle.osc_story.specs.Standings.{AgreesAll}
use Rattle.osc_story.specs.Seen.{IsCause, text_of}
use Rattle.osc_report.specs.declared.options.Options.{Options}
use Rattle.osc_report.specs.declared.reporter.ShowFault.{ShowFault}
use Rattle.osc_report.specs.declared.reporter.ShowFault.TheVariants as fault
use Rattle.osc_report.specs.declared.span.Span.{Span}
use Rattle.osc_report.specs.declared.stretch.Shown.{Shown}
use Rattle.osc_report.specs.Choices.{unfiltered}
use Rattle.osc_report.specs.Endings.{IsEnd}
use Rattle.osc_report.specs.Entries.{AreEntryLines}
use Rattle.osc_report.specs.Fronts.{front_at}
use Rattle.osc_report.specs.Moments.{moment_of, shown_moment}
use Rattle.osc_report.specs.Pages.{IsPage}
use Rattle.osc_report.specs.Runs.{Progress, no_progress, AddsRows, TellsEntry}
use Rattle.osc_report.specs.Steps.{IsStep, moved}
use Rattle.osc_report.specs.Stretches.{told, HasRead}

-- what is shown and how, what stands, and how far the report is
pub record Reporting : Type 0 where
  pub options : Options
  pub standing : Standing
  pub progress : Progress

-- nothing is shown yet
abbrev pub begun : Options → Late → Reporting
begun options late =
    record { options = options; standing = opened late; progress = no_progress }

-- the moment of lines, if there are any and something has ticked
abbrev pub first_of : List ℕ → ℕ → Option ℕ
first_of lines moment = if length lines == 0 then None else shown_moment moment

-- The moment of the first line that has a time, whatever addresses lines have: that of an entry,
-- unless it is known already.
pub record IsFirst (options : Options) (standing : Standing) (known : Option ℕ) (moment : ℕ)
    (entry : Entry) (first : Option ℕ) : Type 0 where
  pub old : is_some known ≡ true → first ≡ known
  pub new : is_some known ≡ false
      → (all : List ℕ)
      × AreEntryLines (unfiltered options) (front_at options None moment) standing entry all
      × (first ≡ first_of all moment)

-- The lines of an entry at a moment, after the line of a day where they are the first of it that is
-- shown; and when the first line was, and the last that was shown, then.
abbrev pub IsEntryLines : Options → Standing → Span → ℕ → Entry → List ℕ → Span → Type 0
IsEntryLines options standing span moment entry text after =
    (first : Option ℕ) × (lines : List ℕ)
    × IsFirst options standing span.first moment entry first
    × AreEntryLines options (front_at options first moment) standing entry lines
    × IsPage options (record { first = first; last = span.last }) (shown_moment moment) lines text
    after

-- What is shown at an entry where lines are told as runs: nothing yet, where its line may be told
-- with others and joins those that were gathered; else what was gathered, and then its own lines.
pub record IsEntryGathered (options : Options) (standing : Standing) (old : Progress) (moment : ℕ)
    (entry : Entry) (text : List ℕ) (new : Progress) : Type 0 where
  pub first : Option ℕ
  pub lines : List ℕ
  pub all : List ℕ
  pub step : Option Plain
  pub first_is : IsFirst options standing old.span.first moment entry first
  pub lines_are : AreEntryLines options (front_at options first moment) standing entry lines
  pub all_are :
      AreEntryLines (unfiltered options) (front_at options first moment) standing entry all
  pub step_is : IsStep options (front_at options first moment) all
      (moved standing moment entry.answer) step
  pub tells : TellsEntry options (record old { span = record old.span { first = first } })
      (shown_moment moment) lines all step text new.span new.run

-- what is shown at an entry, and how far the report is then
abbrev pub IsEntryTold : Bool → Options → Standing → Progress → ℕ → Entry → List ℕ → Progress
    → Type 0
IsEntryTold false options standing old moment entry text new =
    IsEntryLines options standing old.span moment entry text new.span × (new.run ≡ old.run)
IsEntryTold true options standing old moment entry text new =
    IsEntryGathered options standing old moment entry text new

abbrev pub IsEntryShown : Options → Standing → Progress → ℕ → Entry → List ℕ → Progress → Type 0
IsEntryShown options standing old moment entry text new =
    IsEntryTold options.runs options standing old moment entry text new

-- All that is shown of entries was added: that of each, at its moment, one after another; how far
-- the report was before them and is then.
abbrev pub AddsShown : Options → Standing → Progress → List Entry → List ℕ → List ℕ → Progress
    → Type 0
AddsShown options standing old [] before after now = (after ≡ before) × (now ≡ old)
AddsShown options standing old (entry ∷ rest) before after now =
    (one : List ℕ) × (mid : Progress)
    × IsEntryShown options standing old (moment_of standing (entry ∷ rest)) entry one mid
    × AddsShown options (seen standing entry) mid rest (before ++ one) after now

-- an entry agrees, is seen, and is shown at a moment
pub record ShowsEntry (old : Reporting) (moment : ℕ) (entry : Entry) (before after : List ℕ)
    (new : Reporting) : Type 0 where
  pub agrees : disagreement old.standing entry ≡ None
  pub one : List ℕ
  pub shown : IsEntryShown old.options old.standing old.progress moment entry one new.progress
  pub options : new.options ≡ old.options
  pub standing : new.standing ≡ seen old.standing entry
  pub text : after ≡ before ++ one

-- entries are shown, all at one moment
abbrev pub ShowsEntries : Reporting → ℕ → List Entry → List ℕ → List ℕ → Reporting → Type 0
ShowsEntries old moment [] before after new = (after ≡ before) × (new ≡ old)
ShowsEntries old moment (entry ∷ rest) before after new =
    (mid : List ℕ) × (between : Reporting) × ShowsEntry old moment entry before mid between
    × ShowsEntries between moment rest mid after new

-- a fault at the place of its entry
abbrev pub fault_at : ℕ → SeeFault → ShowFault
fault_at at see.NoMemory = fault.NoMemory
fault_at at (see.Disagrees why) = fault.Disagrees at why

-- The entries before one were shown, and that one disagrees, or there was no memory.
pub record FailsAt (old : Reporting) (moment : ℕ) (entries : List Placed) (cause : ShowFault)
    (before after : List ℕ) (new : Reporting) : Type 0 where
  pub front : List Placed
  pub one : Placed
  pub more : List Placed
  pub are : entries ≡ front ++ one ∷ more
  pub shown : ShowsEntries old moment (told front) before after new
  pub why : SeeFault
  pub cause_is : cause ≡ fault_at one.at why
  pub caused : IsCause why (disagreement new.standing one.entry)

-- Of what was left of a recording entries were read, all of which agree, were seen and are shown.
pub record ShowsStretch (old : Reporting) (left : Remaining) (shown : Shown)
    (before after : List ℕ) (new : Reporting) (now : Remaining) : Type 0 where
  pub entries : List Entry
  pub read : HasRead left entries shown now
  pub agree : AgreesAll old.standing entries
  pub text : AddsShown old.options old.standing old.progress entries before after new.progress
  pub options : new.options ≡ old.options
  pub standing : new.standing ≡ seen_all old.standing entries

-- Of entries that were read those before one were shown, and that one disagrees, or there was no
-- memory.
pub record Fails (old : Reporting) (left : Remaining) (cause : ShowFault) (before after : List ℕ)
    (new : Reporting) : Type 0 where
  pub entries : List Placed
  pub rest : List ℕ
  pub text : left.rest ≡ text_of (told entries) ++ rest
  pub fails : FailsAt old (moment_of old.standing (told entries)) entries cause before after new

-- the same, or nothing is said, where there is no memory
abbrev pub FailsIn : Reporting → ℕ → List Placed → ShowFault → List ℕ → List ℕ → Reporting → Type 0
FailsIn old moment entries fault.NoMemory before after new = Unit {0}
FailsIn old moment entries (fault.Disagrees at why) before after new =
    FailsAt old moment entries (fault.Disagrees at why) before after new

abbrev pub FailsFor : Reporting → Remaining → ShowFault → List ℕ → List ℕ → Reporting → Type 0
FailsFor old left fault.NoMemory before after new = Unit {0}
FailsFor old left (fault.Disagrees at why) before after new =
    Fails old left (fault.Disagrees at why) before after new

-- What was gathered, and what stands after all entries, was added.
pub record AddsEnd (reporting : Reporting) (before after : List ℕ) : Type 0 where
  pub told : List ℕ
  pub mid : Span
  pub text : List ℕ
  pub rows : AddsRows reporting.options reporting.progress.span reporting.progress.run.rows []
      told mid
  pub end : IsEnd reporting.options reporting.standing mid text
  pub whole : after ≡ before ++ (told ++ text)
