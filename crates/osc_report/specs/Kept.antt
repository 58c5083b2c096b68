-- Inside the crate: what is kept of an entry before it is seen, and what is told by that.
use Rattle.std.specs.Prelude.{◌≡◌, ℕ, Bool, true, false, List, ◌++◌, Option, Some, None}
use Rattle.osc_model.specs.Events.{Entry}
use Rattle.osc_runs.specs.Gathering.{Plain, Run}
use Rattle.osc_shown.specs.Arguments.{IsWord}
use Rattle.osc_story.specs.Standings.{Standing}
use Rattle.osc_report.specs.declared.front.Front.{Front}
use Rattle.osc_report.specs.declared.moved_line.MovedLine.{MovedLine}
use Rattle.osc_report.specs.declared.news.News.{News}
use Rattle.osc_report.specs.declared.news.RunNews.{RunNews}
use Rattle.osc_report.specs.declared.options.Options.{Options}
use Rattle.osc_report.specs.declared.span.Span.{Span}
use Rattle.osc_report.specs.Choices.{unfiltered}
use Rattle.osc_report.specs.Entries.{AreEntryLines}
use Rattle.osc_report.specs.Fronts.{front_at, front_by}
use Rattle.osc_report.specs.Moments.{shown_moment}
use Rattle.osc_report.specs.Pages.{IsPage}
use Rattle.osc_report.specs.Reports.{Reporting, IsFirst}
use Rattle.osc_report.specs.Runs.{Progress, GathersPlain, TellsOther}
use Rattle.osc_report.specs.Steps.{Moved, moved}

-- what is kept of what may be told with others
abbrev pub IsMovedLine : Bool → Option Moved → Option MovedLine → Type 0
IsMovedLine whole None kept = kept ≡ None
IsMovedLine whole (Some one) None = ⊥
IsMovedLine whole (Some one) (Some kept) =
    (kept.caller ≡ one.caller) × (kept.address.items ≡ one.address)
    × IsWord whole one.argument kept.words.items

-- what of an entry matters to runs, where lines are told as such
abbrev pub IsRunNews : Bool → Options → Front → Standing → Entry → Option RunNews → Type 0
IsRunNews false options front standing entry run = run ≡ None
IsRunNews true options front standing entry None = ⊥
IsRunNews true options front standing entry (Some run) =
    (run.front ≡ front) × AreEntryLines (unfiltered options) front standing entry run.all.items
    × IsMovedLine front.look.whole (moved standing front.moment entry.answer) run.moved

-- what is shown of an entry
pub record IsNews (options : Options) (standing : Standing) (known : Option ℕ) (moment : ℕ)
    (entry : Entry) (news : News) : Type 0 where
  pub first_is : IsFirst options standing known moment entry news.first
  pub lines_are :
      AreEntryLines options (front_at options news.first moment) standing entry news.lines.items
  pub run_is : IsRunNews options.runs options (front_at options news.first moment) standing entry
      news.run

-- its line, where it may be told with others
abbrev pub plain_of : Options → RunNews → MovedLine → Plain
plain_of options news kept = record {
  look = (front_by options news.front kept.caller).look;
  moment = news.front.moment;
  address = kept.address.items;
  words = kept.words.items;
  line = news.all.items;
}

-- what is told at an entry where lines are told as runs
abbrev pub TellsMoved : Options → Progress → List ℕ → RunNews → Option MovedLine → List ℕ → Span
    → Run → Type 0
TellsMoved options old lines news (Some kept) text span run =
    GathersPlain options old (plain_of options news kept) text span run
TellsMoved options old lines news None text span run =
    TellsOther options old (shown_moment news.front.moment) lines news.all.items text span run

-- what is told at an entry
abbrev pub TellsNews : Options → Progress → ℕ → List ℕ → Option RunNews → List ℕ → Span → Run
    → Type 0
TellsNews options old moment lines None text span run =
    IsPage options old.span (shown_moment moment) lines text span × (run ≡ old.run)
TellsNews options old moment lines (Some news) text span run =
    TellsMoved options old lines news news.moved text span run

-- how far a report is, with the moment of the first line
abbrev pub with_first : Progress → Option ℕ → Progress
with_first old first = record old { span = record old.span { first = first } }

-- that was added
pub record Tells (old : Reporting) (moment : ℕ) (news : News) (before after : List ℕ)
    (new : Reporting) : Type 0 where
  pub text : List ℕ
  pub tells : TellsNews old.options (with_first old.progress news.first) moment news.lines.items
      news.run text new.progress.span new.progress.run
  pub options : new.options ≡ old.options
  pub standing : new.standing ≡ old.standing
  pub added : after ≡ before ++ text
