-- What is shown after all entries.
use Rattle.std.specs.Prelude.{◌≡◌, ℕ, nat_le, Bool, if◌then◌else◌, List, [], ◌∷◌}
use Rattle.std.specs.Prelude.{◌++◌, length, unwrap_or}
use Rattle.osc_queue.specs.Timed.{Item, due_of}
use Rattle.osc_shown.specs.declared.summary.Sums.{Sums}
use Rattle.osc_shown.specs.Columns.{painted}
use Rattle.osc_shown.specs.Summaries.{totals_words, whole_totals_words}
use Rattle.osc_story.specs.Standings.{Standing, Handed}
use Rattle.osc_story.specs.Totals.{more}
use Rattle.osc_report.specs.declared.front.Front.{Front}
use Rattle.osc_report.specs.declared.options.Options.{Options}
use Rattle.osc_report.specs.declared.span.Span.{Span}
use Rattle.osc_report.specs.Choices.{is_part}
use Rattle.osc_report.specs.Fronts.{front_at, front_by}
use Rattle.osc_report.specs.Moments.{shown_moment}
use Rattle.osc_report.specs.Pages.{IsPage}
use Rattle.osc_report.specs.Units.{waits, AddsToldLines}

-- the lines of a unit that waits were added that are shown, of the caller that has handed it in,
-- where the clock stands at their moment
abbrev pub AddsQueued : Options → Front → Item Handed → List ℕ → List ℕ → Type 0
AddsQueued options front item before after =
    AddsToldLines options (front_by options front item.2.caller)
    (waits (due_of item) (nat_le (due_of item) front.moment)) 0 item.2.unit.messages before after

-- those of all units that wait
abbrev pub AddsWaiting : Options → Front → List (Item Handed) → List ℕ → List ℕ → Type 0
AddsWaiting options front [] before after = after ≡ before
AddsWaiting options front (item ∷ items) before after =
    (mid : List ℕ) × AddsQueued options front item before mid
    × AddsWaiting options front items mid after

-- how many messages wait, and so many more; a count stays at the greatest number of 64 bits
abbrev pub more_waiting : ℕ → List (Item Handed) → ℕ
more_waiting count [] = count
more_waiting count (item ∷ items) = more_waiting (more count (length item.2.unit.messages)) items

-- how much was told, from the first moment that has a line to where the clock stands
abbrev pub sums_of : Standing → Span → Sums
sums_of standing span = record {
  first = unwrap_or span.first standing.clock;
  last = standing.clock;
  messages = standing.totals.messages;
  calls = standing.totals.calls;
  unheard = standing.totals.unheard;
  discarded = standing.totals.discarded;
  refused = standing.totals.refused;
  waiting = more_waiting 0 standing.waiting;
}

-- the words of how much was told
abbrev pub ending_words : Bool → Sums → List ℕ
ending_words is_part sums = if is_part then whole_totals_words sums else totals_words sums

-- The lines of what waits that are shown, as those of one moment, and the line of how much was told,
-- which says that it is of the whole recording where lines may be left out.
pub record IsEnd (options : Options) (standing : Standing) (span : Span) (text : List ℕ)
    : Type 0 where
  pub lines : List ℕ
  pub page : List ℕ
  pub after : Span
  pub wait : AddsWaiting options (front_at options span.first standing.clock) standing.waiting []
      lines
  pub shown : IsPage options span (shown_moment standing.clock) lines page after
  pub whole : text ≡ page ++ painted options.look.colours 126
      (ending_words (is_part options) (sums_of standing span)) []
