-- The lines of an entry that are shown, by what stands before it and its moment.
use Rattle.std.specs.Prelude.{◌≡◌, ℕ, ◌==◌, Bool, true, false, nat_lt, if◌then◌else◌, List, []}
use Rattle.std.specs.Prelude.{◌∷◌, ◌++◌, ◌||◌, length, codes, Option, Some, None}
use Rattle.osc_message.specs.Reading.{pattern_of}
use Rattle.osc_packet.specs.Reading.{units_read}
use Rattle.osc_packet.specs.Units.{TimedUnit}
use Rattle.osc_queue.specs.Timed.{Item, due_of}
use Rattle.osc_model.specs.Events.{Event, enrol, submit, add, remove, tick, release, Answer, queued}
use Rattle.osc_model.specs.Events.{units_full, pool_full, released, Call, Entry}
use Rattle.osc_model.specs.Step.{is_kept, is_late}
use Rattle.osc_shown.specs.declared.answered.Answered.{Answered}
use Rattle.osc_shown.specs.declared.answered.Answered.TheVariants.{Waiting, Discarded, UnitsFull}
use Rattle.osc_shown.specs.declared.answered.Answered.TheVariants.{PoolFull}
use Rattle.osc_shown.specs.declared.arrival.Arrival.{Arrival}
use Rattle.osc_shown.specs.Called.{late_part}
use Rattle.osc_shown.specs.Lines.{AddsUnit, join_of}
use Rattle.osc_shown.specs.Tails.{tail_of, waits}
use Rattle.osc_story.specs.Standings.{Standing, Handed, calls_told}
use Rattle.osc_report.specs.declared.front.Front.{Front}
use Rattle.osc_report.specs.declared.options.Options.{Options}
use Rattle.osc_report.specs.Moments.{shown_moment}
use Rattle.osc_report.specs.Choices.{is_named, is_any_named}
use Rattle.osc_report.specs.Fronts.{front_by}
use Rattle.osc_report.specs.Notes.{head, unnamed_note, enrol_text, add_text, remove_text}
use Rattle.osc_report.specs.Notes.{tick_text}
use Rattle.osc_report.specs.Units.{calls, AddsChosen, AddsToldLines}

-- when a packet came; its sender isn't known
abbrev pub arrival_at : ℕ → Arrival
arrival_at moment = record { moment = shown_moment moment; sender = None }

-- What is said of a unit that is queued: that it is discarded, where it is late and isn't kept; that
-- it waits, where its tag is above the entry's moment; else nothing, since its release says it.
abbrev pub queued_fate : Standing → ℕ → TimedUnit → Option Answered
queued_fate standing moment unit =
    if is_kept standing.late standing.clock unit
    then (if nat_lt moment unit.tag then Some Waiting else None)
    else Some Discarded

-- what is said of a unit by the answer to its packet
abbrev pub answered : Standing → ℕ → Answer → TimedUnit → Option Answered
answered standing moment (queued first count late) unit = queued_fate standing moment unit
answered standing moment (units_full room) unit = Some UnitsFull
answered standing moment (pool_full room) unit = Some PoolFull
answered standing moment _ unit = None

-- the lines of the messages of a unit that isn't kept were added, with this tail, those that are
-- shown
abbrev pub AddsRefused : Options → Front → List ℕ → Bool → List (List ℕ) → List ℕ → List ℕ
    → Type 0
AddsRefused options front tail first [] before after = after ≡ before
AddsRefused options front tail first (message ∷ messages) before after =
    (mid : List ℕ)
    × AddsChosen (is_named options.only (pattern_of message))
    (head front 33 (join_of first (length messages == 0))) message tail before mid
    × AddsRefused options front tail false messages mid after

-- a unit that waits, or has no message, is one line
abbrev pub is_one_line : Answered → TimedUnit → Bool
is_one_line answer unit = waits answer || length unit.messages == 0

-- that line was added, if it is shown
abbrev pub AddsOneLine : Bool → Front → Answered → TimedUnit → List ℕ → List ℕ → Type 0
AddsOneLine false front answer unit before after = after ≡ before
AddsOneLine true front answer unit before after =
    AddsUnit front.look (arrival_at front.moment) answer [] unit before after

-- the lines of a unit were added that are shown
pub record AddsFate (options : Options) (front : Front) (answer : Answered) (unit : TimedUnit)
    (before after : List ℕ) : Type 0 where
  pub one : is_one_line answer unit ≡ true
      → AddsOneLine (is_any_named options.only unit.messages) front answer unit before after
  pub each : is_one_line answer unit ≡ false
      → AddsRefused options front (tail_of (arrival_at front.moment) answer unit.tag []) true
      unit.messages before after

-- the lines of a unit of a packet were added, if anything is said of it
abbrev pub AddsSaid : Options → Front → Option Answered → TimedUnit → List ℕ → List ℕ → Type 0
AddsSaid options front None unit before after = after ≡ before
AddsSaid options front (Some answer) unit before after =
    AddsFate options front answer unit before after

-- the lines of a packet's units were added
abbrev pub AddsSubmit : Options → Front → Standing → Answer → List TimedUnit → List ℕ → List ℕ
    → Type 0
AddsSubmit options front standing answer [] before after = after ≡ before
AddsSubmit options front standing answer (unit ∷ units) before after =
    (mid : List ℕ)
    × AddsSaid options front (answered standing front.moment answer unit) unit before mid
    × AddsSubmit options front standing answer units mid after

-- the time tag of a unit that waits, where it came late for it
abbrev pub late_tag : Item Handed → Option ℕ
late_tag item = if is_late (due_of item) item.2.unit then Some item.2.unit.tag else None

-- the line of a unit that has no message, if it is shown
abbrev pub empty_text : Options → Front → Option ℕ → List ℕ
empty_text options front late =
    unnamed_note options front 32 (codes "(no message)")
    (late_part (shown_moment front.moment) late)

-- the lines of a unit that makes these calls were added that are shown
pub record AddsReleased (options : Options) (front : Front) (item : Item Handed)
    (made : List Call) (before after : List ℕ) : Type 0 where
  pub empty : (length item.2.unit.messages == 0) ≡ true
      → after ≡ before ++ empty_text options front (late_tag item)
  pub each : (length item.2.unit.messages == 0) ≡ false
      → AddsToldLines options front (calls made (late_tag item)) 0 item.2.unit.messages
      before after

-- those of the first unit that waits, by the caller that has handed it in
abbrev pub AddsFirst : Options → Front → List (Item Handed) → List Call → List ℕ → List ℕ → Type 0
AddsFirst options front [] made before after = after ≡ before
AddsFirst options front (first ∷ others) made before after =
    AddsReleased options (front_by options front first.2.caller) first made before after

-- the same, where an answer says that it was released
abbrev pub AddsRelease : Options → Front → List (Item Handed) → List Call → Answer → List ℕ
    → List ℕ → Type 0
AddsRelease options front waiting made (released unit hits) before after =
    AddsFirst options front waiting made before after
AddsRelease options front waiting made _ before after = after ≡ before

-- the lines of an event and its answer were added
abbrev pub AddsEvent : Options → Front → Standing → Event → Answer → List ℕ → List ℕ → Type 0
AddsEvent options front standing enrol answer before after =
    after ≡ before ++ enrol_text options front answer
AddsEvent options front standing (submit packet) answer before after =
    AddsSubmit options front standing answer (units_read packet) before after
AddsEvent options front standing (add address) answer before after =
    after ≡ before ++ add_text options front standing.methods address answer
AddsEvent options front standing (remove address) answer before after =
    after ≡ before ++ remove_text options front address answer
AddsEvent options front standing (tick now) answer before after =
    after ≡ before ++ tick_text options front now answer
AddsEvent options front standing release answer before after =
    AddsRelease options front standing.waiting (calls_told standing answer) answer before after

-- these are all lines of an entry, which look so but for its caller
abbrev pub AreEntryLines : Options → Front → Standing → Entry → List ℕ → Type 0
AreEntryLines options front standing entry lines =
    AddsEvent options (front_by options front entry.caller) standing entry.event entry.answer []
    lines
