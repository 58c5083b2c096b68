-- What all entries of a recording make.
use Rattle.std.specs.Prelude.{◌≡◌, ℕ, ◌-◌, ◌==◌, max, Bool, true, false, if◌then◌else◌, List, []}
use Rattle.std.specs.Prelude.{◌∷◌, map, Option, Some, None}
use Rattle.osc_model.specs.declared.late.Late.{Late}
use Rattle.osc_model.specs.Events.{Event, enrol, submit, add, remove, tick, release, Answer, ticked}
use Rattle.osc_model.specs.Events.{Entry}
use Rattle.osc_record.specs.declared.event.Entry.{Entry as Read}
use Rattle.osc_record.specs.Left.{placed_of}
use Rattle.osc_story.specs.declared.disagreement.Disagreement.{Disagreement}
use Rattle.osc_story.specs.declared.disagreement.SeeFault.{SeeFault}
use Rattle.osc_story.specs.declared.disagreement.SeeFault.TheVariants as see
use Rattle.osc_story.specs.declared.totals.Totals.{Totals}
use Rattle.osc_story.specs.Standings.{Standing, opened, seen, disagreement}
use Rattle.osc_story.specs.Totals.{none as nothing_told, both}
use Rattle.osc_drawing.specs.declared.sketch.DrawFault.{DrawFault}
use Rattle.osc_drawing.specs.declared.sketch.DrawFault.TheVariants as fault
use Rattle.osc_drawing.specs.declared.mark.Stamp.{Stamp}
use Rattle.osc_drawing.specs.Endings.{with_end}
use Rattle.osc_drawing.specs.Gatherings.{Gathered, nothing_gathered, reopened as emptied, with_event}

-- whether an event is a tick or a release
abbrev pub is_moment : Event → Bool
is_moment enrol = false
is_moment (submit packet) = false
is_moment (add address) = false
is_moment (remove address) = false
is_moment (tick now) = true
is_moment release = true

-- where the clock stands after an event
abbrev pub clock_at : ℕ → Event → Answer → ℕ
clock_at clock (tick now) ticked = now
clock_at clock _ _ = clock

-- the clock after the next tick or release, where there is one
abbrev pub moment_ahead : ℕ → List Entry → ℕ
moment_ahead clock [] = clock
moment_ahead clock (entry ∷ entries) =
    if is_moment entry.event then clock_at clock entry.event entry.answer
    else moment_ahead clock entries

-- The moment of the entries after one: the same, or that of the next tick or release after a tick
-- or a release.
abbrev pub next_moment : ℕ → ℕ → Event → List Entry → ℕ
next_moment clock moment event entries =
    if is_moment event then moment_ahead clock entries else moment

-- what stands, what is gathered, the first moment after a tick, and how much the recordings before
-- told
pub record Sketched : Type 0 where
  pub standing : Standing
  pub gathered : Gathered
  pub first : Option ℕ
  pub before : Totals

abbrev pub begun : Late → Sketched
begun late = record {
  standing = opened late;
  gathered = nothing_gathered;
  first = None;
  before = nothing_told;
}

abbrev pub first_moment : Option ℕ → ℕ → Option ℕ
first_moment None moment = if moment == 1 then None else Some moment
first_moment (Some first) moment = Some first

-- with an entry at a moment
abbrev pub with_entry : Sketched → ℕ → Entry → Sketched
with_entry sketch moment entry = record sketch {
  standing = seen sketch.standing entry;
  gathered = with_event sketch.standing moment entry.event entry.answer sketch.gathered;
  first = first_moment sketch.first moment;
}

-- with entries, the first of them at a moment
abbrev pub with_entries : Sketched → ℕ → List Entry → Sketched
with_entries sketch moment [] = sketch
with_entries sketch moment (entry ∷ entries) =
    with_entries (with_entry sketch moment entry)
    (next_moment (seen sketch.standing entry).clock moment entry.event entries) entries

-- what is after all entries
abbrev pub end_stamp : Sketched → Stamp
end_stamp sketch =
    record { moment = sketch.standing.clock; order = max (sketch.gathered.count - 1) 1 }

-- with what waits then, and the methods that are there
abbrev pub finished : Sketched → Sketched
finished sketch =
    record sketch { gathered = with_end (end_stamp sketch) sketch.standing sketch.gathered }

-- with all entries after what stands
abbrev pub with_all : Sketched → List Entry → Sketched
with_all sketch entries =
    with_entries sketch (moment_ahead sketch.standing.clock entries) entries

-- the sketch of all entries of a recording
abbrev pub sketch_of : Late → List Entry → Sketched
sketch_of late entries = finished (with_all (begun late) entries)

-- how much was told, by all recordings
abbrev pub totals_of : Sketched → Totals
totals_of sketch = both sketch.before sketch.standing.totals

-- nothing stands, as on a new server
abbrev pub reopened : Sketched → Late → Sketched
reopened sketch late = record sketch {
  standing = opened late;
  gathered = emptied sketch.gathered;
  before = totals_of sketch;
}

-- with all entries of the recording after those of a sketch
abbrev pub gone_on : Sketched → Late → List Entry → Sketched
gone_on sketch late entries = finished (with_all (reopened sketch late) entries)

-- what entries that were read tell
abbrev pub entry_of : Read → Entry
entry_of entry = (placed_of entry).entry

abbrev pub told : List Read → List Entry
told entries = map entry_of entries

-- an entry agrees, and is taken at a moment
pub record Takes (old : Sketched) (moment : ℕ) (entry : Entry) (new : Sketched) : Type 0 where
  pub agrees : disagreement old.standing entry ≡ None
  pub becomes : new ≡ with_entry old moment entry

-- a disagreement at a place, or what comes after
abbrev pub fault_or : ℕ → Option Disagreement → Option (ℕ × Disagreement)
    → Option (ℕ × Disagreement)
fault_or at None later = later
fault_or at (Some why) later = Some (at, why)

-- the place of the first entry that disagrees with what stands after those before it, and why
abbrev pub first_fault : Standing → List Read → Option (ℕ × Disagreement)
first_fault standing [] = None
first_fault standing (entry ∷ entries) =
    fault_or entry.at (disagreement standing (entry_of entry))
    (first_fault (seen standing (entry_of entry)) entries)

-- a fault at the place of its entry
abbrev pub fault_at : ℕ → SeeFault → DrawFault
fault_at at see.NoMemory = fault.NoMemory
fault_at at (see.Disagrees why) = fault.Disagrees at why

-- out of memory, or the first entry that disagrees does so there
abbrev pub IsFault : DrawFault → Option (ℕ × Disagreement) → Type 0
IsFault fault.NoMemory found = Unit {0}
IsFault (fault.Disagrees at why) found = found ≡ Some (at, why)
