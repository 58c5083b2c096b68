-- What is gathered of the entries of a recording, one after another.
use Rattle.osc_atoms.specs.declared.limits.TheConstants.{MAX_PACKET}
use Rattle.std.specs.Prelude.{ℕ, ◌-◌, nat_lt, if◌then◌else◌, List, [], ◌∷◌, ◌++◌, Option, None}
use Rattle.std.specs.List.{flat_map}
use Rattle.osc_packet.specs.Reading.{is_packet, units_read}
use Rattle.osc_packet.specs.Units.{TimedUnit}
use Rattle.osc_pattern.specs.Methods.{Method}
use Rattle.osc_model.specs.Events.{Event, enrol, submit, add, remove, tick, release, Answer, Call}
use Rattle.osc_model.specs.Events.{queued, units_full, pool_full, added, removed, released}
use Rattle.osc_model.specs.Step.{is_kept}
use Rattle.osc_story.specs.Standings.{Standing, calls_told, first_messages}
use Rattle.osc_story.specs.Totals.{more}
use Rattle.osc_drawing.specs.declared.arrival.Arrival.{Arrival}
use Rattle.osc_drawing.specs.declared.mark.Draft.{Draft}
use Rattle.osc_drawing.specs.declared.mark.Form.{Form}
use Rattle.osc_drawing.specs.declared.mark.Form.TheVariants.{Called, Unheard, Crossed, Removed}
use Rattle.osc_drawing.specs.declared.mark.Mark.{Mark}
use Rattle.osc_drawing.specs.declared.mark.Owner.TheVariants as owner
use Rattle.osc_drawing.specs.declared.mark.Stamp.{Stamp}
use Rattle.osc_drawing.specs.Marks.{mark_of, all_targets, call_marks, unheard_marks, arrival_of}
use Rattle.osc_drawing.specs.Marks.{without}

-- The marks so far, when the units came that wait, when the methods came that are there, and how
-- many units were called, discarded or refused.
pub record Gathered : Type 0 where
  pub marks : List Mark
  pub units : List Arrival
  pub methods : List Arrival
  pub count : ℕ

abbrev pub nothing_gathered : Gathered
nothing_gathered = record { marks = []; units = []; methods = []; count = 0 }

-- nothing waits, and no method is there
abbrev pub reopened : Gathered → Gathered
reopened gathered = record gathered { units = []; methods = [] }

-- what is before the next call in order
abbrev pub stamp_of : Gathered → ℕ → Stamp
stamp_of gathered moment = record { moment = moment; order = gathered.count - 1 }

-- and the next call
abbrev pub next_stamp : Gathered → ℕ → Stamp
next_stamp gathered moment = record { moment = moment; order = gathered.count }

abbrev pub drafted : Form → Option Stamp → Stamp → Draft
drafted form came at = record { form = form; came = came; at = at }

-- with marks of the next call in order
abbrev pub with_marks : Gathered → List Mark → Gathered
with_marks gathered marks =
    record gathered { marks = gathered.marks ++ marks; count = more gathered.count 1 }

-- a unit is discarded or refused: a cross at each method that its messages are to
abbrev pub with_crosses : Gathered → ℕ → List Method → List (List ℕ) → Gathered
with_crosses gathered moment methods messages =
    with_marks gathered (all_targets (drafted Crossed None (next_stamp gathered moment)) methods
    messages)

-- a unit waits from now on
abbrev pub with_arrival : Gathered → ℕ → ℕ → Gathered
with_arrival gathered number moment =
    record gathered {
      units = gathered.units ++ record { number = number; at = stamp_of gathered moment } ∷ [];
    }

-- a unit of a packet that is queued is discarded; or it waits, where its tag is above the moment
abbrev pub with_queued : Standing → ℕ → ℕ → TimedUnit → Gathered → Gathered
with_queued standing moment number unit gathered =
    if is_kept standing.late standing.clock unit
    then (if nat_lt moment unit.tag then with_arrival gathered number moment else gathered)
    else with_crosses gathered moment standing.methods unit.messages

-- the units of the packet, which have the next numbers
abbrev pub all_queued : Standing → ℕ → ℕ → List TimedUnit → Gathered → Gathered
all_queued standing moment number [] gathered = gathered
all_queued standing moment number (unit ∷ units) gathered =
    all_queued standing moment (more number 1) units
    (with_queued standing moment number unit gathered)

-- the units of a packet that is refused
abbrev pub all_refused : Standing → ℕ → List TimedUnit → Gathered → Gathered
all_refused standing moment [] gathered = gathered
all_refused standing moment (unit ∷ units) gathered =
    all_refused standing moment units
    (with_crosses gathered moment standing.methods unit.messages)

abbrev pub with_units : Standing → ℕ → List TimedUnit → Answer → Gathered → Gathered
with_units standing moment units (queued first count late) gathered =
    all_queued standing moment first units gathered
with_units standing moment units (units_full room) gathered =
    all_refused standing moment units gathered
with_units standing moment units (pool_full room) gathered =
    all_refused standing moment units gathered
with_units standing moment units _ gathered = gathered

abbrev pub with_packet : Standing → ℕ → List ℕ → Answer → Gathered → Gathered
with_packet standing moment packet answer gathered =
    if is_packet MAX_PACKET packet
    then with_units standing moment (units_read packet) answer gathered else gathered

-- a method is there from now on
abbrev pub with_method : ℕ → Answer → Gathered → Gathered
with_method moment (added id) gathered =
    record gathered {
      methods = gathered.methods ++ record { number = id; at = stamp_of gathered moment } ∷ [];
    }
with_method moment _ gathered = gathered

-- a method was there up to now
abbrev pub without_method : ℕ → List ℕ → Answer → Gathered → Gathered
without_method moment address (removed id) gathered =
    record gathered {
      marks = gathered.marks
          ++ mark_of (drafted Removed (arrival_of id gathered.methods) (stamp_of gathered moment))
          owner.Method address ∷ [];
      methods = without id gathered.methods;
    }
without_method moment address _ gathered = gathered

-- the calls of a unit, and its messages that called nothing
abbrev pub released_marks : Option Stamp → Stamp → List Call → List (List ℕ) → List Mark
released_marks came at calls messages =
    flat_map (call_marks (drafted Called came at)) calls
    ++ unheard_marks (drafted Unheard came at) calls 0 messages

-- a unit makes these calls, and waits no longer
abbrev pub with_calls : ℕ → ℕ → List Call → List (List ℕ) → Gathered → Gathered
with_calls moment unit calls messages gathered = record {
  marks = gathered.marks ++ released_marks (arrival_of unit gathered.units)
      (next_stamp gathered moment) calls messages;
  units = without unit gathered.units;
  methods = gathered.methods;
  count = more gathered.count 1;
}

-- the first unit that waits is released
abbrev pub with_release : Standing → ℕ → Answer → Gathered → Gathered
with_release standing moment (released unit hits) gathered =
    with_calls moment unit (calls_told standing (released unit hits))
    (first_messages standing.waiting) gathered
with_release standing moment _ gathered = gathered

-- an event and its answer, at a moment
abbrev pub with_event : Standing → ℕ → Event → Answer → Gathered → Gathered
with_event standing moment enrol answer gathered = gathered
with_event standing moment (submit packet) answer gathered =
    with_packet standing moment packet answer gathered
with_event standing moment (add address) answer gathered = with_method moment answer gathered
with_event standing moment (remove address) answer gathered =
    without_method moment address answer gathered
with_event standing moment (tick now) answer gathered = gathered
with_event standing moment release answer gathered = with_release standing moment answer gathered
