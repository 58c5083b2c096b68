-- What brings a new server, whose recording is empty, to the state of another.
use Rattle.std.specs.Prelude.{ℕ, ◌+◌, ◌==◌, min, nat_lt, if◌then◌else◌, List, [], ◌∷◌, ◌++◌, length}
use Rattle.std.specs.Prelude.{map}
use Rattle.osc_atoms.specs.Atoms.{blob_end, string}
use Rattle.osc_packet.specs.Units.{TimedUnit}
use Rattle.osc_packet.specs.Bundling.{bundled}
use Rattle.osc_queue.specs.Timed.{due_of}
use Rattle.osc_model.specs.Limits.{Limits, header_size}
use Rattle.osc_model.specs.State.{State, Queued, opening}
use Rattle.osc_model.specs.Events.{Entry}
use Rattle.osc_model.specs.History.{after}
use Rattle.osc_script.specs.declared.act.Act.{Act}
use Rattle.osc_script.specs.declared.act.Act.TheVariants.{Add, Send, Tick}
use Rattle.osc_script.specs.declared.line.Line.{Line}
use Rattle.osc_script.specs.Written.{numbered, written}
use Rattle.osc_score.specs.Scores.{methods_from}
use Rattle.osc_alike.specs.Alike.{address_of}

-- the packet of a tag and messages: one message of tag 1 alone, and else the bundle of them
abbrev pub packet_with : ℕ → List (List ℕ) → List ℕ
packet_with tag [] = bundled (record { tag = tag; messages = [] })
packet_with tag (message ∷ []) = if tag == 1 then message
    else bundled (record { tag = tag; messages = message ∷ [] })
packet_with tag (message ∷ other ∷ messages) =
    bundled (record { tag = tag; messages = message ∷ other ∷ messages })

abbrev pub packet_of : TimedUnit → List ℕ
packet_of unit = packet_with unit.tag unit.messages

-- the clock goes on to a moment, where that is after it
abbrev pub ticks_to : ℕ → ℕ → List Act
ticks_to now moment = if nat_lt now moment then Tick moment ∷ [] else []

-- a unit's packet is sent
abbrev pub send_of : TimedUnit → List Act
send_of unit = Send (packet_of unit) ∷ []

-- The units that wait are sent one after another, each at the moment from which it is due, or at
-- the clock where that is earlier. Then the clock goes on to where it stood. The first number is
-- the moment that the new server has come to.
abbrev pub queue_acts : ℕ → ℕ → List Queued → List Act
queue_acts now clock [] = ticks_to now clock
queue_acts now clock (unit ∷ units) =
    ticks_to now (min (due_of unit) clock)
    ++ Send (packet_of unit.2) ∷ queue_acts (min (due_of unit) clock) clock units

-- what brings a new server to a state: methods are added at the addresses in their order, and then
-- the units are sent
abbrev pub carried_from : List (List ℕ) → ℕ → List Queued → List Act
carried_from addresses clock units = map Add addresses ++ queue_acts 1 clock units

abbrev pub carried_acts : State → List Act
carried_acts state = carried_from (map address_of state.methods) state.clock state.queue

-- the lines that carry a history on, and the script of them
abbrev pub carried : Limits → List Entry → List Line
carried caps history = numbered 1 (carried_acts (after (opening caps) history))

abbrev pub carried_script : Limits → List Entry → List ℕ
carried_script caps history = written (carried_acts (after (opening caps) history))

-- how many bytes are recorded of the lines
abbrev pub ticks_size : ℕ → ℕ → ℕ
ticks_size now moment = if nat_lt now moment then 48 else 0

abbrev pub send_size : List ℕ → ℕ
send_size packet = 52 + (length packet + blob_end (length packet))

abbrev pub queue_size : ℕ → ℕ → List Queued → ℕ
queue_size now clock [] = ticks_size now clock
queue_size now clock (unit ∷ units) =
    ticks_size now (min (due_of unit) clock) + send_size (packet_of unit.2)
    + queue_size (min (due_of unit) clock) clock units

abbrev pub adds_size : List (List ℕ) → ℕ
adds_size [] = 0
adds_size (address ∷ addresses) = 40 + length (string address) + adds_size addresses

abbrev pub carried_size : State → ℕ
carried_size state =
    header_size + adds_size (map address_of state.methods)
    + queue_size 1 state.clock state.queue

-- units under the numbers from one on
abbrev pub renumbered : ℕ → List Queued → List Queued
renumbered number [] = []
renumbered number (unit ∷ units) = (due_of unit, number, unit.2) ∷ renumbered (number + 1) units

-- the state up to numbers, on a server whose recording may have so many bytes: methods and units
-- are numbered from 0, there is one caller, and nothing is recorded but what brought it there
abbrev pub renewed : ℕ → State → State
renewed room state =
    record {
      caps = record state.caps { recording = room };
      methods = methods_from 0 (map address_of state.methods);
      queue = renumbered 0 state.queue;
      clock = state.clock;
      next_id = length state.methods;
      next_unit = length state.queue;
      callers = 1;
      recorded = carried_size state;
    }
