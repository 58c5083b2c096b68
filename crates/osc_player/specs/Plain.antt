-- What a script makes of a server: its history, the faults of its packets, and where the recording
-- was full.
use Rattle.osc_atoms.specs.declared.limits.TheConstants.{MAX_PACKET}
use Rattle.std.specs.Prelude.{ℕ, zero, suc, Bool, true, false, List, [], ◌∷◌, ◌++◌, length}
use Rattle.std.specs.Prelude.{if◌then◌else◌, Option, Some, None}
use Rattle.std.specs.List.{flat_map}
use Rattle.osc_atoms.specs.declared.fault.Fault.{Fault}
use Rattle.osc_packet.specs.Reading.{is_packet, packet_fault}
use Rattle.osc_model.specs.Limits.{Limits}
use Rattle.osc_model.specs.State.{State, opening}
use Rattle.osc_model.specs.Events.{Event, add, remove, submit, tick, release, Answer, released}
use Rattle.osc_model.specs.Events.{room_in, adds_entry, Room, Entry}
use Rattle.osc_model.specs.Step.{step}
use Rattle.osc_model.specs.History.{after}
use Rattle.osc_print.specs.Lines.{fault_text}
use Rattle.osc_script.specs.declared.act.Act.{Act}
use Rattle.osc_script.specs.declared.act.Act.TheVariants.{Add, Remove, Send, Tick, Pump}
use Rattle.osc_script.specs.declared.line.Line.{Line}

-- the entry of caller 0 for an event
abbrev pub entry_of : State → Event → Entry
entry_of state event = record { caller = 0; event = event; answer = (step state event).answer }

-- the entry, where the answer adds one
abbrev pub entry_if : State → Event → List Entry
entry_if state event = if adds_entry (step state event).answer then entry_of state event ∷ []
    else []

-- where there is no room for the entry of an event
abbrev pub stop_at : State → Event → Option Room
stop_at state event = room_in (step state event).answer

abbrev pub is_released : Answer → Bool
is_released (released unit hits) = true
is_released _ = false

-- releases until one isn't Released, and at most so many
abbrev pub pumped : ℕ → State → List Entry
pumped zero state = []
pumped (suc most) state =
    if is_released (step state release).answer
    then entry_of state release ∷ pumped most (step state release).state else []

-- the releases of a pump; each takes a unit, so it ends after as many as are queued
abbrev pub pump : State → List Entry
pump state = pumped (length state.queue) state

-- bytes that are no packet have no entry
abbrev pub sent : State → List ℕ → Bool → List Entry
sent state packet true = entry_if state (submit packet)
sent state packet false = []

abbrev pub stop_sent : State → List ℕ → Bool → Option Room
stop_sent state packet true = stop_at state (submit packet)
stop_sent state packet false = None

-- the entries of a line
abbrev pub entries_of : State → Act → List Entry
entries_of state (Add address) = entry_if state (add address)
entries_of state (Remove address) = entry_if state (remove address)
entries_of state (Send packet) = sent state packet (is_packet MAX_PACKET packet)
entries_of state (Tick moment) = entry_if state (tick moment)
entries_of state Pump = pump state

-- where there is no room for the entry of a line, or of a pump's next release
abbrev pub stop_of : State → Act → Option Room
stop_of state (Add address) = stop_at state (add address)
stop_of state (Remove address) = stop_at state (remove address)
stop_of state (Send packet) = stop_sent state packet (is_packet MAX_PACKET packet)
stop_of state (Tick moment) = stop_at state (tick moment)
stop_of state Pump = stop_at (after state (pump state)) release

-- the first fault of the packet of a line
pub record LineFault : Type 0 where
  pub line : ℕ
  pub fault : Fault

abbrev pub fault_at : ℕ → Option Fault → List LineFault
fault_at number None = []
fault_at number (Some fault) = record { line = number; fault = fault } ∷ []

-- a send whose bytes have a first fault
abbrev pub act_faults : ℕ → Act → List LineFault
act_faults number (Send packet) = fault_at number (packet_fault MAX_PACKET packet)
act_faults number _ = []

-- the lines of the faults, in the order of the script's lines
abbrev pub printed_faults : List LineFault → List ℕ
printed_faults faults = flat_map (λ fault. fault_text fault.line fault.fault) faults

-- the result of a script: its history, the faults in the order of the lines, and where it was
-- stopped the room that was wanted and the room that was left
pub record Played : Type 0 where
  pub history : List Entry
  pub faults : List LineFault
  pub stop : Option Room

-- the result of a line, then the result of those after it, unless the line stops the script
abbrev pub followed : List Entry → List LineFault → Option Room → Played → Played
followed entries faults (Some room) later =
    record { history = entries; faults = faults; stop = Some room }
followed entries faults None later =
    record {
      history = entries ++ later.history;
      faults = faults ++ later.faults;
      stop = later.stop;
    }

-- caller 0 plays the lines, up to the first event for whose entry there is no room
abbrev pub plain_from : State → List Line → Played
plain_from state [] = record { history = []; faults = []; stop = None }
plain_from state (line ∷ lines) =
    followed (entries_of state line.act) (act_faults line.number line.act) (stop_of state line.act)
    (plain_from (after state (entries_of state line.act)) lines)

abbrev pub plain : Limits → List Line → Played
plain caps lines = plain_from (opening caps) lines
