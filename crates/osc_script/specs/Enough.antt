-- How many bytes of recording are enough for a script.
use Rattle.std.specs.Prelude.{ℕ, ◌+◌, ◌*◌, List, length, if◌then◌else◌}
use Rattle.std.specs.List.{sum_by}
use Rattle.osc_atoms.specs.declared.limits.TheConstants.{MAX_PACKET}
use Rattle.osc_packet.specs.Reading.{is_packet, units_read}
use Rattle.osc_model.specs.Limits.{header_size, release_head_size}
use Rattle.osc_model.specs.Events.{Event, add, remove, submit, tick, ticked}
use Rattle.osc_model.specs.Recordings.{entry_size}
use Rattle.osc_script.specs.declared.act.Act.{Act}
use Rattle.osc_script.specs.declared.act.Act.TheVariants.{Add, Remove, Send, Tick, Pump}
use Rattle.osc_script.specs.declared.line.Line.{Line}
use Rattle.osc_script.specs.Adds.{count_adds}

-- the size of the entry of an add, a remove, a tick or a submit, which is the same whatever it is
-- answered
abbrev pub event_size : Event → ℕ
event_size event = entry_size event ticked

-- how many bytes the entry of an enrolment has
abbrev pub enrol_size : ℕ
enrol_size = 28

-- how many bytes a hit has in the entry of its release
abbrev pub hit_size : ℕ
hit_size = 8

-- the size of a line's own entry: that of an add, a remove, a tick and a send that is a packet
abbrev pub act_size : Act → ℕ
act_size (Add address) = event_size (add address)
act_size (Remove address) = event_size (remove address)
act_size (Send packet) = if is_packet MAX_PACKET packet then event_size (submit packet) else 0
act_size (Tick moment) = event_size (tick moment)
act_size Pump = 0

-- the units of a send that is a packet
abbrev pub act_units : Act → ℕ
act_units (Send packet) = if is_packet MAX_PACKET packet then length (units_read packet) else 0
act_units _ = 0

-- the messages of all its units
abbrev pub act_messages : Act → ℕ
act_messages (Send packet) = if is_packet MAX_PACKET packet
    then sum_by (λ unit. length unit.messages) (units_read packet) else 0
act_messages _ = 0

-- The header, so many enrolments, the lines' own entries, a release for each unit, and a hit of
-- each message for each method that is added.
abbrev pub enough_with : ℕ → List Line → ℕ
enough_with enrolments lines =
    header_size + enrol_size * enrolments + sum_by (λ line. act_size line.act) lines
    + release_head_size * sum_by (λ line. act_units line.act) lines
    + hit_size * (sum_by (λ line. act_messages line.act) lines * count_adds lines)
