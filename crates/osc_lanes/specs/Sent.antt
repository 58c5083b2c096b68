-- What a send of bytes is answered.
use Rattle.std.specs.Prelude.{◌≡◌, ℕ, List, Option, Some, None}
use Rattle.osc_atoms.specs.declared.fault.Fault.{Fault}
use Rattle.osc_atoms.specs.declared.limits.TheConstants.{MAX_PACKET}
use Rattle.osc_packet.specs.Reading.{packet_fault}
use Rattle.osc_model.specs.Events.{Room, room_in, submit}
use Rattle.osc_core.specs.Answers.{submitted_of}
use Rattle.osc_turn.specs.declared.view.Entry.{Entry as Seen}
use Rattle.osc_turn.specs.History.{texts}
use Rattle.osc_live.specs.declared.submission.Submission.{Submission}
use Rattle.osc_live.specs.Seen.{clock_in}
use Rattle.osc_life.specs.Holders.{Holder}
use Rattle.osc_lanes.specs.Shares.{Answered}

-- the room of an answer, if there is one and the recording was full
abbrev pub stop_of : Option Submission → Option Room
stop_of None = None
stop_of (Some given) = room_in (submitted_of given.answer)

-- The bytes are a packet, and this is what the server answered to its submit, with the clock that
-- it had; or they have a fault, and nothing was submitted.
abbrev pub IsAnswered : Holder → List ℕ → Option Submission → List Seen → List Seen → Type 0
IsAnswered holder bytes (Some given) here there = (packet_fault MAX_PACKET bytes ≡ None)
    × Answered holder (submit bytes) (submitted_of given.answer) here there
    × (given.clock ≡ clock_in holder.caps (texts there))
IsAnswered holder bytes None here there =
    (fault : Fault) × (packet_fault MAX_PACKET bytes ≡ Some fault) × (there ≡ here)
