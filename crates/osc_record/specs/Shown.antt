-- What events and answers of the code stand for.
use Rattle.std.specs.Prelude.{◌≡◌, ℕ, ◌%◌, List, [], length, map}
use Rattle.osc_atoms.specs.declared.room.Room.{Room as RoomOf}
use Rattle.osc_message.specs.declared.argument.Arg.{Arg}
use Rattle.osc_message.specs.Messages.{Argument}
use Rattle.osc_message.specs.Shown.{shown}
use Rattle.osc_tree.specs.Adding.{taken, under_method, is_container, methods_full, nodes_full}
use Rattle.osc_model.specs.Events as model
use Rattle.osc_model.specs.Events.{enrol, submit, add, remove, tick, release, number, callers_full}
use Rattle.osc_model.specs.Events.{queued, units_full, pool_full, added, refused, removed}
use Rattle.osc_model.specs.Events.{not_there, ticked, clock_back, released}
use Rattle.osc_record.specs.declared.event.Event.{Event}
use Rattle.osc_record.specs.declared.event.Event.TheVariants.{Enrol, Submit, Add, Remove, Tick}
use Rattle.osc_record.specs.declared.event.Event.TheVariants.{Release}
use Rattle.osc_record.specs.declared.event.Answer.{Answer}
use Rattle.osc_record.specs.declared.event.Answer.TheVariants.{Number, CallersFull, Queued}
use Rattle.osc_record.specs.declared.event.Answer.TheVariants.{UnitsFull, PoolFull, Added, Taken}
use Rattle.osc_record.specs.declared.event.Answer.TheVariants.{UnderMethod, IsContainer}
use Rattle.osc_record.specs.declared.event.Answer.TheVariants.{MethodsFull, NodesFull, Removed}
use Rattle.osc_record.specs.declared.event.Answer.TheVariants.{NotThere, Ticked, ClockBack}
use Rattle.osc_record.specs.declared.event.Answer.TheVariants.{Released}
use Rattle.osc_record.specs.declared.parts.Parts.{Parts}
use Rattle.osc_model.specs.Events.{Entry as Recorded}
use Rattle.osc_model.specs.Recordings.{hits_in}
use Rattle.osc_record.specs.declared.rows.Numbers.{Numbers}

-- the event
abbrev pub event_of : Event → model.Event
event_of Enrol = enrol
event_of (Submit packet) = submit packet.now
event_of (Add address) = add address.now
event_of (Remove address) = remove address.now
event_of (Tick moment) = tick moment
event_of Release = release

-- how much is needed, and how much is free
abbrev pub room_of : RoomOf → model.Room
room_of room = record { need = room.need; free = room.free }

-- the answer
abbrev pub answer_of : Answer → model.Answer
answer_of (Number n) = number n
answer_of CallersFull = callers_full
answer_of (Queued first count late) = queued first count late
answer_of (UnitsFull room) = units_full (room_of room)
answer_of (PoolFull room) = pool_full (room_of room)
answer_of (Added id) = added id
answer_of (Taken id) = refused (taken id)
answer_of (UnderMethod id) = refused (under_method id)
answer_of IsContainer = refused is_container
answer_of (MethodsFull limit) = refused (methods_full limit)
answer_of (NodesFull room) = refused (nodes_full room.need room.free)
answer_of (Removed id) = removed id
answer_of NotThere = not_there
answer_of Ticked = ticked
answer_of (ClockBack kept) = clock_back kept
answer_of (Released unit hits) = released unit (hits_in hits.now)

-- the bytes in which the hits of a release stand
abbrev pub hit_bytes : Answer → List ℕ
hit_bytes (Released unit hits) = hits.now
hit_bytes _ = []

-- they are eights
abbrev pub HasWholeHits : Answer → Type 0
HasWholeHits answer = length (hit_bytes answer) % 8 ≡ 0

-- the arguments of a message
abbrev pub listed : List Arg → List Argument
listed args = map shown args

-- the caller, the event and the answer
abbrev pub parts_of : Parts → Recorded
parts_of parts =
    record { caller = parts.caller; event = event_of parts.event; answer = answer_of parts.answer }

-- the code of a submit's answer, and its three numbers
abbrev pub numbers_of : Numbers → ℕ × ℕ × ℕ × ℕ
numbers_of answer = (answer.code, answer.first, answer.second, answer.third)
