-- Inside the crate: what the events of the code that can be played stand for.
use Rattle.osc_model.specs.Events.{Event, enrol, submit, add, remove, tick, release}
use Rattle.osc_replay.specs.declared.event.LawfulEvent.{LawfulEvent}
use Rattle.osc_replay.specs.declared.event.LawfulEvent.TheVariants.{Enrol, Submit, Add, Remove}
use Rattle.osc_replay.specs.declared.event.LawfulEvent.TheVariants.{Tick, Release}

-- the event
abbrev pub event_in : LawfulEvent → Event
event_in Enrol = enrol
event_in (Submit packet) = submit packet
event_in (Add address) = add address.now
event_in (Remove address) = remove address.now
event_in (Tick moment) = tick moment
event_in Release = release
