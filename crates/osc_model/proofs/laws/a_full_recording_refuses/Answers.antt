use Rattle.osc_model.proofs.Refusals.{full_refuses, room_records, none_decided}
use Rattle.osc_model.proofs.laws.a_full_recording_refuses.Goals as goal

pub returns-clause-full : goal.returns-clause-full
returns-clause-full c = full_refuses

pub returns-clause-room : goal.returns-clause-room
returns-clause-room c = room_records

pub returns-clause-nothing_due : goal.returns-clause-nothing_due
returns-clause-nothing_due c = none_decided
