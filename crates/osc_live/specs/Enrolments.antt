-- What an enrolment is answered.
use Rattle.std.specs.Prelude.{Result, Ok, Err}
use Rattle.osc_model.specs.Events.{Answer, number, callers_full, record_full}
use Rattle.osc_record.specs.Shown.{room_of}
use Rattle.osc_live.specs.declared.caller.Caller.{Caller}
use Rattle.osc_live.specs.declared.guest.Guest.{Guest}
use Rattle.osc_live.specs.declared.guest.EnrolRefusal.{EnrolRefusal}
use Rattle.osc_live.specs.declared.guest.EnrolRefusal.TheVariants as refusal

-- why a guest isn't enrolled
abbrev pub refusal_of : EnrolRefusal → Answer
refusal_of (refusal.RecordFull room) = record_full (room_of room)
refusal_of refusal.CallersFull = callers_full

-- the new caller's number, or why there is none
abbrev pub enrolment_of : Result Caller (EnrolRefusal × Guest) → Answer
enrolment_of (Ok new) = number new.number
enrolment_of (Err refused) = refusal_of refused.0
