-- What happened to the units of a packet, by what was answered to it.
use Rattle.std.specs.Prelude.{ℕ, [], nat_lt, if◌then◌else◌}
use Rattle.osc_core.specs.declared.answers.Submitted.{Submitted}
use Rattle.osc_core.specs.declared.answers.Submitted.TheVariants as submitted
use Rattle.osc_live.specs.declared.submission.Submission.{Submission}
use Rattle.osc_model.specs.declared.late.Late.{Late}
use Rattle.osc_model.specs.declared.late.Late.TheVariants.{Deliver, Discard}
use Rattle.osc_model.specs.Step.{is_late}
use Rattle.osc_shown.specs.declared.answered.Answered.{Answered}
use Rattle.osc_shown.specs.declared.answered.Answered.TheVariants as answered

-- what becomes of a late unit
abbrev pub over : Late → Answered
over Deliver = answered.Late
over Discard = answered.Discarded

-- what becomes of a unit with this tag where the clock stands so
abbrev pub queued : Late → ℕ → ℕ → Answered
queued late clock tag =
    if nat_lt clock tag then answered.Waiting
    else if is_late clock (record { tag = tag; messages = [] }) then over late else answered.Due

-- what happened to a unit of a packet to which this was answered
abbrev pub answered_so : Late → ℕ → Submitted → ℕ → Answered
answered_so late clock (submitted.Queued first count discarded) tag = queued late clock tag
answered_so late clock (submitted.RecordFull room) tag = answered.RecordFull
answered_so late clock (submitted.UnitsFull room) tag = answered.UnitsFull
answered_so late clock (submitted.PoolFull room) tag = answered.PoolFull

abbrev pub answer_of : Late → Submission → ℕ → Answered
answer_of late submission tag = answered_so late submission.clock submission.answer tag
