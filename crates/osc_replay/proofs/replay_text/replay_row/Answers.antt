use Rattle.std.proofs.Common.{[], ◌∙◌}
use Rattle.osc_model.specs.Events.{released}
use Rattle.osc_model.specs.Recordings.{hits_in}
use Rattle.osc_record.specs.Left.{placed_of}
use Rattle.osc_record.specs.Shown.{answer_of}
use Rattle.osc_replay.specs.Events.{event_in}
use Rattle.osc_replay.proofs.Formed.{lawful_is}
use Rattle.osc_replay.proofs.Agreeing.{made_fits, made_small, played_answered, played_released, lines_printed}
use Rattle.osc_replay.proofs.replay_text.replay_row.Goals as goal

pub play-requires-clause-lawful : goal.play-requires-clause-lawful
play-requires-clause-lawful c = lawful_is (event_in c.args.row.event) c.args.row.lawful

pub print_agreed-requires-clause-computed : goal.print_agreed-requires-clause-computed
print_agreed-requires-clause-computed c =
    made_fits c.a_legal_history_is_recordable.ensures.next c.args.server.now c.play.new.self (placed_of c.args.row.entry).entry
    (answer_of c.in-Answered.answer) []
    (played_answered c.args.server.now c.play.new.self c.args.row c.play.new.calls c.in_ok-answer.field-0 c.in-Answered.answer c.requires.reached
    c.in-Answered.is c.in_ok-answer.ensures.comes)

pub print_agreed-requires-clause-computed_small : goal.print_agreed-requires-clause-computed_small
print_agreed-requires-clause-computed_small c =
    made_small c.a_performance_goes_on.ensures.legal c.a_legal_history_is_recordable.ensures.within c.args.server.now c.play.new.self
    (placed_of c.args.row.entry).entry (answer_of c.in-Answered.answer) []
    (played_answered c.args.server.now c.play.new.self c.args.row c.play.new.calls c.in_ok-answer.field-0 c.in-Answered.answer c.requires.reached
    c.in-Answered.is c.in_ok-answer.ensures.comes)

pub print_agreed-requires-in-Released-clause-computed : goal.print_agreed-requires-in-Released-clause-computed
print_agreed-requires-in-Released-clause-computed c =
    made_fits c.a_legal_history_is_recordable.ensures.next c.args.server.now c.play.new.self (placed_of c.args.row.entry).entry
    (released c.in-Released.unit (hits_in c.as_slice-hits.result.now)) c.bytes.result.now
    (played_released c.args.server.now c.play.new.self c.args.row c.play.new.calls c.in_ok-answer.field-0 c.in-Released.unit c.as_slice-hits.result.now
    c.bytes.result.now c.requires.reached c.in-Released.is c.in_ok-answer.ensures.comes c.as_slice-hits.ensures.value
    (c.bytes.ensures ∙ lines_printed c.args.server.now c.play.new.self c.play.new.calls c.in_ok-answer.field-0 c.in-Released.unit c.args.row.entry.caller
    (event_in c.args.row.event) (c.play.ensures.prints ∙ c.requires.printed) c.in-Released.is c.in_ok-answer.ensures.comes))

pub print_agreed-requires-in-Released-clause-computed_small : goal.print_agreed-requires-in-Released-clause-computed_small
print_agreed-requires-in-Released-clause-computed_small c =
    made_small c.a_performance_goes_on.ensures.legal c.a_legal_history_is_recordable.ensures.within c.args.server.now c.play.new.self
    (placed_of c.args.row.entry).entry (released c.in-Released.unit (hits_in c.as_slice-hits.result.now)) c.bytes.result.now
    (played_released c.args.server.now c.play.new.self c.args.row c.play.new.calls c.in_ok-answer.field-0 c.in-Released.unit c.as_slice-hits.result.now
    c.bytes.result.now c.requires.reached c.in-Released.is c.in_ok-answer.ensures.comes c.as_slice-hits.ensures.value
    (c.bytes.ensures ∙ lines_printed c.args.server.now c.play.new.self c.play.new.calls c.in_ok-answer.field-0 c.in-Released.unit c.args.row.entry.caller
    (event_in c.args.row.event) (c.play.ensures.prints ∙ c.requires.printed) c.in-Released.is c.in_ok-answer.ensures.comes))
