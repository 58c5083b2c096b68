use Rattle.std.proofs.Common.{[], refl}
use Rattle.std.specs.List.{flat_map}
use Rattle.osc_print.specs.Entries.{invocation_text}
use Rattle.osc_model.specs.Events.{release, released}
use Rattle.osc_model.specs.Step.{step}
use Rattle.osc_model.specs.Recordings.{hits_in}
use Rattle.osc_record.specs.Left.{placed_of}
use Rattle.osc_record.specs.Shown.{answer_of}
use Rattle.osc_replay.specs.Events.{event_in}
use Rattle.osc_replay.proofs.Formed.{lawful_is}
use Rattle.osc_replay.proofs.Agreeing.{made_fits, made_small, played_answered, played_released}
use Rattle.osc_replay.proofs.checked.check_row.Goals as goal

pub play-requires-clause-lawful : goal.play-requires-clause-lawful
play-requires-clause-lawful c = lawful_is (event_in c.args.row.event) c.args.row.lawful

pub agreed-requires-clause-computed : goal.agreed-requires-clause-computed
agreed-requires-clause-computed c =
    made_fits c.a_legal_history_is_recordable.ensures.next c.args.server.now c.play.new.self (placed_of c.args.row.entry).entry
    (answer_of c.in-Answered.answer) []
    (played_answered c.args.server.now c.play.new.self c.args.row c.play.new.calls c.in_ok-answer.field-0 c.in-Answered.answer c.requires.reached
    c.in-Answered.is c.in_ok-answer.ensures.comes)

pub agreed-requires-clause-computed_small : goal.agreed-requires-clause-computed_small
agreed-requires-clause-computed_small c =
    made_small c.a_performance_goes_on.ensures.legal c.a_legal_history_is_recordable.ensures.within c.args.server.now c.play.new.self
    (placed_of c.args.row.entry).entry (answer_of c.in-Answered.answer) []
    (played_answered c.args.server.now c.play.new.self c.args.row c.play.new.calls c.in_ok-answer.field-0 c.in-Answered.answer c.requires.reached
    c.in-Answered.is c.in_ok-answer.ensures.comes)

pub agreed-requires-in-Released-clause-computed : goal.agreed-requires-in-Released-clause-computed
agreed-requires-in-Released-clause-computed c =
    made_fits c.a_legal_history_is_recordable.ensures.next c.args.server.now c.play.new.self (placed_of c.args.row.entry).entry
    (released c.in-Released.unit (hits_in c.as_slice-hits.result.now))
    (flat_map invocation_text (step c.args.server.now release).invocations)
    (played_released c.args.server.now c.play.new.self c.args.row c.play.new.calls c.in_ok-answer.field-0 c.in-Released.unit c.as_slice-hits.result.now
    (flat_map invocation_text (step c.args.server.now release).invocations) c.requires.reached c.in-Released.is
    c.in_ok-answer.ensures.comes c.as_slice-hits.ensures.value refl)

pub agreed-requires-in-Released-clause-computed_small : goal.agreed-requires-in-Released-clause-computed_small
agreed-requires-in-Released-clause-computed_small c =
    made_small c.a_performance_goes_on.ensures.legal c.a_legal_history_is_recordable.ensures.within c.args.server.now c.play.new.self
    (placed_of c.args.row.entry).entry (released c.in-Released.unit (hits_in c.as_slice-hits.result.now))
    (flat_map invocation_text (step c.args.server.now release).invocations)
    (played_released c.args.server.now c.play.new.self c.args.row c.play.new.calls c.in_ok-answer.field-0 c.in-Released.unit c.as_slice-hits.result.now
    (flat_map invocation_text (step c.args.server.now release).invocations) c.requires.reached c.in-Released.is
    c.in_ok-answer.ensures.comes c.as_slice-hits.ensures.value refl)
