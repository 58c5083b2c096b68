use Rattle.std.proofs.Common.{ap, ◌∙◌}
use Rattle.osc_turn.specs.Rule.{number_of}
use Rattle.osc_turn.specs.Passes.{view}
use Rattle.osc_live.proofs.Asks.{some_there, done_there, busy_there}
use Rattle.osc_live.proofs.Answered.{called, still_enrolled, still_named, looked_named}
use Rattle.osc_live.proofs.live.Live.try_play.Goals as goal

pub returns-in-Some-clause-call : goal.returns-in-Some-clause-call
returns-in-Some-clause-call g c =
    let turn = c.try_act-pass.ensures in
    let ran = c.in-Done.field-0 in
    called c.args.self.now.caps _ c.args.caller.number _ (g.A.Ask.event c.args.asked) (g.A.Ask.says c.in-Some.answer) ran (view c.args.caller.pass)
    (view c.try_act-pass.result.0) c.new.ensures.caps c.new.ensures.caller turn.seen
    (done_there _ _ ran c.in-Done.is turn.once) (done_there _ _ ran c.in-Done.is turn.counted) (done_there _ _ ran c.in-Done.is turn.ran)
    (some_there _ _ c.in-Some.answer c.in-Some.is (done_there _ _ ran c.in-Done.is turn.ran).did_so)

pub returns-in-Some-clause-words : goal.returns-in-Some-clause-words
returns-in-Some-clause-words g c = done_there _ _ c.in-Done.field-0 c.in-Done.is c.try_act-pass.ensures.words

pub invariant_of-result : goal.invariant_of-result
invariant_of-result g c =
    let turn = c.try_act-pass.ensures in
    let ran = c.in-Done.field-0 in
    let v = view c.args.caller.pass in
    let w = view c.try_act-pass.result.0 in
    let event = g.A.Ask.event c.args.asked in
    let once = done_there _ _ ran c.in-Done.is turn.once in
    let call =
    called c.args.self.now.caps _ c.args.caller.number _ event (g.A.Ask.says c.in-Some.answer) ran v w c.new.ensures.caps c.new.ensures.caller turn.seen
    once (done_there _ _ ran c.in-Done.is turn.counted) (done_there _ _ ran c.in-Done.is turn.ran)
    (some_there _ _ c.in-Some.answer c.in-Some.is (done_there _ _ ran c.in-Done.is turn.ran).did_so) in
    record {
      enrolled = still_enrolled c.callers_are_counted.ensures.grows c.args.caller.number v w turn.seen c.args.caller.enrolled;
      named = still_named c.args.self.now.caps c.args.caller.number event call.0 v w call.2 c.args.caller.named;
      first = λ zero. ap number_of once ∙ c.args.caller.first zero;
    }

pub invariant_of-result-in-Busy : goal.invariant_of-result-in-Busy
invariant_of-result-in-Busy g c =
    let turn = c.try_act-pass.ensures in
    let v = view c.args.caller.pass in
    let w = view c.try_act-pass.result.0 in
    let none = busy_there _ _ c.in-Busy.found c.in-Busy.is turn.not_taken in
    record {
      enrolled = still_enrolled c.callers_are_counted.ensures.grows c.args.caller.number v w turn.seen c.args.caller.enrolled;
      named = looked_named c.args.caller.number v w none (busy_there _ _ c.in-Busy.found c.in-Busy.is turn.none_added) c.args.caller.named;
      first = λ zero. ap number_of none ∙ c.args.caller.first zero;
    }
