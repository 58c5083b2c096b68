use Rattle.std.proofs.Common.{ap, ◌∙◌}
use Rattle.osc_turn.specs.Rule.{number_of}
use Rattle.osc_turn.specs.Passes.{view}
use Rattle.osc_live.proofs.Asks.{some_there}
use Rattle.osc_live.proofs.Answered.{called, still_enrolled, still_named}
use Rattle.osc_live.proofs.live.Live.play.Goals as goal

pub returns-clause-call : goal.returns-clause-call
returns-clause-call g c =
    let turn = c.act-pass.ensures in
    called c.args.self.now.caps _ c.args.caller.number _ (g.A.Ask.event c.args.asked) (g.A.Ask.says c.in-Some.answer) c.act-pass.result.1
    (view c.args.caller.pass) (view c.act-pass.result.0) c.new.ensures.caps c.new.ensures.caller turn.seen turn.once turn.counted turn.ran
    (some_there _ _ c.in-Some.answer c.in-Some.is turn.ran.did_so)

pub invariant_of-result : goal.invariant_of-result
invariant_of-result g c =
    let turn = c.act-pass.ensures in
    let v = view c.args.caller.pass in
    let w = view c.act-pass.result.0 in
    let event = g.A.Ask.event c.args.asked in
    let call =
    called c.args.self.now.caps _ c.args.caller.number _ event
    (g.A.Ask.says c.in-Some.answer) c.act-pass.result.1 v w c.new.ensures.caps c.new.ensures.caller turn.seen turn.once turn.counted turn.ran
    (some_there _ _ c.in-Some.answer c.in-Some.is turn.ran.did_so) in
    record {
      enrolled = still_enrolled c.callers_are_counted.ensures.grows c.args.caller.number v w turn.seen c.args.caller.enrolled;
      named = still_named c.args.self.now.caps c.args.caller.number event call.0 v w call.2 c.args.caller.named;
      first = λ zero. ap number_of turn.once ∙ c.args.caller.first zero;
    }
