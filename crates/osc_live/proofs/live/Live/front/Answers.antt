use Rattle.std.proofs.Common.{ap, ◌∙◌}
use Rattle.osc_turn.specs.Rule.{number_of}
use Rattle.osc_turn.specs.Passes.{view}
use Rattle.osc_live.proofs.Answered.{still_enrolled, looked_named}
use Rattle.osc_live.proofs.live.Live.front.Goals as goal

pub invariant_of-result : goal.invariant_of-result
invariant_of-result g c =
    let v = view c.args.caller.pass in
    let w = view c.front-pass.result.0 in
    record {
      enrolled = still_enrolled c.callers_are_counted.ensures.grows c.args.caller.number v w c.front-pass.ensures.seen c.args.caller.enrolled;
      named = looked_named c.args.caller.number v w c.front-pass.ensures.not_taken c.front-pass.ensures.none_added c.args.caller.named;
      first = λ zero. ap number_of c.front-pass.ensures.not_taken ∙ c.args.caller.first zero;
    }
