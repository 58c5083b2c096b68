use Rattle.std.proofs.Common.{ap, ◌∙◌}
use Rattle.osc_turn.specs.Rule.{number_of}
use Rattle.osc_turn.specs.Passes.{view}
use Rattle.osc_live.proofs.Answered.{still_enrolled}
use Rattle.osc_live.proofs.Meeting.{met_named}
use Rattle.osc_live.proofs.live.Live.meet.Goals as goal

pub invariant_of-result-2 : goal.invariant_of-result-2
invariant_of-result-2 g c =
    let meet = c.meet-pass.ensures in
    let v = view c.args.into.pass in
    let w = view c.meet-pass.result.1 in
    record {
      enrolled = still_enrolled c.callers_are_counted.ensures.grows c.args.into.number v w meet.seen c.args.into.enrolled;
      named = met_named c.args.into.number v (view c.args.from.pass) w meet.into meet.none_added c.args.into.named;
      first = λ zero. ap number_of meet.into ∙ c.args.into.first zero;
    }
