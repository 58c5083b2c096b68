use Rattle.std.proofs.Common.{ap, ◌∙◌}
use Rattle.osc_turn.specs.declared.view.View.{View}
use Rattle.osc_turn.specs.Rule.{number_of}
use Rattle.osc_turn.specs.Passes.{view}
use Rattle.osc_live.proofs.Answered.{still_enrolled, kept_named}
use Rattle.osc_live.proofs.live.Live.read.Goals as goal

pub invariant_of-result : goal.invariant_of-result
invariant_of-result g c =
    let read = c.copy-pass.ensures.read in
    let v = view c.args.caller.pass in
    let w = view c.copy-pass.result in
    record {
      enrolled = still_enrolled c.callers_are_counted.ensures.grows c.args.caller.number v w read.goes_on c.args.caller.enrolled;
      named = kept_named c.args.caller.number v w (ap number_of read.once) (ap (λ (z : View). z.opened_at) read.once) read.own_same c.args.caller.named;
      first = λ zero. (ap number_of read.once) ∙ c.args.caller.first zero;
    }
