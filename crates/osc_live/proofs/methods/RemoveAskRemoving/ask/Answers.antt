use Rattle.std.proofs.Common.{ap, ◌∙◌}
use Rattle.osc_model.specs.Events.{remove}
use Rattle.osc_model.specs.History.{Performance}
use Rattle.osc_model.proofs.Onward.{caps_stay}
use Rattle.osc_live.proofs.Marks.{removed_tells}
use Rattle.osc_live.proofs.methods.RemoveAskRemoving.ask.Goals as goal

pub returns-clause-tells : goal.returns-clause-tells
returns-clause-tells g c before after one two starts =
    let old = c.args.core.now.performance in
    let new = c.remove.new.self.performance in
    let address = c.args.self.address.now in
    removed_tells g.M.Method.keep g.M.Method.heard c.remove.result old new c.args.caller address _ _ before after c.a_performance_goes_on.ensures.invoked
    one two starts c.remove.ensures.performance
    (ap (λ (p : Performance). p.caps) c.remove.ensures.performance ∙ caps_stay old c.args.caller (remove address)) c.remove.ensures.answer
    c.remove.ensures.removed
