use Rattle.std.proofs.Common.{ap, ◌∙◌}
use Rattle.osc_model.specs.Events.{submit}
use Rattle.osc_model.specs.History.{Performance}
use Rattle.osc_model.proofs.Onward.{caps_stay}
use Rattle.osc_live.proofs.Marks.{clock_there}
use Rattle.osc_live.proofs.submission.ClockedSubmitAskSubmission.ask.Goals as goal

pub returns-clause-tells : goal.returns-clause-tells
returns-clause-tells g c before after one two starts =
    let old = c.args.core.now.performance in
    c.clock-clock.ensures
    ∙ clock_there old.caps c.submit-answer.new.self.performance _ after two
    (ap (λ (p : Performance). p.caps) c.submit-answer.ensures.performance ∙ caps_stay old c.args.caller (submit c.args.self.packet.now))
