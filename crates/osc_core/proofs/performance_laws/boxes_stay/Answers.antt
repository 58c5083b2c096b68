use Rattle.std.proofs.Common.{ap, ◌∙◌}
use Rattle.osc_model.specs.State.{State}
use Rattle.osc_model.specs.Events.{release}
use Rattle.osc_model.specs.History.{state_of}
use Rattle.osc_model.proofs.Onward.{caps_stay}
use Rattle.osc_model.proofs.Boxes.{release_keeps}
use Rattle.osc_core.proofs.Staying.{quiet_silent}
use Rattle.osc_core.proofs.performance_laws.boxes_stay.Goals as goal

pub returns-clause-quiet : goal.returns-clause-quiet
returns-clause-quiet c performance caller event boxes quiet heard =
    let silent = quiet_silent (state_of performance) event quiet in
    c.boxes_hear_the_history.ensures.others performance caller event boxes heard silent.methods silent.none

pub returns-clause-refused : goal.returns-clause-refused
returns-clause-refused c performance caller event boxes refused heard =
    c.boxes_hear_the_history.ensures.others performance caller event boxes heard
    (ap (λ (s : State). s.methods) (c.a_refusal_changes_nothing.ensures.state (state_of performance) event refused))
    (c.a_refusal_changes_nothing.ensures.silent (state_of performance) event refused)

pub returns-clause-quiet_methods : goal.returns-clause-quiet_methods
returns-clause-quiet_methods c performance caller event quiet =
    ap (λ (s : State). s.methods) (c.a_performance_goes_on.ensures.state performance caller event) ∙ (quiet_silent (state_of performance) event quiet).methods

pub returns-clause-refused_methods : goal.returns-clause-refused_methods
returns-clause-refused_methods c performance caller event refused =
    ap (λ (s : State). s.methods) (c.a_performance_goes_on.ensures.state performance caller event)
    ∙ ap (λ (s : State). s.methods) (c.a_refusal_changes_nothing.ensures.state (state_of performance) event refused)

pub returns-clause-caps : goal.returns-clause-caps
returns-clause-caps c = caps_stay

pub returns-clause-release_methods : goal.returns-clause-release_methods
returns-clause-release_methods c performance caller =
    ap (λ (s : State). s.methods) (c.a_performance_goes_on.ensures.state performance caller release) ∙ release_keeps (state_of performance)
