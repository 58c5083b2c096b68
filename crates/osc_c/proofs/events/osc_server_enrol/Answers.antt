use Rattle.std.proofs.Common.{◌∙◌}
use Rattle.osc_model.specs.Events.{enrol}
use Rattle.osc_c.specs.Held.{played}
use Rattle.osc_c.proofs.FirstCaller.{event_answered, event_done}
use Rattle.osc_c.proofs.events.osc_server_enrol.Goals as goal

pub returns-clause-answer : goal.returns-clause-answer
returns-clause-answer c = c.osc_server_enrol_by.ensures.answer ∙ event_answered (played c.args.handle.now.spot.held) enrol

pub returns-clause-performance : goal.returns-clause-performance
returns-clause-performance c = c.osc_server_enrol_by.ensures.performance ∙ event_done (played c.args.handle.now.spot.held) enrol
