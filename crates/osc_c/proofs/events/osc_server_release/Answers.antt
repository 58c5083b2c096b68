use Rattle.std.proofs.Common.{◌∙◌}
use Rattle.osc_model.specs.Events.{release}
use Rattle.osc_c.specs.Held.{played}
use Rattle.osc_c.proofs.FirstCaller.{event_answered, event_done, release_0}
use Rattle.osc_c.proofs.events.osc_server_release.Goals as goal

pub returns-clause-answer : goal.returns-clause-answer
returns-clause-answer c = c.osc_server_release_by.ensures.answer ∙ event_answered (played c.args.handle.now.spot.held) release

pub returns-clause-performance : goal.returns-clause-performance
returns-clause-performance c = c.osc_server_release_by.ensures.performance ∙ event_done (played c.args.handle.now.spot.held) release

pub returns-clause-unread : goal.returns-clause-unread
returns-clause-unread c = c.osc_server_release_by.ensures.unread ∙ release_0 c.args.handle.now.spot.held
