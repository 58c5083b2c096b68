use Rattle.std.proofs.Common.{◌∙◌}
use Rattle.osc_packet.specs.Reading.{packet_fault}
use Rattle.osc_c.specs.Held.{played}
use Rattle.osc_c.proofs.FirstCaller.{submit_0, submit_done}
use Rattle.osc_c.proofs.events.osc_server_submit.Goals as goal

pub returns-clause-answer : goal.returns-clause-answer
returns-clause-answer c =
    c.osc_server_submit_by.ensures.answer
    ∙ submit_0 (packet_fault 65504 c.args.bytes.now) (played c.args.handle.now.spot.held) c.args.bytes.now

pub returns-clause-performance : goal.returns-clause-performance
returns-clause-performance c =
    c.osc_server_submit_by.ensures.performance
    ∙ submit_done (packet_fault 65504 c.args.bytes.now) (played c.args.handle.now.spot.held) c.args.bytes.now
