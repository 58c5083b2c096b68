use Rattle.std.proofs.Common.{ap, arith}
use Rattle.osc_packet.specs.Reading.{units_read}
use Rattle.osc_model.specs.Counts.{queued_blocks}
use Rattle.osc_model.proofs.Queues.{all_blocks}
use Rattle.osc_replay.proofs.server.Server.submit.Goals as goal

pub invariant_of-self : goal.invariant_of-self
invariant_of-self c =
    let s = c.self.inside in
    record {
      room = c.self.invariant.room;
      counted = omega (
        arith,
        ap queued_blocks c.enter_packet.ensures.items,
        all_blocks s.late s.clock s.next_unit
            (units_read c.args.packet.now) s.queue.items,
        c.need_of-count.ensures.blocks,
        c.self.invariant.counted,
      );
    }
