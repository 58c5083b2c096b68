use Rattle.std.proofs.Common.{length, ap, arith}
use Rattle.osc_model.specs.Counts.{queued_blocks}
use Rattle.osc_core.proofs.Waits.{alone_is, is_alone, lone_blocks, none_used}
use Rattle.osc_core.proofs.backlog.Backlog.free_blocks.Goals as goal

pub returns-in-Some : goal.returns-in-Some
returns-in-Some c =
    let w = c.args.self.now in
    let lone = c.in-Some.field-0 in
    let alone = is_alone w.lone lone w.bytes.items w.queue.items w.queue.limit (length w.store) c.in-Some.is c.requires.alone in
    omega (
      arith,
      c.free.ensures,
      none_used alone c.requires.kept,
      alone.block,
      ap queued_blocks (alone_is w.lone lone w.bytes.items w.store w.queue.items c.in-Some.is),
      lone_blocks lone alone,
    )
