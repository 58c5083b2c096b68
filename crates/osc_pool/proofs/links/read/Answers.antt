use Rattle.std.proofs.Common.{length, refl, arith}
use Rattle.osc_pool.proofs.Writing.{reading_begins, reading_inside, reading_more}
use Rattle.osc_pool.proofs.links.read.Goals as goal

pub bounds-blocks-block : goal.bounds-blocks-block
bounds-blocks-block c = reading_inside c.loop-done.invariant c.requires.path (omega (arith, c.loop-done.invariant.long))

pub loop-done-preserved : goal.loop-done-preserved
loop-done-preserved c =
    reading_more c.loop-done.invariant c.requires.path (omega (arith, c.loop-done.invariant.long)) c.min-end.result c.copy_from_slice-in-loop-done.new.self c.requires.whole
    (omega (arith, c.min-end.ensures, c.loop-done.invariant.long)) c.copy_from_slice-in-loop-done.ensures.after

pub bounds-blocks-first : goal.bounds-blocks-first
bounds-blocks-first c =
    reading_inside (reading_begins c.args.blocks.now c.args.next.now c.args.first (length c.args.out.now) c.args.out.now refl) c.requires.path (omega arith)
