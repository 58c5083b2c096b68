use Rattle.std.proofs.Common.{length, ◌+◌, ◌-◌}
use borrow.Rule.Slice.PartMut.{post_of}
use Rattle.osc_tree.proofs.Gathered.{written}
use Rattle.osc_tree.proofs.choice.spell.Goals as goal

pub returns : goal.returns
returns c =
    let front = c.args.choice.now.front.now in
    let back = c.args.choice.now.back.now in
    let text = c.args.text.now in
    written front text back c.copy_from_slice.new.self c.copy_from_slice-2.new.self c.copy_from_slice-3.new.self
    (post_of 0 (length front) c.args.bytes.now) (length front + length text - length front)
    (length front + length text + length back - (length front + length text))
    c.copy_from_slice.ensures.after c.copy_from_slice-2.ensures.after c.copy_from_slice-3.ensures.after
