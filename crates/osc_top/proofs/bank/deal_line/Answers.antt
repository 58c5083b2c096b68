use Rattle.std.proofs.Common.{take}
use Rattle.std.specs.Vec.Iter.{into_iter_items}
use Rattle.osc_script.specs.Adds.{adds_of}
use Rattle.osc_top.proofs.Dealt.{part_set}
use Rattle.osc_top.proofs.bank.deal_line.Goals as goal

pub returns-clause-parts : goal.returns-clause-parts
returns-clause-parts g c =
    let done = c.in_ok-put_line.ensures in
    part_set c.args.line (take (adds_of c.args.line.act) (into_iter_items c.args.boxes.now)) c.args.parts.now.items c.args.line.lane c.index_mut.result.now
    c.put_line.new.part c.requires.lane c.index_mut.ensures.value (λ i. record { lines = done.lines i; boxes = done.boxes i })
