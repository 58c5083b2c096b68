use Rattle.std.proofs.Common.{codes}
use Rattle.osc_cues.proofs.Rows.{three_in}
use Rattle.osc_cues.proofs.advice.add_meant.Goals as goal

pub returns : goal.returns
returns c =
    three_in c.add-3.result c.args.out.now.items c.add.new.out.items c.add-2.new.out.items c.add-3.new.out.items (codes "; did you mean ")
    c.args.name.now (codes "?") c.in_ok-add.ensures c.in_ok-add-2.ensures c.add-3.ensures
