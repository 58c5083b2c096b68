use Rattle.std.specs.Prelude.{codes}
use Rattle.std.proofs.lemmas.Result.{on_ok_weaker}
use Rattle.osc_shown.specs.Numbers.{thousands}
use Rattle.osc_shown.proofs.Joining.{three_parts}
use Rattle.osc_shown.proofs.summary.add_size.Goals as goal

pub returns : goal.returns
returns c =
    on_ok_weaker c.add-2.result
    (three_parts c.args.out.now.items c.add.new.out.items c.add_thousands.new.out.items c.add-2.new.out.items (codes "-- a recording of ")
    (thousands c.args.size) (codes " bytes in ") c.in_ok-add.ensures c.in_ok-add_thousands.ensures)
    c.add-2.ensures
