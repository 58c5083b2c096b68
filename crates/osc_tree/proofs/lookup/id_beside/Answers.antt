use Rattle.std.proofs.Common.{sym}
use Rattle.osc_tree.proofs.lookup.id_beside.Goals as goal

pub returns-then-lies_below : goal.returns-then-lies_below
returns-then-lies_below c = sym (c.lies_below.ensures c.if-lies_below.true)
