use Rattle.std.proofs.Common.{List}
use Rattle.std.specs.VecDeque.{deque_capacity}
use Rattle.osc_core.specs.Telling.{told}
use Rattle.osc_live.specs.Redone.{IsOut, IsBack}
use Rattle.osc_live.proofs.back.put_back.Given as goal

-- the boxes from the id on are back
abbrev pub invariant-loop-id : goal.invariant-loop-id
invariant-loop-id g l =
    (whole : List g.row.M.Denot) → IsOut g.M.Method.keep g.M.Method.heard whole (told g.M.Method.keep g.M.Method.heard l.fn.core.boxes.items) l.fn.removed.items
    l.fn.bank.items l.fn.taken (deque_capacity l.fn.bank)
    → IsBack g.M.Method.keep g.M.Method.heard whole l.id l.kept.items l.removed.items l.bank.items (deque_capacity l.bank)

abbrev pub decreases-loop-id : goal.decreases-loop-id
decreases-loop-id g l = l.id
