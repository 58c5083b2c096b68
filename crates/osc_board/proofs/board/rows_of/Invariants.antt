use Rattle.std.proofs.Common.{◌≡◌, map, take}
use Rattle.osc_board.specs.Boards.{row_of}
use Rattle.osc_board.proofs.board.rows_of.Given as goal

abbrev pub invariant-loop-method : goal.invariant-loop-method
invariant-loop-method l = l.rows.items ≡ map (row_of l.past l.lasts) (take l.method-index l.methods)
