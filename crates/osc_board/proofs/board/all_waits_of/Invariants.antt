use Rattle.std.proofs.Common.{◌≡◌, map, take}
use Rattle.osc_board.specs.Boards.{wait_of}
use Rattle.osc_board.proofs.board.all_waits_of.Given as goal

abbrev pub invariant-loop-one : goal.invariant-loop-one
invariant-loop-one l = l.waits.items ≡ map wait_of (take l.one-index l.waiting)
