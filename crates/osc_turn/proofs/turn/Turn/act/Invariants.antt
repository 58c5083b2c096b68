use Rattle.std.proofs.Common.{◌≡◌, []}
use Rattle.osc_turn.specs.Passes.{view}
use Rattle.osc_turn.proofs.Acting.{Waits}
use Rattle.osc_turn.proofs.turn.Turn.act.Given as goal

abbrev pub invariant-loop : goal.invariant-loop
invariant-loop g l = (l.seat.table_id ≡ l.initial.seat.table_id) × (l.seat.me.1 ≡ []) × Waits (view l.fn.pass) l.seat.me.0 × (l.job ≡ l.initial.job)
