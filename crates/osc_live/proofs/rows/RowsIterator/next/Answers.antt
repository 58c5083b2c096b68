use Rattle.std.proofs.Common.{List, subst}
use Rattle.std.specs.Iterator.{YieldsFirstBy}
use Rattle.osc_record.specs.Left.{placed_of}
use Rattle.osc_record.specs.Reading.{Placed}
use Rattle.osc_live.specs.Left.{rows_in}
use Rattle.osc_live.proofs.Unreading.{rows_stay, rows_step, fewer, never_stuck}
use Rattle.osc_live.proofs.rows.RowsIterator.next.Goals as goal

pub unreachable-requires : goal.unreachable-requires
unreachable-requires c = never_stuck c.self.inside.unread c.in-Err.field-0.at c.self.invariant c.in-Err.ensures.err

pub invariant_of-self : goal.invariant_of-self
invariant_of-self c = rows_stay c.self.inside.unread c.next_entry.new.self c.in-Ok.next c.self.invariant c.in-Ok.ensures.read c.in-Ok.ensures.still

pub returns-clause-steps : goal.returns-clause-steps
returns-clause-steps c =
    subst (λ (old : List Placed). YieldsFirstBy placed_of (λ (left : List Placed). left) old c.in-Ok.next (rows_in c.next_entry.new.self)) c.self.view_is
    (rows_step c.self.inside.unread c.next_entry.new.self c.in-Ok.next c.self.invariant c.in-Ok.ensures.read c.in-Ok.ensures.end c.in-Ok.ensures.still)

pub returns-clause-goes : goal.returns-clause-goes
returns-clause-goes c = fewer c.args.self.now (rows_in c.next_entry.new.self) c.in-Ok.next (returns-clause-steps c)
