use Rattle.std.proofs.Common.{◌≡◌, Option, [], subst}
use Rattle.std.specs.Prelude.{IfNone}
use Rattle.osc_record.specs.Left.{placed_of}
use Rattle.osc_record.specs.Unread.{Reads}
use Rattle.osc_replay.specs.declared.row.Row.{Row}
use Rattle.osc_replay.proofs.Formed.{of_some, row_lawful, nothing_left, stuck_here, ends_behind, stuck_behind}
use Rattle.osc_replay.proofs.form.first_malformed.Goals as goal

pub loop-malformed-preserved : goal.loop-malformed-preserved
loop-malformed-preserved c =
    let row = c.in-Ok-Some.field-0-0 in
    let reads = of_some (λ (row : Row). Reads c.loop-malformed.unread (placed_of row.entry) c.next_row.new.unread) c.in-Ok-Some.field-0 row
    c.in-Ok-Some.field-0-is c.in-Ok-Some.ensures.read in
    record {
      ends = λ ends. c.loop-malformed.invariant.ends
          (ends_behind c.loop-malformed.unread c.next_row.new.unread (placed_of row.entry) reads (row_lawful row) ends);
      stuck = λ at stuck. c.loop-malformed.invariant.stuck at
          (stuck_behind c.loop-malformed.unread c.next_row.new.unread (placed_of row.entry) at reads (row_lawful row) stuck);
    }

pub returns-in-Ok-None-clause-none : goal.returns-in-Ok-None-clause-none
returns-in-Ok-None-clause-none c =
    c.loop-malformed.invariant.ends
    (nothing_left c.loop-malformed.unread
    (subst (λ (o : Option Row). IfNone o (c.loop-malformed.unread.rest ≡ [])) c.in-Ok-None.field-0-is c.in-Ok-None.ensures.end))

pub returns-in-Err-clause-some : goal.returns-in-Err-clause-some
returns-in-Err-clause-some c =
    c.loop-malformed.invariant.stuck c.in-Err.malformed.at (stuck_here c.loop-malformed.unread c.in-Err.malformed.at c.in-Err.ensures.err)
