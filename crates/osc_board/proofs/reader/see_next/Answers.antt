use Rattle.std.proofs.Common.{rules}
use Rattle.osc_record.specs.Left.{placed_of}
use Rattle.osc_board.proofs.reader.see_next.Goals as goal

pub returns-in-Err-Disagrees : goal.returns-in-Err-Disagrees
returns-in-Err-Disagrees c = (
  search rules,
  (
    search rules,
    record {
      entry = (placed_of c.in-Ok-Some.entry).entry;
      more = c.next_entry.new.self.rest;
      text = search rules;
      can_be = search rules;
      unlike = search rules;
    },
  ),
)
