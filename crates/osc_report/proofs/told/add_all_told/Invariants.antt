use Rattle.std.proofs.Common.{◌≡◌, ◌+◌, length}
use Rattle.osc_report.specs.Told.{told_in}
use Rattle.osc_report.proofs.Telling.{GoesOn}
use Rattle.osc_report.proofs.told.add_all_told.Given as goal

-- whatever the messages that are left add, all add
abbrev pub invariant-loop-message : goal.invariant-loop-message
invariant-loop-message l = record {
  counted : l.index + length l.rest ≡ length l.messages;
  goes : GoesOn l.options l.front (told_in l.told) l.messages l.initial.out.items l.index l.rest l.out.items;
}

abbrev pub decreases-loop-message : goal.decreases-loop-message
decreases-loop-message l = length l.rest
