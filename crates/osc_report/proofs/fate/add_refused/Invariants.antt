use Rattle.std.proofs.Common.{◌≡◌, ℕ, List, length}
use Rattle.osc_report.specs.Entries.{AddsRefused}
use Rattle.osc_report.proofs.fate.add_refused.Given as goal

-- whatever the messages that are left add, all add
abbrev pub invariant-loop-message : goal.invariant-loop-message
invariant-loop-message l = record {
  can : (goal.iterator-loop-message).can_next l.message-iterator;
  finite : (goal.iterator-loop-message).is_finite l.message-iterator;
  counted : l.left ≡ length l.message-iterator;
  goes : (after : List ℕ) → AddsRefused l.options l.front l.tail l.first l.message-iterator l.out.items after
      → AddsRefused l.options l.front l.tail l.initial.first l.initial.message-iterator l.initial.out.items after;
}
