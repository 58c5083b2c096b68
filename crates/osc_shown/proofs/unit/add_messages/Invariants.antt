use Rattle.std.proofs.Common.{◌≡◌, ◌++◌, ℕ, List, length}
use Rattle.osc_shown.specs.Added.{report_in}
use Rattle.osc_shown.specs.Lines.{AreMessageLines}
use Rattle.osc_shown.proofs.unit.add_messages.Given as goal

abbrev pub invariant-loop-message : goal.invariant-loop-message
invariant-loop-message l = record {
  can : (goal.iterator-loop-message).can_next l.message-iterator;
  finite : (goal.iterator-loop-message).is_finite l.message-iterator;
  counted : l.left ≡ length l.message-iterator;
  goes : (others : List ℕ) → AreMessageLines (report_in l.report) l.first l.message-iterator others
      → (lines : List ℕ) × AreMessageLines (report_in l.report) l.initial.first l.initial.message-iterator lines
      × (l.out.items ++ others ≡ l.initial.out.items ++ lines);
}
