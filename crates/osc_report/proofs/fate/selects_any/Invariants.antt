use Rattle.std.proofs.Common.{◌≡◌}
use Rattle.std.specs.List.{list_any}
use Rattle.osc_message.specs.Reading.{pattern_of}
use Rattle.osc_report.specs.Selections.{selects}
use Rattle.osc_report.proofs.fate.selects_any.Given as goal

-- none so far
abbrev pub invariant-loop-message : goal.invariant-loop-message
invariant-loop-message l = record {
  can : (goal.iterator-loop-message).can_next l.message-iterator;
  finite : (goal.iterator-loop-message).is_finite l.message-iterator;
  same : list_any (λ message. selects l.selector (pattern_of message)) l.message-iterator
      ≡ list_any (λ message. selects l.selector (pattern_of message)) l.initial.message-iterator;
}
