use Rattle.std.proofs.Common.{◌≡◌}
use Rattle.osc_record.specs.Left.{entries_left}
use Rattle.osc_replay.specs.Unlawful.{first_unlawful_in}
use Rattle.osc_replay.proofs.old.first_unlawful.Given as goal

-- the first among those that are left is the first of all
abbrev pub invariant-loop-entry : goal.invariant-loop-entry
invariant-loop-entry l = record {
  can : (goal.iterator-loop-entry).can_next l.entry-iterator;
  finite : (goal.iterator-loop-entry).is_finite l.entry-iterator;
  same : first_unlawful_in (entries_left l.entry-iterator) ≡ first_unlawful_in (entries_left l.initial.entry-iterator);
}
