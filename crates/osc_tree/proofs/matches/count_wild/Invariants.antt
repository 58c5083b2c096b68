use Rattle.std.proofs.Common.{◌≡◌, ◌≤◌, All, drop, length, false}
use Rattle.std.specs.List.{list_any}
use Rattle.osc_pattern.specs.Patterns.{is_special, parts_of}
use Rattle.osc_tree.proofs.matches.count_wild.Given as goal

abbrev pub invariant-loop-wild : goal.invariant-loop-wild
invariant-loop-wild l = record {
  bound : l.wild ≤ length (parts_of l.pattern);
  plain : All (λ part. list_any is_special part ≡ false) (drop l.wild (parts_of l.pattern));
}

abbrev pub decreases-loop-wild : goal.decreases-loop-wild
decreases-loop-wild l = l.wild
