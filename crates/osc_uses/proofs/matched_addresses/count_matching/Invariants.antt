use Rattle.std.proofs.Common.{◌≡◌, ◌≤◌, take}
use Rattle.std.specs.List.{count_by}
use Rattle.osc_pattern.specs.Patterns.{matches}
use Rattle.osc_uses.proofs.matched_addresses.count_matching.Given as goal

-- those so far
abbrev pub invariant-loop-address : goal.invariant-loop-address
invariant-loop-address g l = record {
  count : l.count ≡ count_by (matches l.pattern) (take l.address-index l.addresses);
  few : l.count ≤ l.address-index;
  counted : l.initial.steps ≤ l.steps;
}
