use Rattle.std.proofs.Common.{◌≡◌, ◌≤◌, drop}
use Rattle.osc_message.proofs.Bracketing.{closes_all}
use Rattle.osc_message.proofs.brackets.are_balanced.Given as goal

abbrev pub invariant-loop-tag : goal.invariant-loop-tag
invariant-loop-tag l = record {
  closes : closes_all l.depth (drop l.tag-index l.tags) ≡ closes_all 0 l.tags;
  few : l.depth ≤ l.tag-index;
}
