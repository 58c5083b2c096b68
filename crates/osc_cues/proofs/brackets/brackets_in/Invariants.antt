use Rattle.std.proofs.Common.{◌≡◌, ◌≤◌, drop}
use Rattle.osc_cues.specs.Cues
use Rattle.osc_cues.proofs.brackets.brackets_in.Given as goal

abbrev pub invariant-loop-span : goal.invariant-loop-span
invariant-loop-span l = record {
  read : Cues.brackets_in l.line l.brackets (drop l.span-index l.spans) ≡ Cues.brackets_in l.line Cues.unopened l.spans;
  few : l.brackets.depth ≤ l.span-index;
}
