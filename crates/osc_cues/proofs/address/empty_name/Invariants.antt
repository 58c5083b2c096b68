use Rattle.std.proofs.Common.{◌≡◌, ◌≤◌, ◌+◌, length}
use Rattle.osc_cues.specs.Cues
use Rattle.osc_cues.proofs.address.empty_name.Given as goal

abbrev pub invariant-loop-first : goal.invariant-loop-first
invariant-loop-first l = record {
  read : Cues.empty_name l.place l.rest ≡ Cues.empty_name 0 l.word;
  few : l.place + length l.rest ≤ length l.word;
}

abbrev pub decreases-loop-first : goal.decreases-loop-first
decreases-loop-first l = length l.rest
