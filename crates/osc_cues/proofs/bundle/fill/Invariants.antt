use Rattle.std.proofs.Common.{◌≡◌, ◌≤◌, length}
use Rattle.std.specs.List.{AllByRecursion}
use Rattle.osc_cues.specs.Bundles.{moments_from, IsSent}
use Rattle.osc_cues.proofs.bundle.fill.Given as goal

abbrev pub invariant-loop-cue : goal.invariant-loop-cue
invariant-loop-cue l = record {
  moment : moments_from l.bundler l.rest ≡ moments_from l.initial.bundler l.cues;
  tag : l.bundler.tag ≡ l.tag;
  messages : AllByRecursion IsSent l.rest;
  few : length l.rest ≤ length l.cues;
}

abbrev pub decreases-loop-cue : goal.decreases-loop-cue
decreases-loop-cue l = length l.rest
