use Rattle.std.proofs.Common.{◌≡◌, ◌++◌, length}
use Rattle.std.specs.List.{AllByRecursion}
use Rattle.osc_cues.specs.Bundles.{moments_of, bundles_of, IsSent, FitsPacket, IsSendable}
use Rattle.osc_cues.proofs.bundle.bundles_of.Given as goal

abbrev pub invariant-loop-first : goal.invariant-loop-first
invariant-loop-first l = record {
  value : l.bundles.items ++ bundles_of l.rest ≡ bundles_of l.cues;
  packets : AllByRecursion IsSendable l.bundles.items;
  messages : AllByRecursion IsSent l.rest;
  fits : AllByRecursion FitsPacket (moments_of l.rest);
}

abbrev pub decreases-loop-first : goal.decreases-loop-first
decreases-loop-first l = length l.rest
