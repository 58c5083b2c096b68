use Rattle.std.proofs.Common.{◌≡◌, ◌+◌, ◌≤◌, length}
use Rattle.osc_model.specs.Recordings.{hits_in}
use Rattle.osc_story.specs.Totals.{heard_after, heard_in}
use Rattle.osc_story.proofs.totals.count_hits.Given as goal

-- the counts so far and those of the hits that are left are the whole counts
abbrev pub invariant-loop-index : goal.invariant-loop-index
invariant-loop-index l = record {
  calls : l.calls + length (hits_in l.rest) ≡ length (hits_in l.fn.hits);
  heard : l.heard + heard_after l.before (hits_in l.rest) ≡ heard_in (hits_in l.fn.hits);
  few : l.calls + length l.rest ≤ length l.fn.hits;
  fewer : l.heard ≤ l.calls;
}

abbrev pub decreases-loop-index : goal.decreases-loop-index
decreases-loop-index l = length l.rest
