use Rattle.std.proofs.Common.{◌+◌, ◌≤◌, length}
use Rattle.osc_script.specs.Words.{lines_of}
use Rattle.osc_score.proofs.Going.{ReadsOn}
use Rattle.osc_score.proofs.score_lines.read_lines.Given as goal

abbrev pub invariant-loop-rest : goal.invariant-loop-rest
invariant-loop-rest l = record {
  on : ReadsOn l.reader l.number (lines_of l.rest) (lines_of l.bytes);
  few : length l.rest ≤ length l.bytes;
  numbered : l.number + length l.rest ≤ length l.bytes + 1;
}

abbrev pub decreases-loop-rest : goal.decreases-loop-rest
decreases-loop-rest l = length l.rest
