use Rattle.std.proofs.Common.{◌≡◌, ◌+◌, ◌≤◌, length}
use Rattle.osc_script.specs.Words.{lines_of}
use Rattle.osc_script.specs.Scripts.{script_from}
use Rattle.osc_script.proofs.Lines.{after_front}
use Rattle.osc_script.proofs.script_lines.read_lines.Given as goal

abbrev pub invariant-loop-rest : goal.invariant-loop-rest
invariant-loop-rest l = record {
  read : after_front l.lines.items (script_from l.mode l.number (lines_of l.rest)) ≡ script_from l.mode 1 (lines_of l.bytes);
  few : length l.lines.items + length l.rest ≤ length l.bytes;
  numbered : l.number + length l.rest ≤ length l.bytes + 1;
}

abbrev pub decreases-loop-rest : goal.decreases-loop-rest
decreases-loop-rest l = length l.rest
