use Rattle.std.proofs.Common.{◌≡◌, ◌≤◌, length}
use Rattle.osc_cues.specs.Quoted.{text_read}
use Rattle.osc_cues.proofs.Texts.{onto}
use Rattle.osc_cues.proofs.quoted.read_text.Given as goal

abbrev pub invariant-loop-rest : goal.invariant-loop-rest
invariant-loop-rest l = record {
  read : onto l.bytes.items (text_read l.quoted l.end l.rest) ≡ text_read l.quoted l.end l.text;
  few : length l.rest ≤ l.end;
}

abbrev pub decreases-loop-rest : goal.decreases-loop-rest
decreases-loop-rest l = length l.rest
