use Rattle.std.proofs.Common.{◌≡◌, drop}
use Rattle.osc_cues.specs.Words.{scanned, unscanned}
use Rattle.osc_cues.proofs.scan.scan_line.Given as goal

abbrev pub invariant-loop-byte : goal.invariant-loop-byte
invariant-loop-byte l = record {
  read : scanned l.place l.scan (drop l.byte-index l.line) ≡ scanned 0 unscanned l.line;
  place : l.place ≡ l.byte-index;
}
