use Rattle.std.proofs.Common.{◌≡◌, ◌≤◌, fold, drop}
use Rattle.osc_score.specs.ArgumentWords.{with_digit, number_in}
use Rattle.osc_score.proofs.number.number_of.Given as goal

abbrev pub invariant-loop-byte : goal.invariant-loop-byte
invariant-loop-byte l = record {
  so_far : fold with_digit l.number (drop l.byte-index l.digits) ≡ number_in l.digits;
  few : l.number ≤ l.most;
}
