use Rattle.std.proofs.Common.{◌≡◌, ◌≤◌, ◌+◌, length, drop, map}
use Rattle.osc_patch.specs.Words.{lines_of}
use Rattle.osc_patch.specs.Patches.{read_from, unread}
use Rattle.osc_patch.proofs.patch.read_lines.Given as goal

abbrev pub invariant-loop-text : goal.invariant-loop-text
invariant-loop-text l = record {
  read : read_from l.limit l.number l.reading (map (λ line. line.now) (drop l.text-index l.text-items)) ≡ read_from l.limit 1 unread (lines_of l.bytes);
  number : l.number ≡ l.text-index + 1;
  few : length l.text-items ≤ length l.bytes + 1;
}
