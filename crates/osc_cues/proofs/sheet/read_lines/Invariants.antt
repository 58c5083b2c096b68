use Rattle.std.proofs.Common.{◌≡◌, ◌≤◌, ◌+◌, length, drop, map}
use Rattle.osc_cues.specs.Words.{lines_of}
use Rattle.osc_cues.specs.Sheets.{read_from, unread, IsReading}
use Rattle.osc_cues.specs.Order.{IsSound}
use Rattle.osc_cues.proofs.sheet.read_lines.Given as goal

abbrev pub invariant-loop-text : goal.invariant-loop-text
invariant-loop-text l = record {
  read : read_from l.methods l.setting l.number l.draft (map (λ line. line.now) (drop l.text-index l.text-items))
      ≡ read_from l.methods l.setting 1 unread (lines_of l.bytes);
  number : l.number ≡ l.text-index + 1;
  few : length l.text-items ≤ length l.bytes + 1;
  reading : IsReading l.draft;
  sound : IsSound l.draft;
}
