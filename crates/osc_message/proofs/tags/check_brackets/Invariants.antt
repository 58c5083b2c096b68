-- What the tags that are left give is what all of them give.
use Rattle.std.proofs.Common.{◌≡◌, ◌+◌, ◌≤◌, drop}
use Rattle.osc_message.specs.Reading.{brackets_read}
use Rattle.osc_message.proofs.tags.check_brackets.Given as goal

abbrev pub invariant-loop-tag : goal.invariant-loop-tag
invariant-loop-tag l = record {
  read : brackets_read l.depth l.outer (drop l.tag-index l.tags) l.at ≡ brackets_read 0 l.place l.tags l.place;
  at_tag : l.at ≡ l.place + l.tag-index;
  few : l.depth ≤ l.tag-index;
}
