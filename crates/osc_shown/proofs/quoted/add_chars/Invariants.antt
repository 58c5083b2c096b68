use Rattle.std.proofs.Common.{◌≡◌, ◌++◌, length, min, take}
use Rattle.std.specs.List.{flat_map}
use Rattle.osc_shown.specs.Texts.{shown_char}
use Rattle.osc_shown.proofs.quoted.add_chars.Given as goal

abbrev pub invariant-loop-letter : goal.invariant-loop-letter
invariant-loop-letter l = record {
  count : l.count ≡ min 41 (length l.yielded);
  added : l.out.items ≡ l.initial.out.items ++ flat_map shown_char (take 40 l.yielded);
}
