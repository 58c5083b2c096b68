use Rattle.std.proofs.Common.{◌≡◌, ◌++◌}
use Rattle.std.specs.List.{flat_map}
use Rattle.osc_shown.specs.Texts.{shown_char}
use Rattle.osc_shown.proofs.quoted.add_all_chars.Given as goal

abbrev pub invariant-loop-letter : goal.invariant-loop-letter
invariant-loop-letter l = l.out.items ≡ l.initial.out.items ++ flat_map shown_char l.yielded
