use Rattle.std.proofs.Common.{◌≡◌, ◌++◌, take}
use Rattle.std.specs.List.{flat_map}
use Rattle.osc_shown.specs.Texts.{shown_byte}
use Rattle.osc_shown.proofs.quoted.add_all_shown.Given as goal

abbrev pub invariant-loop-byte : goal.invariant-loop-byte
invariant-loop-byte l = l.out.items ≡ l.initial.out.items ++ flat_map shown_byte (take l.byte-index l.bytes)
