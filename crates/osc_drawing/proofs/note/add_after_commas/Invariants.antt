use Rattle.std.proofs.Common.{◌≡◌, ◌++◌, length}
use Rattle.std.specs.List.{flat_map}
use Rattle.osc_drawing.specs.Headings.{after_comma}
use Rattle.osc_drawing.proofs.note.add_after_commas.Given as goal

abbrev pub invariant-loop-address : goal.invariant-loop-address
invariant-loop-address l = l.out.items ++ flat_map after_comma l.rest ≡ l.initial.out.items ++ flat_map after_comma l.addresses

abbrev pub decreases-loop-address : goal.decreases-loop-address
decreases-loop-address l = length l.rest
