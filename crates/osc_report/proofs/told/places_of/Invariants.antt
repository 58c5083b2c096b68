use Rattle.std.proofs.Common.{◌≡◌, take}
use Rattle.std.specs.List.{flat_map}
use Rattle.osc_report.specs.Units.{place_in}
use Rattle.osc_report.proofs.told.places_of.Given as goal

abbrev pub invariant-loop-call : goal.invariant-loop-call
invariant-loop-call l = l.places.items ≡ flat_map (place_in l.index) (take l.call-index l.calls)
