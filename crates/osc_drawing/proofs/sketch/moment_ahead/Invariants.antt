use Rattle.std.proofs.Common.{◌≡◌, drop}
use Rattle.osc_drawing.specs.Sketches.{moment_ahead, told}
use Rattle.osc_drawing.proofs.sketch.moment_ahead.Given as goal

abbrev pub invariant-loop-entry : goal.invariant-loop-entry
invariant-loop-entry l = moment_ahead l.clock (told (drop l.entry-index l.entries)) ≡ moment_ahead l.clock (told l.entries)
