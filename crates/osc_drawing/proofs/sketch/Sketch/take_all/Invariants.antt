use Rattle.std.proofs.Common.{◌≡◌, ◌≤◌, ◌-◌, length, drop}
use Rattle.osc_drawing.specs.Sketches.{with_entries, with_all, first_fault, told}
use Rattle.osc_drawing.proofs.sketch.Sketch.take_all.Given as goal

abbrev pub invariant-loop-place : goal.invariant-loop-place
invariant-loop-place l = record {
  within : l.place ≤ length l.entries;
  agree : first_fault l.self.standing (drop l.place l.entries) ≡ first_fault l.initial.self.standing l.entries;
  made : with_entries l.self l.moment (told (drop l.place l.entries)) ≡ with_all l.initial.self (told l.entries);
}

abbrev pub decreases-loop-place : goal.decreases-loop-place
decreases-loop-place l = length l.entries - l.place
