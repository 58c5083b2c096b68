-- How many bytes of recording are enough for lanes.
use Rattle.std.specs.Prelude.{ℕ, List, length}
use Rattle.std.specs.List.{flat_map}
use Rattle.osc_script.specs.declared.line.Line.{Line}
use Rattle.osc_script.specs.Enough.{enough_with}
use Rattle.osc_lanes.specs.Performs.{Part}

-- the lines of all parts
abbrev pub all_lines : {M : Type 0} → List (Part M) → List Line
all_lines parts = flat_map (λ part. part.lines) parts

-- enough for the lines of all parts, and for the enrolment of each lane
abbrev pub enough_for : {M : Type 0} → List (Part M) → ℕ
enough_for parts = enough_with (length parts) (all_lines parts)
