-- How many bytes of recording are enough for lanes.
use Rattle.std.specs.Prelude.{ℕ, List}
use Rattle.osc_script.specs.declared.line.Line.{Line}
use Rattle.osc_script.specs.Enough.{enough_with}
use Rattle.osc_top.specs.Lanes.{lane_count}

-- how many are enough for the lanes of a script
abbrev pub enough_lanes : List Line → ℕ
enough_lanes lines = enough_with (lane_count lines) lines
