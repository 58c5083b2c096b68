-- How many bytes of recording are enough for a run of lines.
use Rattle.std.specs.Prelude.{ℕ, List}
use Rattle.osc_script.specs.declared.line.Line.{Line}
use Rattle.osc_script.specs.Enough.{enough_with}

-- how many are enough for a script that is played by caller 0, which a server has from its opening
-- on
abbrev pub enough : List Line → ℕ
enough lines = enough_with 0 lines
