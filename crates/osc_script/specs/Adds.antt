-- How many methods lines add.
use Rattle.std.specs.Prelude.{ℕ, ◌+◌, Bool, true, false, List, [], ◌∷◌, if◌then◌else◌}
use Rattle.osc_script.specs.declared.act.Act.{Act}
use Rattle.osc_script.specs.declared.act.Act.TheVariants.{Add}
use Rattle.osc_script.specs.declared.line.Line.{Line}

-- whether a line adds a method
abbrev pub is_add : Act → Bool
is_add (Add address) = true
is_add _ = false

-- how many methods a line adds
abbrev pub adds_of : Act → ℕ
adds_of act = if is_add act then 1 else 0

-- how many lines add a method
abbrev pub count_adds : List Line → ℕ
count_adds [] = 0
count_adds (line ∷ lines) = adds_of line.act + count_adds lines
