-- At which addresses lines add methods.
use Rattle.std.specs.Prelude.{ℕ, List, map, Option, Some, None}
use Rattle.std.specs.List.{filter_map}
use Rattle.osc_script.specs.declared.act.Act.{Act}
use Rattle.osc_script.specs.declared.act.Act.TheVariants.{Add}
use Rattle.osc_script.specs.declared.line.Line.{Line}

-- what lines do
abbrev pub acts_of : List Line → List Act
acts_of lines = map (λ line. line.act) lines

-- the address at which an act adds a method, and those of lines, in order
abbrev pub added_by : Act → Option (List ℕ)
added_by (Add address) = Some address
added_by _ = None

abbrev pub added_in : List Line → List (List ℕ)
added_in lines = filter_map added_by (acts_of lines)
