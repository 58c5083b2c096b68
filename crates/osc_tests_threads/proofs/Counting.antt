-- How many lines add a method.
use Rattle.std.proofs.Common.{◌≡◌, ◌+◌, List, [], ◌∷◌, ◌++◌, arith}
use Rattle.osc_script.specs.declared.line.Line.{Line}
use Rattle.osc_script.specs.Adds.{count_adds, adds_of}

pub count_push : (lines : List Line) (line : Line) → count_adds (lines ++ line ∷ []) ≡ count_adds lines + adds_of line.act
count_push [] line = omega arith
count_push (first ∷ lines) line = omega (arith, count_push lines line)
