-- The calls that marks show.
use Rattle.std.specs.Prelude.{ℕ, if◌then◌else◌, List, [], ◌∷◌}
use Rattle.std.specs.List.{flat_map}
use Rattle.osc_model.specs.Events.{Invocation}
use Rattle.osc_drawing.specs.declared.carried.Carried.{Carried}
use Rattle.osc_drawing.specs.declared.mark.Mark.{Mark}
use Rattle.osc_drawing.specs.Carried.{carried_of}
use Rattle.osc_drawing.specs.Rows.{is_call}

-- the call of a mark, if it is one: its address, and what it carries
abbrev pub call_in : Mark → List (List ℕ × Carried)
call_in mark = if is_call mark.form then (mark.address, mark.carried) ∷ [] else []

abbrev pub calls_in : List Mark → List (List ℕ × Carried)
calls_in marks = flat_map call_in marks

-- the same of a call that a history invoked
abbrev pub shown_call : Invocation → List ℕ × Carried
shown_call invocation = (invocation.call.address, carried_of invocation.call.message)
