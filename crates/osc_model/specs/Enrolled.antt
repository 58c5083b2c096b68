-- How many callers a history has enrolled.
use Rattle.std.specs.Prelude.{ℕ, ◌+◌, Bool, true, false, if◌then◌else◌, List, [], ◌∷◌}
use Rattle.osc_model.specs.Events.{Answer, number, Entry}

-- whether an answer enrols a caller
abbrev pub enrols : Answer → Bool
enrols (number caller) = true
enrols _ = false

-- one caller from the start, and one more for each enrolment
abbrev pub callers_in : List Entry → ℕ
callers_in [] = 1
callers_in (entry ∷ entries) = if enrols entry.answer then callers_in entries + 1
    else callers_in entries
