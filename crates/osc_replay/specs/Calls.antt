-- Inside the crate: the calls of a release: their hits as a recording has them, and their lines
-- where they are printed.
use Rattle.std.specs.Prelude.{ℕ, Bool, true, false, List, []}
use Rattle.std.specs.List.{flat_map}
use Rattle.osc_print.specs.Entries.{invocation_text}
use Rattle.osc_model.specs.Events.{Call, Invocation}
use Rattle.osc_model.specs.Recordings.{hits_text}
use Rattle.osc_model.specs.Step.{hits_of, invocations_of}

-- the bytes of the hits
abbrev pub hits_bytes : List Call → List ℕ
hits_bytes calls = hits_text (hits_of calls)

-- the line of an invocation, where it is printed
abbrev pub line_where : Bool → Invocation → List ℕ
line_where true = invocation_text
line_where false = λ invocation. []

-- the lines of the invocations of a unit
abbrev pub call_lines : Bool → ℕ → List Call → List ℕ
call_lines prints unit calls = flat_map (line_where prints) (invocations_of unit calls)
