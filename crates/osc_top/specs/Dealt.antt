-- Inside the crate: parts to which lines are dealt one after another.
use Rattle.std.specs.Prelude.{ℕ, zero, suc, List, [], ◌∷◌, ◌++◌}
use Rattle.osc_lanes.specs.Performs.{Part}
use Rattle.osc_script.specs.declared.line.Line.{Line}

module _ {M : Type 0} where
  abbrev pub no_part : Part M
  no_part = record { lines = []; boxes = [] }

  -- a part with one line more, and with these boxes
  abbrev pub part_with : Line → List M → Part M → Part M
  part_with line boxes part =
      record { lines = part.lines ++ line ∷ []; boxes = part.boxes ++ boxes }

  -- the part in this place has one line more, and these boxes
  abbrev pub dealt_at : ℕ → Line → List M → List (Part M) → List (Part M)
  dealt_at lane line boxes [] = []
  dealt_at zero line boxes (part ∷ parts) = part_with line boxes part ∷ parts
  dealt_at (suc lane) line boxes (part ∷ parts) = part ∷ dealt_at lane line boxes parts
