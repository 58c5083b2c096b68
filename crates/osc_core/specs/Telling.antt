-- What boxes tell.
use Rattle.std.specs.Prelude.{ℕ, List, map, Option}
use Rattle.osc_method.specs.Heard.{Fixed}
use Rattle.osc_model.specs.Heard.{Told}

-- of each box its id, what no call changes, and the bytes that it tells
abbrev pub told : {M : Type 0} → (M → Fixed) → (M → Option (List ℕ)) → List (ℕ × M) → List Told
told keep heard boxes =
    map (λ one. record { id = one.0; keep = keep one.1; heard = heard one.1 }) boxes
