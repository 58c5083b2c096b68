-- Marks, one for all of a column.
use Rattle.std.specs.Prelude.{ℕ, ◌+◌, ◌-◌, ◌/◌, ◌==◌, ◌<◌, ◌^◌, Bool, false, if◌then◌else◌, List, [], ◌∷◌}
use Rattle.std.specs.Prelude.{◌++◌, Option, Some, None}
use Rattle.osc_picture.specs.declared.frame.Frame.{Frame}
use Rattle.osc_picture.specs.declared.column.Mark.{Mark}
use Rattle.osc_picture.specs.declared.column.Mark.TheVariants.{Upright, Open, Cross}
use Rattle.osc_picture.specs.Frames.{x_of}
use Rattle.osc_picture.specs.Elements.{step, point}

-- an upright line
abbrev pub upright : ℕ → ℕ → ℕ → List ℕ
upright x top end = point 77 x top ++ step 86 end

-- an open mark
abbrev pub open_mark : ℕ → ℕ → ℕ → List ℕ
open_mark x top end =
    point 77 (x - 20) top ++ step 72 (x + 20) ++ step 86 end ++ step 72 (x - 20)
    ++ step 86 (top - 5)

-- a cross
unfoldable pub cross : ℕ → ℕ → List ℕ
cross x middle =
    point 77 (x - 30) (middle - 30) ++ point 76 (x + 30) (middle + 30)
    ++ point 77 (x - 30) (middle + 30) ++ point 76 (x + 30) (middle - 30)

-- the steps of a mark
abbrev pub mark_steps : Mark → ℕ → List ℕ
mark_steps (Upright top end) x = upright x top end
mark_steps (Open top end) x = open_mark x top end
mark_steps (Cross middle) x = cross x middle

-- the middle of a cross is no place past all others
abbrev pub IsLow : Mark → Type 0
IsLow (Upright top end) = Unit {0}
IsLow (Open top end) = Unit {0}
IsLow (Cross middle) = middle < 2 ^ 33

-- whether a column is that of the one before
abbrev pub is_same : Option ℕ → ℕ → Bool
is_same None column = false
is_same (Some before) column = before == column

-- nothing where it is
abbrev pub unless_same : Option ℕ → ℕ → List ℕ → List ℕ
unless_same before column steps = if is_same before column then [] else steps

-- a mark at each moment, but none that shares a column so wide with the one before it
abbrev pub marks : Frame → ℕ → Mark → Option ℕ → List ℕ → List ℕ
marks frame width mark before [] = []
marks frame width mark before (at ∷ moments) =
    unless_same before (x_of frame at / width) (mark_steps mark (x_of frame at))
    ++ marks frame width mark (Some (x_of frame at / width)) moments
