-- What waited: lines from where messages came to where they were called, and squares where they came.
use Rattle.std.specs.Prelude.{ℕ, ◌+◌, ◌-◌, ◌/◌, max, nat_le, if◌then◌else◌, List, [], ◌∷◌, ◌++◌}
use Rattle.std.specs.Prelude.{codes, Option, Some, None}
use Rattle.osc_picture.specs.declared.frame.Frame.{Frame}
use Rattle.osc_picture.specs.declared.stay.Stay.{Stay}
use Rattle.osc_picture.specs.Frames.{x_of, end_of}
use Rattle.osc_picture.specs.Elements.{step, point, path_text, rect_text}
use Rattle.osc_picture.specs.Columns.{unless_same}

-- a line as far as it goes over the edge of those before
abbrev pub wait_line : ℕ → ℕ → ℕ → ℕ → List ℕ
wait_line y edge left right =
    if nat_le right edge then [] else point 77 (max left edge) y ++ step 72 right

-- the lines, none over another
abbrev pub wait_lines : Frame → ℕ → ℕ → List Stay → List ℕ
wait_lines frame y edge [] = []
wait_lines frame y edge (wait ∷ waits) =
    wait_line y edge (x_of frame wait.from) (end_of frame wait.to)
    ++ wait_lines frame y (max edge (end_of frame wait.to)) waits

-- an open square
abbrev pub square_steps : ℕ → ℕ → List ℕ
square_steps x y =
    point 77 (x - 25) (y - 25) ++ step 72 (x + 25) ++ step 86 (y + 25) ++ step 72 (x - 25)
    ++ step 86 (y - 30)

unfoldable pub square : ℕ → ℕ → List ℕ
square x y =
    rect_text (codes "p") (x - 25) (y - 25) 50 50
    ++ path_text (codes "class=\"o\" ") (square_steps x y)

-- a square where each came, but none that shares a column with the one before it
abbrev pub wait_squares : Frame → ℕ → Option ℕ → List Stay → List ℕ
wait_squares frame y before [] = []
wait_squares frame y before (wait ∷ waits) =
    unless_same before (x_of frame wait.from / 50) (square (x_of frame wait.from) y)
    ++ wait_squares frame y (Some (x_of frame wait.from / 50)) waits

unfoldable pub waits_text : Frame → ℕ → List Stay → List ℕ
waits_text frame y waits =
    path_text (codes "class=\"w\" ") (wait_lines frame y 0 waits) ++ wait_squares frame y None waits
