-- How calls are thinned, and what is said of it.
use Rattle.std.specs.Prelude.{ℕ, ◌+◌, ◌-◌, ◌*◌, ◌/◌, ◌^◌, min, nat_lt, if◌then◌else◌, List, []}
use Rattle.std.specs.Prelude.{◌∷◌, ◌++◌, length, codes, Option, Some, None}
use Rattle.std.specs.Fmt.{decimal}
use Rattle.osc_shown.specs.Numbers.{thousands}
use Rattle.osc_picture.specs.declared.frame.Frame.{Frame}
use Rattle.osc_picture.specs.declared.picture.Picture.{Picture}
use Rattle.osc_picture.specs.declared.row.Row.{Row}
use Rattle.osc_picture.specs.Frames.{length_of, column_of}
use Rattle.osc_picture.specs.Columns.{is_same}
use Rattle.osc_picture.specs.Scales.{digit}

-- so many more; a count stays at the greatest number of 64 bits
abbrev pub more : ℕ → ℕ → ℕ
more count number = min (count + number) (2 ^ 64 - 1)

-- how many calls rows have
abbrev pub more_calls : ℕ → List Row → ℕ
more_calls count [] = count
more_calls count (row ∷ rows) = more_calls (more count (length row.calls.items)) rows

-- one more, unless the one before was in the same column
abbrev pub one_more : ℕ → Option ℕ → ℕ → ℕ
one_more count before column = if is_same before column then count else more count 1

-- how many marks calls are, after one in a column
abbrev pub more_columns : Frame → ℕ → Option ℕ → List ℕ → ℕ
more_columns frame count before [] = count
more_columns frame count before (at ∷ moments) =
    more_columns frame (one_more count before (column_of frame at)) (Some (column_of frame at))
    moments

-- and those of rows
abbrev pub more_marks : Frame → ℕ → List Row → ℕ
more_marks frame count [] = count
more_marks frame count (row ∷ rows) =
    more_marks frame (more_columns frame count None row.calls.items) rows

-- calls are thinned where there are more than 2,000
abbrev pub frame_of : Picture → Frame
frame_of picture =
    record picture.frame { thinned = nat_lt 2000 (more_calls 0 picture.rows.items) }

-- how many milliseconds a column has, which is 14 wide: the plot is 6,040 wide
abbrev pub column_millis : Frame → ℕ
column_millis frame = (length_of frame * 14 + 6039) / 6040

-- milliseconds, as `0.279 s`
abbrev pub seconds_text : ℕ → List ℕ
seconds_text millis =
    decimal (millis / 1000)
    ++ (46 ∷ digit (millis / 100) ∷ digit (millis / 10) ∷ digit millis ∷ []) ++ codes " s"

-- what is said of it, where they are
unfoldable pub thinned_words : Frame → Picture → Option (List ℕ)
thinned_words frame picture =
    if frame.thinned
    then Some (codes "thinned: " ++ thousands (more_marks frame 0 picture.rows.items)
    ++ codes " marks for " ++ thousands (more_calls 0 picture.rows.items)
    ++ codes " calls, one for all of a row in " ++ seconds_text (column_millis frame))
    else None
