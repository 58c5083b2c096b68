-- The curves of rows whose calls carry one number each.
use Rattle.std.specs.Prelude.{ℕ, ◌+◌, ◌-◌, ◌*◌, ◌/◌, ◌==◌, min, max, if◌then◌else◌, List, [], ◌∷◌}
use Rattle.std.specs.Prelude.{◌++◌, codes}
use Rattle.osc_picture.specs.declared.frame.Frame.{Frame}
use Rattle.osc_picture.specs.declared.stay.Stay.{Stay}
use Rattle.osc_picture.specs.declared.row.Call.{Call}
use Rattle.osc_picture.specs.declared.row.Row.{Row}
use Rattle.osc_picture.specs.declared.curve.Range.{Range}
use Rattle.osc_picture.specs.declared.curve.Bend.{Bend}
use Rattle.osc_picture.specs.Frames.{x_of, end_of, column_of}
use Rattle.osc_picture.specs.Elements.{step, point, path_text, words_text}

-- how high a number stands: a curve is 200 high
abbrev pub height_of : Range → ℕ → ℕ
height_of range number =
    range.under - min ((number - range.low) * 200 / max (range.high - range.low) 1) 200

-- the bend of one call
abbrev pub bend_of : Frame → Range → Call → Bend
bend_of frame range call =
    let y = height_of range call.number in
    record {
      column = column_of frame call.at;
      x = x_of frame call.at;
      first = y;
      least = y;
      most = y;
      last = y;
    }

-- calls that share a column are one bend: their first, least, greatest and last height
abbrev pub joined : Bend → Bend → Bend
joined bend next =
    if bend.column == next.column
    then record {
      column = bend.column;
      x = next.x;
      first = bend.first;
      least = min bend.least next.least;
      most = max bend.most next.most;
      last = next.last;
    }
    else next

-- from one height to another
abbrev pub turn : ℕ → ℕ → List ℕ
turn from to = if from == to then [] else step 86 to

-- from the first height of a column over its least and its greatest to its last
abbrev pub turns : Bend → List ℕ
turns bend = turn bend.first bend.least ++ turn bend.least bend.most ++ turn bend.most bend.last

-- a level stays up to the next column
abbrev pub between : Bend → Bend → List ℕ
between bend next =
    if bend.column == next.column then [] else turns bend ++ step 72 next.x ++ step 86 next.first

-- the steps after the first call of a column, and on to an edge
abbrev pub steps_after : Frame → Range → ℕ → Bend → List Call → List ℕ
steps_after frame range edge bend [] = turns bend ++ step 72 (max bend.x edge)
steps_after frame range edge bend (call ∷ calls) =
    between bend (bend_of frame range call)
    ++ steps_after frame range edge (joined bend (bend_of frame range call)) calls

-- the steps of all calls
abbrev pub curve_steps : Frame → Range → ℕ → List Call → List ℕ
curve_steps frame range edge [] = []
curve_steps frame range edge (first ∷ others) =
    point 77 (bend_of frame range first).x (bend_of frame range first).first
    ++ steps_after frame range edge (bend_of frame range first) others

-- where the last of the times ends in which the method was there
abbrev pub edge_of : Frame → ℕ → List Stay → ℕ
edge_of frame edge [] = edge
edge_of frame edge (life ∷ lives) = edge_of frame (max (end_of frame life.to) edge) lives

abbrev pub range_of : ℕ → Row → Range
range_of top row = record { low = row.low.0; high = row.high.0; under = top + 240 }

-- the curve of a row with a top, and the ends of its range
unfoldable pub curve_text : Frame → ℕ → Row → List ℕ
curve_text frame top row =
    path_text (codes "class=\"c\" ")
    (curve_steps frame (range_of top row) (edge_of frame 0 row.lives.items) row.numbers.items)
    ++ words_text (codes "v e") 1660 (top + 100) row.high.1
    ++ words_text (codes "v e") 1660 (top + 240) row.low.1
