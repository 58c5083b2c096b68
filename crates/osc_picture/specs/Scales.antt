-- The scale: lines at multiples of a step, and what stands above and below them.
use Rattle.std.specs.Prelude.{ℕ, ◌+◌, ◌-◌, ◌*◌, ◌/◌, ◌%◌, ◌^◌, ◌==◌, min, max, Bool, nat_lt}
use Rattle.std.specs.Prelude.{if◌then◌else◌, List, [], ◌∷◌, ◌++◌, take, codes, Option, Some, None}
use Rattle.std.specs.Fmt.{decimal}
use Rattle.osc_picture.specs.declared.frame.Frame.{Frame}
use Rattle.osc_picture.specs.declared.scale.Tick.{Tick}
use Rattle.osc_picture.specs.Frames.{length_of, x_of}
use Rattle.osc_picture.specs.Elements.{path_text, words_text}
use Rattle.osc_picture.specs.Columns.{upright}

-- how far apart the lines may be, in milliseconds
abbrev pub steps : List ℕ
steps =
    1 ∷ 2 ∷ 5 ∷ 10 ∷ 20 ∷ 50 ∷ 100 ∷ 200 ∷ 500 ∷ 1000 ∷ 2000 ∷ 5000 ∷ 10000 ∷ 15000 ∷ 30000
    ∷ 60000 ∷ 120000 ∷ 300000 ∷ 600000 ∷ 900000 ∷ 1800000 ∷ 3600000 ∷ 7200000 ∷ 10800000
    ∷ 21600000 ∷ 43200000 ∷ 86400000 ∷ []

-- whether at most 8 steps fit into a length, or 6 below a second
abbrev pub fits : ℕ → ℕ → Bool
fits length step = nat_lt length (step * (if nat_lt step 1000 then 7 else 9))

-- the first of some steps that fits, or the whole length
abbrev pub first_fit : ℕ → List ℕ → ℕ
first_fit length [] = length
first_fit length (step ∷ more) = if fits length step then step else first_fit length more

abbrev pub step_of : ℕ → ℕ
step_of length = max (first_fit length steps) 1

abbrev pub step_in : Frame → ℕ
step_in frame = step_of (length_of frame)

-- where the line after so many others stands on the wall
abbrev pub here_of : Frame → ℕ → ℕ
here_of frame k =
    (frame.first + frame.ahead + step_in frame - 1) / step_in frame * step_in frame
    + k * step_in frame

-- that line, if it isn't after the end
abbrev pub tick_of : Frame → ℕ → Option Tick
tick_of frame k =
    if nat_lt (frame.last + frame.ahead) (here_of frame k) then None
    else Some (record {
      at = here_of frame k - frame.ahead;
      millis = here_of frame k % 86_400_000;
    })

-- the last digit
abbrev pub digit : ℕ → ℕ
digit number = 48 + number % 10

-- a time of day, as `20:00:10.000`
abbrev pub clock_words : ℕ → List ℕ
clock_words millis =
    digit (millis / 36_000_000) ∷ digit (millis / 3_600_000) ∷ 58 ∷ digit (millis / 600_000 % 6)
    ∷ digit (millis / 60_000) ∷ 58 ∷ digit (millis / 10_000 % 6) ∷ digit (millis / 1_000) ∷ 46
    ∷ digit (millis / 100) ∷ digit (millis / 10) ∷ digit millis ∷ []

-- how many characters of it a step needs
abbrev pub size_of : ℕ → ℕ
size_of step =
    if step % 60_000 == 0 then 5 else if step % 1_000 == 0 then 8 else
    if step % 100 == 0 then 10 else if step % 10 == 0 then 11 else 12

-- what stands at a line: its time of day, or which call it is, counted from 1
abbrev pub label_words : Frame → Tick → List ℕ
label_words frame tick =
    if frame.by_order then decimal (min (tick.at + 1) (2 ^ 64 - 1))
    else take (size_of (step_in frame)) (clock_words tick.millis)

-- where there is little room every second one is left out
abbrev pub kind_of : ℕ → List ℕ
kind_of k = if k % 2 == 0 then codes "m" else codes "m h"

abbrev pub line_at : Frame → ℕ → ℕ → Option Tick → List ℕ
line_at frame top bottom None = []
line_at frame top bottom (Some tick) = upright (x_of frame tick.at) (top - 100) bottom

abbrev pub line : Frame → ℕ → ℕ → ℕ → List ℕ
line frame top bottom k = line_at frame top bottom (tick_of frame k)

abbrev pub label_at : Frame → ℕ → ℕ → ℕ → Option Tick → List ℕ
label_at frame top bottom k None = []
label_at frame top bottom k (Some tick) =
    words_text (kind_of k) (x_of frame tick.at) (top - 140) (label_words frame tick)
    ++ words_text (kind_of k) (x_of frame tick.at) (bottom + 160) (label_words frame tick)

abbrev pub label : Frame → ℕ → ℕ → ℕ → List ℕ
label frame top bottom k = label_at frame top bottom k (tick_of frame k)

-- at most nine lines
abbrev pub counts : List ℕ
counts = 0 ∷ 1 ∷ 2 ∷ 3 ∷ 4 ∷ 5 ∷ 6 ∷ 7 ∷ 8 ∷ []

abbrev pub lines : Frame → ℕ → ℕ → List ℕ → List ℕ
lines frame top bottom [] = []
lines frame top bottom (k ∷ more) = line frame top bottom k ++ lines frame top bottom more

abbrev pub labels : Frame → ℕ → ℕ → List ℕ → List ℕ
labels frame top bottom [] = []
labels frame top bottom (k ∷ more) = label frame top bottom k ++ labels frame top bottom more

unfoldable pub scale_text : Frame → ℕ → ℕ → List ℕ
scale_text frame top bottom =
    path_text (codes "class=\"s\" ") (lines frame top bottom counts) ++ labels frame top bottom counts
