-- Where moments stand in a picture. All places are in tenths of a pixel, from its upper left corner.
use Rattle.std.specs.Prelude.{ℕ, ◌+◌, ◌-◌, ◌*◌, ◌/◌, max, min, if◌then◌else◌, Option, Some, None}
use Rattle.osc_picture.specs.declared.frame.Frame.{Frame}

-- how long a frame goes, at least 1
abbrev pub length_of : Frame → ℕ
length_of frame = max (frame.last - frame.first) 1

-- how far along the plot, which is 6,040 wide, a part of a length is
abbrev pub along : ℕ → ℕ → ℕ
along part length = min (part * 6040 / length) 6040

-- how far from the left edge a moment stands: the plot goes from 1,700 to 7,740
abbrev pub x_of : Frame → ℕ → ℕ
x_of frame at = 1700 + along (at - frame.first) (length_of frame)

-- where something ends, or the right edge where it doesn't
abbrev pub end_of : Frame → Option ℕ → ℕ
end_of frame None = 7740
end_of frame (Some to) = x_of frame to

-- how wide the places are that are one
abbrev pub width_of : Frame → ℕ
width_of frame = if frame.thinned then 14 else 1

-- the column of a moment
abbrev pub column_of : Frame → ℕ → ℕ
column_of frame at = x_of frame at / width_of frame
