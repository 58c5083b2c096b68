-- The picture of a sketch.
use Rattle.std.specs.Prelude.{◌≡◌, ℕ, ◌-◌, max, nat_lt, Bool, if◌then◌else◌, true, false, List, map}
use Rattle.std.specs.Prelude.{Option, Some, None, unwrap_or}
use Rattle.osc_picture.specs.declared.frame.Frame.{Frame}
use Rattle.osc_picture.specs.declared.picture.Picture.{Picture}
use Rattle.osc_story.specs.Totals.{more}
use Rattle.osc_drawing.specs.declared.mark.Mark.{Mark}
use Rattle.osc_drawing.specs.declared.heading.Heading.{Heading}
use Rattle.osc_drawing.specs.declared.view.View.{View}
use Rattle.osc_drawing.specs.Rows.{drawn_of, rows_of, all_rows, all_unheard, most_rows}
use Rattle.osc_drawing.specs.Rows.{millis_of}
use Rattle.osc_drawing.specs.Sketches.{Sketched, end_stamp}
use Rattle.osc_drawing.specs.Ties.{bundles_of}

-- when the first tick came, or where the clock stands
abbrev pub begin_of : Sketched → ℕ
begin_of sketch = millis_of (unwrap_or sketch.first sketch.standing.clock)

abbrev pub end_of : Sketched → ℕ
end_of sketch = millis_of sketch.standing.clock

-- whether they are less than 2 milliseconds apart
abbrev pub is_in_order : Sketched → Bool
is_in_order sketch = nat_lt (end_of sketch - begin_of sketch) 2

-- From the first moment to the last. Where they are less than 2 milliseconds apart calls stand in
-- their order.
abbrev pub frame_of : Sketched → ℕ → Frame
frame_of sketch ahead =
    if is_in_order sketch
    then record {
      first = 0;
      last = max (sketch.gathered.count - 1) 1;
      ahead = 0;
      by_order = true;
      thinned = false;
    }
    else record {
      first = begin_of sketch;
      last = end_of sketch;
      ahead = ahead;
      by_order = false;
      thinned = false;
    }

-- the part of a frame from one moment to another, where they are given
abbrev pub edge_of : Option ℕ → ℕ → ℕ
edge_of None edge = edge
edge_of (Some moment) edge = millis_of moment

abbrev pub part_of : Frame → Option ℕ → Option ℕ → Frame
part_of frame from to =
    if frame.by_order then frame
    else record frame {
      first = edge_of from frame.first;
      last = max (edge_of to frame.last) (more (edge_of from frame.first) 1);
    }

abbrev pub view_of : Sketched → Frame → View
view_of sketch frame =
    record { frame = frame; begin = begin_of sketch; end = end_stamp sketch }

-- a picture has these rows and bundles, by marks
pub record HasDrawn (view : View) (marks : List Mark) (picture : Picture) : Type 0 where
  pub rows : map drawn_of picture.rows.items ≡ rows_of view marks (most_rows (all_rows marks))
  pub unheard : map drawn_of picture.unheard.items
      ≡ rows_of view marks (most_rows (all_unheard marks))
  pub bundles : picture.bundles.items
      ≡ bundles_of view (most_rows (all_rows marks)) (most_rows (all_unheard marks)) marks

-- a picture is that of a sketch in a frame, below these words
pub record IsPicture (sketch : Sketched) (frame : Frame) (heading : Heading) (picture : Picture)
    : Type 0 where
  pub frame_is : picture.frame ≡ frame
  pub title : picture.title ≡ heading.title
  pub sums : picture.sums ≡ heading.sums
  pub notes : picture.notes ≡ heading.notes
  pub drawn : HasDrawn (view_of sketch frame) sketch.gathered.marks picture
