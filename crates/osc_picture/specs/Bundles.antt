-- The lines of bundles, from the highest to the lowest row that each called.
use Rattle.std.specs.Prelude.{ℕ, ◌==◌, min, max, if◌then◌else◌, List, [], ◌∷◌, ◌++◌, codes}
use Rattle.std.specs.Prelude.{slice_index_or}
use Rattle.osc_picture.specs.declared.frame.Frame.{Frame}
use Rattle.osc_picture.specs.declared.shelf.Shelf.{Shelf}
use Rattle.osc_picture.specs.declared.bundle.Bundle.{Bundle}
use Rattle.osc_picture.specs.declared.bundle.Tie.{Tie}
use Rattle.osc_picture.specs.Frames.{x_of, column_of}
use Rattle.osc_picture.specs.Elements.{step, point, path_text}
use Rattle.osc_picture.specs.Shelves.{no_shelf, over_of, under_of}

-- the row at a place
abbrev pub shelf_at : List Shelf → ℕ → Shelf
shelf_at shelves place = slice_index_or shelves place no_shelf

-- the line of one bundle
abbrev pub tie_of : Frame → List Shelf → Bundle → Tie
tie_of frame shelves bundle = record {
  column = column_of frame bundle.at;
  x = x_of frame bundle.at;
  over = over_of (shelf_at shelves bundle.highest);
  under = under_of (shelf_at shelves bundle.lowest);
}

-- its steps
abbrev pub tie_steps : Tie → List ℕ
tie_steps tie = point 77 tie.x tie.over ++ step 86 tie.under

-- bundles that share a column are one line, at the place of the first
abbrev pub joined : Tie → Tie → Tie
joined tie next =
    if tie.column == next.column
    then record {
      column = tie.column;
      x = tie.x;
      over = min tie.over next.over;
      under = max tie.under next.under;
    }
    else next

-- a line is whole where the next one doesn't share its column
abbrev pub before_next : Tie → Tie → List ℕ
before_next tie next = if tie.column == next.column then [] else tie_steps tie

-- a line and those of the bundles after it
abbrev pub ties_after : Frame → List Shelf → Tie → List Bundle → List ℕ
ties_after frame shelves tie [] = tie_steps tie
ties_after frame shelves tie (bundle ∷ bundles) =
    before_next tie (tie_of frame shelves bundle)
    ++ ties_after frame shelves (joined tie (tie_of frame shelves bundle)) bundles

-- the lines of all
abbrev pub ties : Frame → List Shelf → List Bundle → List ℕ
ties frame shelves [] = []
ties frame shelves (first ∷ others) =
    ties_after frame shelves (tie_of frame shelves first) others

unfoldable pub bundles_text : Frame → List Shelf → List Bundle → List ℕ
bundles_text frame shelves bundles = path_text (codes "class=\"j\" ") (ties frame shelves bundles)
