-- Where everything stands.
use Rattle.std.specs.Prelude.{ℕ, List, []}
use Rattle.osc_picture.specs.declared.picture.Picture.{Picture}
use Rattle.osc_picture.specs.declared.shelf.Shelf.{Shelf}
use Rattle.osc_picture.specs.Shelves.{laid_out, end_of, unheard_out, bottom_of, lower}

-- Where the first row stands, where the rows stand and where they end, and the same of the patterns
-- below them that called nothing.
pub record Places : Type 0 where
  pub top : ℕ
  pub upper : List Shelf
  pub middle : ℕ
  pub lower : List Shelf
  pub end : ℕ

abbrev pub layout_of : ℕ → Picture → Places
layout_of top picture = record {
  top = top;
  upper = laid_out top [] picture.rows.items;
  middle = end_of top [] picture.rows.items;
  lower = unheard_out (lower (end_of top [] picture.rows.items) 230) picture.unheard.items;
  end = bottom_of (end_of top [] picture.rows.items) picture.unheard.items;
}
