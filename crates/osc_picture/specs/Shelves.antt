-- Where rows stand, one below another.
use Rattle.std.specs.Prelude.{ℕ, ◌+◌, ◌-◌, ◌^◌, ◌==◌, min, Bool, true, false, not, ◌&&◌, ◌||◌}
use Rattle.std.specs.Prelude.{if◌then◌else◌, List, [], ◌∷◌, ◌++◌, length, take}
use Rattle.std.specs.Str.{bytes_eq}
use Rattle.std.specs.List.{position_or_len}
use Rattle.osc_picture.specs.declared.row.Row.{Row}
use Rattle.osc_picture.specs.declared.row.Sort.{Sort}
use Rattle.osc_picture.specs.declared.row.Sort.TheVariants.{Marks, Curve, Texts}
use Rattle.osc_picture.specs.declared.shelf.Shelf.{Shelf}

abbrev pub no_shelf : Shelf
no_shelf = record { top = 0; height = 0; headed = false; shared = false }

-- where the line of a bundle begins in a row, and where it ends
abbrev pub over_of : Shelf → ℕ
over_of shelf = shelf.top + 40

abbrev pub under_of : Shelf → ℕ
under_of shelf = shelf.top + shelf.height - 80

-- how high a row is, with the room below it
abbrev pub height_of : Sort → ℕ
height_of Marks = 210
height_of Curve = 380
height_of Texts = 270

-- so much lower; a place stays at the greatest number of 32 bits
abbrev pub lower : ℕ → ℕ → ℕ
lower y by = min (y + by) (2 ^ 32 - 1)

abbrev pub is_slash : ℕ → Bool
is_slash byte = byte == 47

-- how many bytes the first name of an address has, with its slash
abbrev pub name_end : List ℕ → ℕ
name_end [] = 0
name_end (slash ∷ rest) = 1 + position_or_len is_slash rest

abbrev pub first_name : List ℕ → List ℕ
first_name address = take (name_end address) address

-- whether a name is that of the first of the rows
abbrev pub leads : List ℕ → List Row → Bool
leads name [] = false
leads name (row ∷ rows) = bytes_eq (first_name row.address) name

-- where a row stands: where it is the first of several with one first name, the name stands above it
abbrev pub shelf_of : Sort → ℕ → Bool → Bool → Shelf
shelf_of sort y before after = record {
  top = if not before && after then lower y 230 else y;
  height = height_of sort;
  headed = not before && after;
  shared = before || after;
}

-- where the next row stands, with room between it and one that has another first name
abbrev pub below : Shelf → Bool → ℕ
below shelf after =
    if after then lower shelf.top shelf.height else lower (lower shelf.top shelf.height) 90

-- where the first of the rows stands, below one that has a first name
abbrev pub first_shelf : ℕ → List ℕ → Row → List Row → Shelf
first_shelf y before row rows =
    shelf_of row.sort y (bytes_eq (first_name row.address) before)
    (leads (first_name row.address) rows)

-- where the next one does
abbrev pub next_top : ℕ → List ℕ → Row → List Row → ℕ
next_top y before row rows =
    below (first_shelf y before row rows) (leads (first_name row.address) rows)

-- where all of them stand
abbrev pub laid_out : ℕ → List ℕ → List Row → List Shelf
laid_out y before [] = []
laid_out y before (row ∷ rows) =
    first_shelf y before row rows
    ∷ laid_out (next_top y before row rows) (first_name row.address) rows

-- and where a next one would
abbrev pub end_of : ℕ → List ℕ → List Row → ℕ
end_of y before [] = y
end_of y before (row ∷ rows) =
    end_of (next_top y before row rows) (first_name row.address) rows

-- where patterns that called nothing stand
abbrev pub unheard_out : ℕ → List Row → List Shelf
unheard_out y [] = []
unheard_out y (row ∷ rows) = shelf_of Marks y false false ∷ unheard_out (lower y 210) rows

abbrev pub unheard_end : ℕ → List Row → ℕ
unheard_end y [] = lower y 90
unheard_end y (row ∷ rows) = unheard_end (lower y 210) rows

-- where the last ends, below words that say what they are
abbrev pub bottom_of : ℕ → List Row → ℕ
bottom_of y rows = if length rows == 0 then y else unheard_end (lower y 230) rows
