-- Rows in ascending byte order of their addresses, as edits change them.
use Rattle.std.specs.Prelude.{ℕ, ◌==◌, ◌&&◌, not, Bool, if◌then◌else◌, List, []}
use Rattle.std.specs.Prelude.{insert, fold}
use Rattle.std.specs.List.{position_or_len, remove}
use Rattle.std.specs.Ordering.{is_lt, nat_cmp}
use Rattle.std.specs.Cmp.Lexicographic.{slice_cmp}
use Rattle.std.specs.Str.{bytes_eq}
use Rattle.osc_watch.specs.declared.row.Edit.{Edit}
use Rattle.osc_watch.specs.declared.row.MethodRow.{MethodRow}
use Rattle.osc_watch.specs.declared.row.RowEdit.{RowEdit}

-- whether the row's address is before this one, in the order of their bytes
abbrev pub is_before : List ℕ → MethodRow → Bool
is_before address row = is_lt (slice_cmp nat_cmp row.address address)

-- whether it is the same row
abbrev pub is_row : MethodRow → MethodRow → Bool
is_row row other = other.id == row.id && bytes_eq other.address row.address

-- the place of the first row whose address isn't before this one
abbrev pub place_for : List ℕ → List MethodRow → ℕ
place_for address rows = position_or_len (λ row. not (is_before address row)) rows

-- the place of the row
abbrev pub place_of : MethodRow → List MethodRow → ℕ
place_of row rows = position_or_len (is_row row) rows

-- the rows after one entered
abbrev pub entered : List MethodRow → MethodRow → List MethodRow
entered rows row = insert rows (place_for row.address rows) row

-- the rows after one left
abbrev pub left : List MethodRow → MethodRow → List MethodRow
left rows row = remove rows (place_of row rows)

-- the row of the method that an edit is of
abbrev pub row_of : Edit → MethodRow
row_of edit = record { id = edit.id; address = edit.address }

-- the edit of a row
abbrev pub edit_of : RowEdit → Edit
edit_of edit = record { id = edit.row.id; address = edit.row.address; enters = edit.enters }

-- the rows after an edit
abbrev pub edited : List MethodRow → Edit → List MethodRow
edited rows edit = if edit.enters then entered rows (row_of edit) else left rows (row_of edit)

-- the rows that stand after the edits
abbrev pub listing : List Edit → List MethodRow
listing edits = fold edited [] edits
