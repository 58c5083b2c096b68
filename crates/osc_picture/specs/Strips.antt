-- Rows, as they are drawn.
use Rattle.std.specs.Prelude.{ℕ, ◌+◌, ◌-◌, max, Bool, nat_lt, if◌then◌else◌, List, [], ◌∷◌, ◌++◌}
use Rattle.std.specs.Prelude.{length, drop, codes, None}
use Rattle.osc_picture.specs.declared.frame.Frame.{Frame}
use Rattle.osc_picture.specs.declared.stay.Stay.{Stay}
use Rattle.osc_picture.specs.declared.column.Mark.{Mark}
use Rattle.osc_picture.specs.declared.column.Mark.TheVariants.{Upright, Open, Cross}
use Rattle.osc_picture.specs.declared.row.Row.{Row}
use Rattle.osc_picture.specs.declared.row.Sort.{Sort}
use Rattle.osc_picture.specs.declared.row.Sort.TheVariants.{Marks, Curve, Texts}
use Rattle.osc_picture.specs.declared.shelf.Shelf.{Shelf}
use Rattle.osc_picture.specs.Frames.{x_of, end_of, width_of}
use Rattle.osc_picture.specs.Elements.{path_text, words_text, rect_text}
use Rattle.osc_picture.specs.Shelves.{first_name}
use Rattle.osc_picture.specs.Columns.{marks}
use Rattle.osc_picture.specs.Waits.{waits_text}
use Rattle.osc_picture.specs.Curves.{curve_text}
use Rattle.osc_picture.specs.Captions.{captions}

-- how far below its top the label of a row stands
abbrev pub label_of : Sort → ℕ
label_of Marks = 130
label_of Curve = 215
label_of Texts = 160

-- and the upper and the lower end of its marks
abbrev pub over_of : Sort → ℕ
over_of Marks = 35
over_of Curve = 270
over_of Texts = 160

abbrev pub under_of : Sort → ℕ
under_of Marks = 135
under_of Curve = 320
under_of Texts = 210

-- and their middle
abbrev pub middle_of : Sort → ℕ
middle_of Marks = 85
middle_of Curve = 295
middle_of Texts = 185

-- what follows the first name of an address
abbrev pub after_name : List ℕ → List ℕ
after_name address = drop (length (first_name address)) address

-- words of at most 16 characters, or two points and the last 14
abbrev pub shortened : List ℕ → List ℕ
shortened words =
    if nat_lt 16 (length words) then codes ".." ++ drop (length words - 14) words else words

-- the address of a row, or what follows the name that it shares
abbrev pub label_words : Bool → List ℕ → List ℕ
label_words shared address = shortened (if shared then after_name address else address)

unfoldable pub label_text : ℕ → Bool → Row → List ℕ
label_text top shared row =
    words_text (codes "a") 150 (top + label_of row.sort) (label_words shared row.address)

-- a path of marks
abbrev pub marked : List ℕ → Frame → ℕ → Mark → List ℕ → List ℕ
marked kind frame width mark moments = path_text kind (marks frame width mark None moments)

abbrev pub kind_of : Sort → List ℕ
kind_of Marks = []
kind_of Curve = codes "class=\"k\" "
kind_of Texts = []

-- the numbers or the texts of calls
abbrev pub carried_text : Frame → ℕ → Sort → Row → List ℕ
carried_text frame top Marks row = []
carried_text frame top Curve row = curve_text frame top row
carried_text frame top Texts row = captions frame (top + 130) 0 row.texts.items

-- the marks of calls, one for all of a column, and what they carried
unfoldable pub calls_text : Frame → ℕ → Row → List ℕ
calls_text frame top row =
    marked (kind_of row.sort) frame (width_of frame)
    (Upright (top + over_of row.sort) (top + under_of row.sort)) row.calls.items
    ++ carried_text frame top row.sort row

-- what was performed and called nothing, and what was discarded or refused
unfoldable pub others_text : Frame → ℕ → Row → List ℕ
others_text frame top row =
    marked (codes "class=\"o\" ") frame 20
    (Open (top + over_of row.sort) (top + under_of row.sort)) row.unheard.items
    ++ marked (codes "class=\"x\" ") frame 20 (Cross (top + middle_of row.sort)) row.crosses.items

-- all of a row
unfoldable pub strip : Frame → Shelf → Row → List ℕ
strip frame shelf row =
    label_text shelf.top shelf.shared row
    ++ waits_text frame (shelf.top + middle_of row.sort) row.waits.items
    ++ calls_text frame shelf.top row ++ others_text frame shelf.top row

-- the rows, each on its shelf
abbrev pub strips : Frame → List Shelf → List Row → List ℕ
strips frame (shelf ∷ shelves) (row ∷ rows) = strip frame shelf row ++ strips frame shelves rows
strips frame _ _ = []

-- a rectangle for a time in which a method was there
abbrev pub life_text : Frame → Shelf → Stay → List ℕ
life_text frame shelf life =
    rect_text (codes "l") (x_of frame life.from) shelf.top
    (max (end_of frame life.to - x_of frame life.from) 10) (shelf.height - 40)

abbrev pub row_lives : Frame → Shelf → List Stay → List ℕ
row_lives frame shelf [] = []
row_lives frame shelf (life ∷ lives) = life_text frame shelf life ++ row_lives frame shelf lives

abbrev pub lives : Frame → List Shelf → List Row → List ℕ
lives frame (shelf ∷ shelves) (row ∷ rows) =
    row_lives frame shelf row.lives.items ++ lives frame shelves rows
lives frame _ _ = []

-- the name that rows share, above the first of them
abbrev pub head_text : Shelf → Row → List ℕ
head_text shelf row =
    if shelf.headed then words_text (codes "g") 150 (shelf.top - 50) (first_name row.address) else []

abbrev pub heads : List Shelf → List Row → List ℕ
heads (shelf ∷ shelves) (row ∷ rows) = head_text shelf row ++ heads shelves rows
heads _ _ = []
