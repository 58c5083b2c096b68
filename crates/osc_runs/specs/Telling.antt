-- What is told of a run.
use Rattle.std.specs.Prelude.{ℕ, Bool, nat_lt, if◌then◌else◌, List, ◌++◌, codes}
use Rattle.std.specs.Prelude.{Some}
use Rattle.std.specs.List.{flat_map}
use Rattle.osc_shown.specs.declared.head.Head.{Head}
use Rattle.osc_shown.specs.declared.look.Look.{Look}
use Rattle.osc_shown.specs.Numbers.{thousands}
use Rattle.osc_shown.specs.Times.{span_text}
use Rattle.osc_shown.specs.Told.{note_text}
use Rattle.osc_runs.specs.Gathering.{Gathered}

-- the head of a line that tells of several
abbrev pub head_at : Look → ℕ → Head
head_at look moment = record { look = look; moment = Some moment; mark = 32; join = 32 }

-- the address, and the first and the last argument, as `/desk/1/level 0.0 .. 0.8`
abbrev pub row_words : Gathered → List ℕ
row_words row = row.address ++ codes " " ++ row.first ++ codes " .. " ++ row.last

-- how many lines, and from the first to the last, as `51 in 2.000 s`
abbrev pub row_tail : Gathered → List ℕ
row_tail row = thousands row.count ++ codes " in " ++ span_text row.since row.till

-- the lines of an address are told as one
abbrev pub is_many : Gathered → Bool
is_many row = nat_lt 2 row.count

-- one line for an address with more than two, else the lines themselves
abbrev pub row_text : Gathered → List ℕ
row_text row =
    if is_many row
    then note_text (head_at row.look row.since) (row_words row) (row_tail row)
    else row.line ++ row.second

-- the addresses one after another, in the order in which they came first
abbrev pub rows_text : List Gathered → List ℕ
rows_text rows = flat_map row_text rows
