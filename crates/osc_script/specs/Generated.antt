-- The script that is drawn from a seed.
use Rattle.std.specs.Prelude.{ℕ, zero, suc, ◌+◌, ◌-◌, ◌/◌, ◌%◌, ◌==◌, nat_le, min, if◌then◌else◌}
use Rattle.std.specs.Prelude.{List, [], ◌∷◌, ◌++◌, length, codes}
use Rattle.std.specs.Fmt.{decimal}
use Rattle.osc_atoms.specs.Atoms.{word, tag, string}
use Rattle.osc_script.specs.declared.act.Act.{Act}
use Rattle.osc_script.specs.declared.act.Act.TheVariants.{Add, Remove, Send, Tick, Pump}
use Rattle.osc_script.specs.declared.line_kind.LineKind.{LineKind}
use Rattle.osc_script.specs.declared.line_kind.LineKind.TheVariants as kind
use Rattle.osc_script.specs.Draws.{after, drawn}
use Rattle.osc_script.specs.Written.{written}

-- a member of a group, all its members, and the members of this name in each group
abbrev pub member_of : ℕ → ℕ → List ℕ
member_of group member = codes "/g" ++ (decimal group ++ (codes "/n" ++ decimal member))

abbrev pub all_of : ℕ → List ℕ
all_of group = codes "/g" ++ (decimal group ++ codes "/*")

abbrev pub any_with : ℕ → List ℕ
any_with member = codes "/g?/n" ++ decimal member

-- a message with one integer
abbrev pub message : List ℕ → ℕ → List ℕ
message pattern value = string pattern ++ (string (codes ",i") ++ word value)

-- an element of a bundle, after its size
abbrev pub element : List ℕ → List ℕ
element packet = word (length packet) ++ packet

abbrev pub bundle : ℕ → List ℕ → List ℕ
bundle moment elements = string (codes "#bundle") ++ (tag moment ++ elements)

-- an address that is drawn, by two draws from a number on
abbrev pub drawn_address : ℕ → List ℕ
drawn_address number = member_of (drawn 1 8 number) (drawn 2 16 number)

-- messages that are drawn, the first by three draws and the others by two
abbrev pub to_one : ℕ → List ℕ
to_one number = message (drawn_address number) (drawn 3 1000000 number)

abbrev pub to_all : ℕ → List ℕ
to_all number = message (all_of (drawn 1 8 number)) (drawn 2 1000000 number)

abbrev pub to_any : ℕ → List ℕ
to_any number = message (any_with (drawn 1 16 number)) (drawn 2 1000000 number)

-- a bundle of two messages, and one of a message and an enclosed bundle; six draws and seven, of
-- which the first says by how much the bundle's moment lies after the last tick's
unfoldable pub two_of : ℕ → ℕ → List ℕ
two_of moment number =
    bundle (moment + drawn 1 4096 number)
    (element (to_one (after 1 number)) ++ element (to_any (after 4 number)))

unfoldable pub at_once : ℕ → List ℕ
at_once number = bundle 1 (element (to_one number))

unfoldable pub nested_of : ℕ → ℕ → List ℕ
nested_of moment number =
    bundle (moment + drawn 1 4096 number)
    (element (to_one (after 1 number)) ++ element (at_once (after 4 number)))

-- what a line is, by a number below 32
abbrev pub kind_of : ℕ → LineKind
kind_of number =
    if number == 0 then kind.Add
    else if number == 1 then kind.Remove
    else if nat_le number 5 then kind.Tick
    else if nat_le number 9 then kind.Pump
    else if nat_le number 17 then kind.One
    else if nat_le number 23 then kind.All
    else if nat_le number 28 then kind.Two
    else kind.Nested

-- what a line of this kind says, by the moment of the last tick and the number before its draws
abbrev pub act_of_kind : LineKind → ℕ → ℕ → Act
act_of_kind kind.Add moment number = Add (drawn_address number)
act_of_kind kind.Remove moment number = Remove (drawn_address number)
act_of_kind kind.Tick moment number = Tick (moment + drawn 1 1024 number)
act_of_kind kind.Pump moment number = Pump
act_of_kind kind.One moment number = Send (to_one number)
act_of_kind kind.All moment number = Send (to_all number)
act_of_kind kind.Two moment number = Send (two_of moment number)
act_of_kind kind.Nested moment number = Send (nested_of moment number)

-- how many draws it makes
abbrev pub draws_of : LineKind → ℕ
draws_of kind.Add = 2
draws_of kind.Remove = 2
draws_of kind.Tick = 1
draws_of kind.Pump = 0
draws_of kind.One = 3
draws_of kind.All = 2
draws_of kind.Two = 6
draws_of kind.Nested = 7

-- the moment of the last tick after it
abbrev pub moment_after : LineKind → ℕ → ℕ → ℕ
moment_after kind.Tick moment number = moment + drawn 1 1024 number
moment_after _ moment number = moment

-- so many acts, each of a kind that is drawn
unfoldable pub drawn_acts : ℕ → ℕ → ℕ → List Act
drawn_acts zero moment number = []
drawn_acts (suc lines) moment number =
    let line = kind_of (drawn 1 32 number) in
    let next = after 1 number in
    act_of_kind line moment next
    ∷ drawn_acts lines (moment_after line moment next) (after (draws_of line) next)

-- so many adds, from the k-th on: eight groups, and one member of each after another
unfoldable pub first_acts : ℕ → ℕ → List Act
first_acts zero k = []
first_acts (suc lines) k = Add (member_of (k % 8) (k / 8)) ∷ first_acts lines (k + 1)

-- how many adds there are at the most, before what is drawn
abbrev pub first_most : ℕ
first_most = 64

-- up to so many adds, and then what is drawn, the first moment being 2
abbrev pub generated_acts : ℕ → ℕ → List Act
generated_acts seed lines =
    first_acts (min lines first_most) 0 ++ drawn_acts (lines - first_most) 2 seed

-- the script of so many lines that is drawn from a seed
abbrev pub generated_script : ℕ → ℕ → List ℕ
generated_script seed lines = written (generated_acts seed lines)
