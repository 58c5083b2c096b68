-- What is told of lines that follow one another, by all of them.
use Rattle.std.specs.Prelude.{ℕ, ◌+◌, if◌then◌else◌, List, [], ◌∷◌, ◌++◌, length, codes}
use Rattle.std.specs.List.{flat_map}
use Rattle.std.specs.Str.{bytes_eq}
use Rattle.osc_shown.specs.Numbers.{thousands}
use Rattle.osc_shown.specs.Times.{span_text}
use Rattle.osc_shown.specs.Told.{note_text}
use Rattle.osc_runs.specs.Gathering.{Plain}
use Rattle.osc_runs.specs.Telling.{head_at}

-- those of an address
abbrev pub of_address : List ℕ → List Plain → List Plain
of_address address [] = []
of_address address (plain ∷ plains) =
    if bytes_eq address plain.address then plain ∷ of_address address plains
    else of_address address plains

-- all addresses but one
abbrev pub without : List ℕ → List (List ℕ) → List (List ℕ)
without address [] = []
without address (one ∷ others) =
    if bytes_eq address one then without address others else one ∷ without address others

-- the addresses, each once, in the order in which they came first
abbrev pub addresses : List Plain → List (List ℕ)
addresses [] = []
addresses (plain ∷ plains) = plain.address ∷ without plain.address (addresses plains)

-- the last of this line and those after it
abbrev pub last_of : Plain → List Plain → Plain
last_of plain [] = plain
last_of plain (next ∷ more) = last_of next more

-- What is told of the lines of one address: the lines themselves, or where there are more than two
-- one line of the first and the last argument, how many, and how long from the first to the last.
abbrev pub told : List Plain → List ℕ
told [] = []
told (one ∷ []) = one.line
told (one ∷ two ∷ []) = one.line ++ two.line
told (one ∷ two ∷ three ∷ more) =
    note_text (head_at one.look one.moment)
    (one.address ++ codes " " ++ one.words ++ codes " .. " ++ (last_of three more).words)
    (thousands (length more + 3) ++ codes " in "
    ++ span_text one.moment (last_of three more).moment)

-- what is told of a run: its addresses one after another
abbrev pub run_text : List Plain → List ℕ
run_text plains = flat_map (λ address. told (of_address address plains)) (addresses plains)
