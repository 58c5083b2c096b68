-- The first word, and what each command has after it.
use Rattle.std.specs.Prelude.{ℕ, if◌then◌else◌, List, [], ◌∷◌, ◌++◌, map, Option, Some, None, codes}
use Rattle.std.specs.Str.{bytes_eq}
use Rattle.osc_words.specs.declared.options.Flag.TheVariants.{Bytes, Tcp, Play, Watch}
use Rattle.osc_words.specs.declared.options.Quantity.TheVariants.{Units, Blocks, Methods, Nodes}
use Rattle.osc_words.specs.declared.options.Quantity.TheVariants.{Recording, Seed, Lines, Port}
use Rattle.osc_words.specs.declared.options.Quantity.TheVariants.{Links, Count, Idle}
use Rattle.osc_words.specs.declared.options.Parameter.{Parameter}
use Rattle.osc_words.specs.declared.options.Parameter.TheVariants.{Flag, Number, Late, Old, File}
use Rattle.osc_words.specs.declared.verb.Verb.{Verb}
use Rattle.osc_words.specs.declared.verb.Verb.TheVariants.{Run, Replay, Dump, Upgrade, Score, Gen}
use Rattle.osc_words.specs.declared.verb.Verb.TheVariants.{Lanes, Serve, Resume}

abbrev pub verb_of : List ℕ → Option Verb
verb_of word =
    if bytes_eq word (codes "run") then Some Run
    else if bytes_eq word (codes "replay") then Some Replay
    else if bytes_eq word (codes "dump") then Some Dump
    else if bytes_eq word (codes "upgrade") then Some Upgrade
    else if bytes_eq word (codes "score") then Some Score
    else if bytes_eq word (codes "gen") then Some Gen
    else if bytes_eq word (codes "lanes") then Some Lanes
    else if bytes_eq word (codes "serve") then Some Serve
    else if bytes_eq word (codes "resume") then Some Resume
    else None

-- the limits of a server, and what becomes of late units
abbrev pub caps : List Parameter
caps = map Number (Units ∷ Blocks ∷ Methods ∷ Nodes ∷ Recording ∷ []) ++ Late ∷ []

-- what may stand before the files of a `resume`
abbrev pub before_files : List Parameter
before_files = Number Recording ∷ []

-- what may stand after the first word
abbrev pub options_of : Verb → List Parameter
options_of Run = Flag Bytes ∷ caps
options_of Replay = []
options_of Dump = []
options_of Upgrade = []
options_of Score = Flag Play ∷ []
options_of Gen = Number Seed ∷ Number Lines ∷ []
options_of Lanes = Flag Watch ∷ caps ++ File ∷ []
options_of Serve =
    Flag Tcp ∷ map Number (Port ∷ Links ∷ Count ∷ Idle ∷ []) ++ caps ++ File ∷ []
options_of Resume = before_files ++ Old ∷ File ∷ []
