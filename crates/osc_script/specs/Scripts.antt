-- What a list of bytes says line by line, or its first fault.
use Rattle.osc_script.specs.declared.script.TheConstants.{MAX_SCRIPT}
use Rattle.osc_script.specs.declared.lane.TheConstants.{MAX_LANES}
use Rattle.std.specs.Prelude.{◌≡◌, ℕ, ◌+◌, ◌<◌, nat_lt, nat_eq, if◌then◌else◌, List, [], ◌∷◌}
use Rattle.std.specs.Prelude.{length, Option, Some, None, ok_or, Result, Ok, Err, codes}
use Rattle.std.specs.List.{starts_with, AllByRecursion}
use Rattle.osc_script.specs.declared.act.Act.{Act}
use Rattle.osc_script.specs.declared.act.Act.TheVariants.{Add}
use Rattle.osc_script.specs.declared.said.Said.{Said}
use Rattle.osc_script.specs.declared.line.Line.{Line}
use Rattle.osc_script.specs.declared.fault.ScriptFault.{ScriptFault}
use Rattle.osc_script.specs.declared.fault.ScriptFaultKind.{ScriptFaultKind}
use Rattle.osc_script.specs.declared.fault.ScriptFaultKind.TheVariants as kinds
use Rattle.osc_script.specs.declared.mode.Mode.{Mode}
use Rattle.osc_script.specs.declared.mode.Mode.TheVariants.{Plain, Lanes, Serve}
use Rattle.osc_script.specs.Words.{words_of, lines_of}
use Rattle.osc_script.specs.Kinds.{kind_number}
use Rattle.osc_script.specs.Lanes.{lane_of}
use Rattle.osc_script.specs.Acts.{and_then, act_of, served_of, IsLawfulAct}

-- an act in this lane, where there is no fault yet
abbrev pub on_lane : ℕ → Result Act ScriptFaultKind → Result Said ScriptFaultKind
on_lane lane read = and_then read (λ act. Ok (record { lane = lane; act = act }))

-- what the words after a lane's number say; there is one at least
abbrev pub in_lane : ℕ → List (List ℕ) → Result Said ScriptFaultKind
in_lane lane [] = Err kinds.Count
in_lane lane (word ∷ operands) = on_lane lane (act_of word operands)

-- what a first word and the words after it say where there are no lanes
abbrev pub plain_says : List ℕ → List (List ℕ) → Result Said ScriptFaultKind
plain_says word operands = on_lane 0 (act_of word operands)

-- what they say in a mode; in mode Lanes the first word is the lane's number
abbrev pub said_of : Mode → List ℕ → List (List ℕ) → Result Said ScriptFaultKind
said_of Plain word operands = plain_says word operands
said_of Lanes word operands =
    and_then (ok_or (lane_of word) kinds.Lane) (λ lane. in_lane lane operands)
said_of Serve word operands = on_lane 0 (served_of word operands)

-- what a line says with its number
abbrev pub line_from : ℕ → Result (Option Said) ScriptFaultKind → Result (Option Line) ScriptFault
line_from number (Ok None) = Ok None
line_from number (Ok (Some said)) =
    Ok (Some (record { number = number; lane = said.lane; act = said.act }))
line_from number (Err kind) = Err (record { line = number; kind = kind_number kind })

-- a line before others: nothing of one that is skipped, and a fault decides alone
abbrev pub onto : Result (Option Line) ScriptFault → Result (List Line) ScriptFault
    → Result (List Line) ScriptFault
onto (Err fault) others = Err fault
onto (Ok None) others = others
onto (Ok (Some line)) (Err fault) = Err fault
onto (Ok (Some line)) (Ok lines) = Ok (line ∷ lines)

-- by what a first word and the words after it say
module _ (says : List ℕ → List (List ℕ) → Result Said ScriptFaultKind) where
  -- what words say; none say nothing
  abbrev pub words_by : List (List ℕ) → Result (Option Said) ScriptFaultKind
  words_by [] = Ok None
  words_by (word ∷ operands) = and_then (says word operands) (λ said. Ok (Some said))

  -- what a line says: an act, nothing where it is skipped, or the kind of its fault
  abbrev pub line_by : List ℕ → Result (Option Said) ScriptFaultKind
  line_by text = if starts_with nat_eq text (codes "#") then Ok None else words_by (words_of text)

  -- the lines, counted from a number on
  abbrev pub lines_by : ℕ → List (List ℕ) → Result (List Line) ScriptFault
  lines_by number [] = Ok []
  lines_by number (text ∷ texts) =
      onto (line_from number (line_by text)) (lines_by (number + 1) texts)

  -- an input that is too long is a fault in no line
  abbrev pub script_by : List ℕ → Result (List Line) ScriptFault
  script_by bytes =
      if nat_lt MAX_SCRIPT (length bytes)
      then Err (record { line = 0; kind = kind_number kinds.TooLong })
      else lines_by 1 (lines_of bytes)

-- the lines of a script without lanes, or its first fault
abbrev pub plain_script : List ℕ → Result (List Line) ScriptFault
plain_script bytes = script_by plain_says bytes

-- those of a script in a mode
abbrev pub script_of : Mode → List ℕ → Result (List Line) ScriptFault
script_of mode bytes = script_by (said_of mode) bytes

-- some of them, counted from a number on
abbrev pub script_from : Mode → ℕ → List (List ℕ) → Result (List Line) ScriptFault
script_from mode number texts = lines_by (said_of mode) number texts

-- what one line says in a mode
abbrev pub line_says : Mode → List ℕ → Result (Option Said) ScriptFaultKind
line_says mode text = line_by (said_of mode) text

-- each line's act is lawful
abbrev pub AreLawful : List Line → Type 0
AreLawful lines = AllByRecursion (λ line. IsLawfulAct line.act) lines

-- what holds of a line of this mode: its lane is 0, or one of the lanes in mode Lanes, and in mode
-- Serve it adds a method
abbrev pub IsOf : Mode → Line → Type 0
IsOf Plain line = line.lane ≡ 0
IsOf Lanes line = line.lane < MAX_LANES
IsOf Serve line = (line.lane ≡ 0) × ((address : List ℕ) × (line.act ≡ Add address))

-- the same of each line
abbrev pub AreOf : Mode → List Line → Type 0
AreOf mode lines = AllByRecursion (λ line. IsOf mode line) lines
