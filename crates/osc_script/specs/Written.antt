-- How a script is written.
use Rattle.std.specs.Prelude.{ℕ, ◌+◌, ◌<◌, ◌^◌, IsTrue, List, [], ◌∷◌, ◌++◌, length, codes}
use Rattle.std.specs.List.{flat_map}
use Rattle.hex.specs.Hex.{IsBytes, encode_lower}
use Rattle.osc_atoms.specs.Atoms.{tag}
use Rattle.osc_pattern.specs.Addresses.{is_address}
use Rattle.osc_script.specs.declared.act.Act.{Act}
use Rattle.osc_script.specs.declared.act.Act.TheVariants.{Add, Remove, Send, Tick, Pump}
use Rattle.osc_script.specs.declared.line.Line.{Line}

-- a word, and an operand after a space
abbrev pub with_operand : List ℕ → List ℕ → List ℕ
with_operand word operand = word ++ 32 ∷ operand

-- the words of an act
abbrev pub act_text : Act → List ℕ
act_text (Add address) = with_operand (codes "add") address
act_text (Remove address) = with_operand (codes "remove") address
act_text (Send packet) = with_operand (codes "send") (encode_lower packet)
act_text (Tick moment) = with_operand (codes "tick") (encode_lower (tag moment))
act_text Pump = codes "pump"

-- its line
abbrev pub act_line : Act → List ℕ
act_line act = act_text act ++ 10 ∷ []

-- a script of these acts, a line each
abbrev pub written : List Act → List ℕ
written acts = flat_map act_line acts

-- the acts as lines, counted from a number on
abbrev pub numbered : ℕ → List Act → List Line
numbered number [] = []
numbered number (act ∷ acts) =
    record { number = number; lane = 0; act = act } ∷ numbered (number + 1) acts

-- an act that a line can say
abbrev pub IsWritable : Act → Type 0
IsWritable (Add address) = IsTrue (is_address address)
IsWritable (Remove address) = IsTrue (is_address address)
IsWritable (Send packet) = IsBytes packet × (0 < length packet)
IsWritable (Tick moment) = moment < 2 ^ 64
IsWritable Pump = Unit {0}
