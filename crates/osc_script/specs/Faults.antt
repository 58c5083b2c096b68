-- The first line of a script that is at fault.
use Rattle.std.specs.Prelude.{◌≡◌, ℕ, ◌+◌, List, ◌∷◌, ◌++◌, length, Err, IsOk}
use Rattle.std.specs.List.{AllByRecursion}
use Rattle.osc_script.specs.declared.fault.ScriptFault.{ScriptFault}
use Rattle.osc_script.specs.declared.fault.ScriptFaultKind.{ScriptFaultKind}
use Rattle.osc_script.specs.declared.mode.Mode.{Mode}
use Rattle.osc_script.specs.Kinds.{kind_number}
use Rattle.osc_script.specs.Words.{lines_of}
use Rattle.osc_script.specs.Scripts.{line_says}

-- a line with this fault, and only lawful or skipped lines before it
pub record IsFirstFault (mode : Mode) (bytes : List ℕ) (fault : ScriptFault) : Type 0 where
  pub before : List (List ℕ)
  pub text : List ℕ
  pub after : List (List ℕ)
  pub lines : lines_of bytes ≡ before ++ text ∷ after
  pub number : fault.line ≡ length before + 1
  pub lawful : AllByRecursion (λ line. IsOk (line_says mode line)) before
  pub kind : ScriptFaultKind
  pub said : line_says mode text ≡ Err kind
  pub numbered : fault.kind ≡ kind_number kind
