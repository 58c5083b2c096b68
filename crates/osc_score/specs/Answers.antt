-- What the reading of a score answers, where memory may be refused.
use Rattle.std.specs.Prelude.{◌≡◌, ℕ, ◌+◌, List, [], ◌∷◌, ◌++◌, length, Result, Ok, Err}
use Rattle.osc_script.specs.Words.{lines_of}
use Rattle.osc_score.specs.declared.fault.ScoreFault.{ScoreFault}
use Rattle.osc_score.specs.declared.fault.ScoreFaultKind.{ScoreFaultKind}
use Rattle.osc_score.specs.declared.fault.ScoreRefusal.{ScoreRefusal}
use Rattle.osc_score.specs.declared.fault.ScoreRefusal.TheVariants.{Fault, NoMemory}
use Rattle.osc_score.specs.Kinds.{kind_number}
use Rattle.osc_score.specs.Scores.{Note}
use Rattle.osc_score.specs.Reading.{line_read, lines_read}
use Rattle.osc_score.specs.Plans.{Plan, plan_of}

-- what is kept of the notes that are read, or the first fault, unless memory is refused
abbrev pub Reads : Result Plan ScoreRefusal → Result (List Note) ScoreFault → Type 0
Reads (Ok score) read = (notes : List Note) × (read ≡ Ok notes) × (score ≡ plan_of notes)
Reads (Err (Fault fault)) read = read ≡ Err fault
Reads (Err NoMemory) read = Unit {0}

-- a line with this fault after the notes of the lines before it, of which none is at fault
pub record IsFirstFault (bytes : List ℕ) (fault : ScoreFault) : Type 0 where
  pub before : List (List ℕ)
  pub text : List ℕ
  pub after : List (List ℕ)
  pub lines : lines_of bytes ≡ before ++ text ∷ after
  pub number : fault.line ≡ length before + 1
  pub notes : List Note
  pub lawful : lines_read 1 [] before ≡ Ok notes
  pub kind : ScoreFaultKind
  pub said : line_read notes text ≡ Err kind
  pub numbered : fault.kind ≡ kind_number kind
