-- The first line at fault decides.
use Rattle.std.proofs.Common.{◌≡◌, ℕ, ◌+◌, List, [], ◌∷◌, ◌++◌, length, Result, Ok, Err, refl, ap, ◌∙◌, subst, arith}
use Rattle.osc_script.specs.Words.{lines_of}
use Rattle.osc_score.specs.declared.fault.ScoreFault.{ScoreFault}
use Rattle.osc_score.specs.declared.fault.ScoreFaultKind.{ScoreFaultKind}
use Rattle.osc_score.specs.Kinds.{kind_number}
use Rattle.osc_score.specs.declared.fault.ScoreRefusal.{ScoreRefusal}
use Rattle.osc_score.specs.declared.fault.ScoreRefusal.TheVariants.{Fault, NoMemory}
use Rattle.osc_score.specs.declared.score.Score.{Score}
use Rattle.osc_score.specs.Keeping.{KeepsAll}
use Rattle.osc_score.specs.Scores.{Note}
use Rattle.osc_score.specs.Reading.{line_read, lines_read}
use Rattle.osc_score.specs.Answers.{IsFirstFault}
use Rattle.osc_score.proofs.Going.{read_ok}

-- the same of lines that are counted from a number on, after notes
record IsFirstFrom (number : ℕ) (notes : List Note) (texts : List (List ℕ)) (fault : ScoreFault) : Type 0 where
  before : List (List ℕ)
  text : List ℕ
  after : List (List ℕ)
  lines : texts ≡ before ++ text ∷ after
  line : fault.line ≡ number + length before
  kept : List Note
  lawful : lines_read number notes before ≡ Ok kept
  kind : ScoreFaultKind
  said : line_read kept text ≡ Err kind
  numbered : fault.kind ≡ kind_number kind

later : (number : ℕ) (notes more : List Note) (text : List ℕ) (texts : List (List ℕ)) (fault : ScoreFault) → line_read notes text ≡ Ok more
    → IsFirstFrom (number + 1) more texts fault → IsFirstFrom number notes (text ∷ texts) fault
later number notes more text texts fault is first = record {
  before = text ∷ first.before;
  text = first.text;
  after = first.after;
  lines = ap (λ l. text ∷ l) first.lines;
  line = omega (arith, first.line);
  kept = first.kept;
  lawful = read_ok number notes more text first.before is ∙ first.lawful;
  kind = first.kind;
  said = first.said;
  numbered = first.numbered;
}

here : (number : ℕ) (notes : List Note) (text : List ℕ) (texts : List (List ℕ)) (kind : ScoreFaultKind) (fault : ScoreFault) → line_read notes text ≡ Err kind
    → record { line = number; kind = kind_number kind } ≡ fault → IsFirstFrom number notes (text ∷ texts) fault
here number notes text texts kind fault is same = subst (λ f. IsFirstFrom number notes (text ∷ texts) f) same (record {
  before = [];
  text = text;
  after = texts;
  lines = refl;
  line = omega arith;
  kept = notes;
  lawful = refl;
  kind = kind;
  said = is;
  numbered = refl;
})

first_from : (number : ℕ) (notes : List Note) (texts : List (List ℕ)) (fault : ScoreFault) → lines_read number notes texts ≡ Err fault
    → IsFirstFrom number notes texts fault
first_from number notes [] fault is = absurd (cc)
first_from number notes (text ∷ texts) fault is =
    go (line_read notes text) refl (λ more so. first_from (number + 1) more texts fault so) is where
      go : (r : Result (List Note) ScoreFaultKind) → line_read notes text ≡ r
          → ((more : List Note) → lines_read (number + 1) more texts ≡ Err fault → IsFirstFrom (number + 1) more texts fault)
          → (elim r as (λ x. Result (List Note) ScoreFault) [
            | Ok more ↦ lines_read (number + 1) more texts
            | Err kind ↦ Err (record { line = number; kind = kind_number kind })
          ]) ≡ Err fault
          → IsFirstFrom number notes (text ∷ texts) fault
      go (Ok more) read rest so = later number notes more text texts fault read (rest more so)
      go (Err kind) read rest so =
          let same : record { line = number; kind = kind_number kind } ≡ fault = cc in here number notes text texts kind fault read same

first_of_lines : (bytes : List ℕ) (fault : ScoreFault) → lines_read 1 [] (lines_of bytes) ≡ Err fault → IsFirstFault bytes fault
first_of_lines bytes fault is = let first = first_from 1 [] (lines_of bytes) fault is in record {
  before = first.before;
  text = first.text;
  after = first.after;
  lines = first.lines;
  number = omega (arith, first.line);
  notes = first.kept;
  lawful = first.lawful;
  kind = first.kind;
  said = first.said;
  numbered = first.numbered;
}

-- the same of what is answered
pub first_kept : (bytes : List ℕ) (refusal : ScoreRefusal) (fault : ScoreFault) → KeepsAll (Err refusal) (lines_read 1 [] (lines_of bytes))
    → ◌≡◌ {A = Result Score ScoreRefusal} (Err refusal) (Err (Fault fault)) → IsFirstFault bytes fault
first_kept bytes NoMemory fault kept is = absurd (cc)
first_kept bytes (Fault other) fault kept is =
    let same : other ≡ fault = cc in first_of_lines bytes fault (kept ∙ ap (λ (f : ScoreFault). Err f) same)
