-- What is kept goes on with a line, and with a line's words.
use Rattle.osc_score.specs.declared.limits.TheConstants.{MAX_SCORE}
use Rattle.std.proofs.Common.{◌≡◌, ℕ, ◌+◌, ◌≤◌, List, [], ◌∷◌, length, Result, Ok, Err, refl, sym, ap, ◌∙◌, arith}
use Rattle.osc_script.specs.Words.{lines_of}
use Rattle.osc_score.specs.declared.reader.Reader.{Reader}
use Rattle.osc_score.specs.declared.fault.ScoreFault.{ScoreFault}
use Rattle.osc_score.specs.declared.fault.ScoreFaultKind.{ScoreFaultKind}
use Rattle.osc_score.specs.Kinds.{kind_number}
use Rattle.osc_script.specs.declared.fault.LineRefusal.TheVariants.{Kind}
use Rattle.osc_score.specs.Scores.{Note}
use Rattle.osc_score.specs.Reading.{line_read, lines_read}
use Rattle.osc_score.specs.Keeping.{Keeps, IsReading, Goes}
use Rattle.osc_score.proofs.Read.{TestsAddresses, IsGood, line_good, none_good, none_tree}

-- the notes so far are kept, and what the lines after them say is what all of them say
pub record ReadsOn (reader : Reader) (number : ℕ) (rest all : List (List ℕ)) : Type 0 where
  pub notes : List Note
  pub kept : Keeps reader notes
  pub good : IsGood notes
  pub read : lines_read number notes rest ≡ lines_read 1 [] all

-- nothing is read yet
pub on_first : (reader : Reader) (all : List (List ℕ)) → Keeps reader [] → ReadsOn reader 1 all all
on_first reader all kept = record { notes = []; kept = kept; good = none_good none_tree; read = refl }

pub on_reading : (reader : Reader) (number : ℕ) (rest all : List (List ℕ)) → ReadsOn reader number rest all → IsReading reader
on_reading reader number rest all on = record { notes = on.notes; kept = on.kept; lawful = on.good.tree }

pub read_ok : (number : ℕ) (notes more : List Note) (text : List ℕ) (texts : List (List ℕ)) → line_read notes text ≡ Ok more
    → lines_read number notes (text ∷ texts) ≡ lines_read (number + 1) more texts
read_ok number notes more text texts is =
    ap (λ (r : Result (List Note) ScoreFaultKind). elim r as (λ x. Result (List Note) ScoreFault) [
      | Ok more ↦ lines_read (number + 1) more texts
      | Err kind ↦ Err (record { line = number; kind = kind_number kind })
    ]) is

read_err : (number : ℕ) (notes : List Note) (kind : ScoreFaultKind) (text : List ℕ) (texts : List (List ℕ)) → line_read notes text ≡ Err kind
    → lines_read number notes (text ∷ texts) ≡ Err (record { line = number; kind = kind_number kind })
read_err number notes kind text texts is =
    ap (λ (r : Result (List Note) ScoreFaultKind). elim r as (λ x. Result (List Note) ScoreFault) [
      | Ok more ↦ lines_read (number + 1) more texts
      | Err kind ↦ Err (record { line = number; kind = kind_number kind })
    ]) is

-- a line is read, and the rest is read on
pub on_line : TestsAddresses → (old new : Reader) (number : ℕ) (rest text after : List ℕ) (all : List (List ℕ)) → ReadsOn old number (lines_of rest) all
    → lines_of rest ≡ text ∷ lines_of after → length text ≤ MAX_SCORE
    → ((notes : List Note) → Keeps old notes → Goes (Ok tt) (line_read notes text) new)
    → ReadsOn new (number + 1) (lines_of after) all
on_line tests old new number rest text after all on cut few goes = go (line_read notes text) refl (goes notes on.kept) where
  notes : List Note
  notes = on.notes

  go : (r : Result (List Note) ScoreFaultKind) → line_read notes text ≡ r → Goes (Ok tt) r new → ReadsOn new (number + 1) (lines_of after) all
  go (Err kind) is so = absurd so
  go (Ok more) is so = record {
    notes = more;
    kept = so;
    good = (line_good tests notes text more on.good (omega arith) is).good;
    read = sym (read_ok number notes more text (lines_of after) is) ∙ ap (λ (l : List (List ℕ)). lines_read number notes l) (sym cut) ∙ on.read;
  }

-- a line is at fault
pub on_fault : (old new : Reader) (number : ℕ) (kind : ScoreFaultKind) (rest text after : List ℕ) (all : List (List ℕ)) → ReadsOn old number (lines_of rest) all
    → lines_of rest ≡ text ∷ lines_of after → ((notes : List Note) → Keeps old notes → Goes (Err (Kind kind)) (line_read notes text) new)
    → lines_read 1 [] all ≡ Err (record { line = number; kind = kind_number kind })
on_fault old new number kind rest text after all on cut goes =
    sym on.read ∙ ap (λ (l : List (List ℕ)). lines_read number on.notes l) cut
    ∙ read_err number on.notes kind text (lines_of after) (goes on.notes on.kept)

-- no line is left
pub on_end : (reader : Reader) (number : ℕ) (rest : List ℕ) (all : List (List ℕ)) → ReadsOn reader number (lines_of rest) all → length rest ≡ 0
    → (notes : List Note) × (lines_read 1 [] all ≡ Ok notes) × Keeps reader notes
on_end reader number [] all on none = (on.notes, sym on.read, on.kept)
on_end reader number (x ∷ rest) all on none = absurd (omega arith)
