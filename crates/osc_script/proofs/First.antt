-- The first line at fault decides.
use Rattle.std.proofs.Common.{◌≡◌, ℕ, ◌+◌, ◌<◌, Bool, true, false, cond, List, [], ◌∷◌, ◌++◌, length, Option, Some, None, Result, Ok, Err, IsOk, refl, ap}
use Rattle.std.proofs.Common.{subst, ◌∙◌, arith, nat_lt}
use Rattle.std.specs.List.{AllByRecursion}
use Rattle.osc_script.specs.declared.said.Said.{Said}
use Rattle.osc_script.specs.declared.line.Line.{Line}
use Rattle.osc_script.specs.declared.mode.Mode.{Mode}
use Rattle.osc_script.specs.declared.fault.ScriptFault.{ScriptFault}
use Rattle.osc_script.specs.declared.fault.ScriptFaultKind.{ScriptFaultKind}
use Rattle.osc_script.specs.declared.fault.ScriptRefusal.{ScriptRefusal}
use Rattle.osc_script.specs.declared.fault.ScriptRefusal.TheVariants.{Fault, NoMemory}
use Rattle.osc_script.specs.Kinds.{kind_number}
use Rattle.osc_script.specs.Words.{lines_of}
use Rattle.osc_script.specs.Answers.{Reads}
use Rattle.osc_script.specs.Faults.{IsFirstFault}
use Rattle.osc_script.specs.Scripts.{line_says, line_from, onto, script_from, script_of}

-- the same of lines that are counted from a number on
record IsFirstFrom (mode : Mode) (number : ℕ) (texts : List (List ℕ)) (fault : ScriptFault) : Type 0 where
  before : List (List ℕ)
  text : List ℕ
  after : List (List ℕ)
  lines : texts ≡ before ++ text ∷ after
  line : fault.line ≡ number + length before
  lawful : AllByRecursion (λ text. IsOk (line_says mode text)) before
  kind : ScriptFaultKind
  said : line_says mode text ≡ Err kind
  numbered : fault.kind ≡ kind_number kind

later : (mode : Mode) (number : ℕ) (text : List ℕ) (texts : List (List ℕ)) (fault : ScriptFault) → IsOk (line_says mode text)
    → IsFirstFrom mode (number + 1) texts fault
    → IsFirstFrom mode number (text ∷ texts) fault
later mode number text texts fault good first = record {
  before = text ∷ first.before;
  text = first.text;
  after = first.after;
  lines = ap (λ l. text ∷ l) first.lines;
  line = omega (arith, first.line);
  lawful = (good, first.lawful);
  kind = first.kind;
  said = first.said;
  numbered = first.numbered;
}

here : (mode : Mode) (number : ℕ) (text : List ℕ) (texts : List (List ℕ)) (kind : ScriptFaultKind) (fault : ScriptFault) → line_says mode text ≡ Err kind
    → record { line = number; kind = kind_number kind } ≡ fault → IsFirstFrom mode number (text ∷ texts) fault
here mode number text texts kind fault said same = subst (λ f. IsFirstFrom mode number (text ∷ texts) f) same (record {
  before = [];
  text = text;
  after = texts;
  lines = refl;
  line = omega arith;
  lawful = tt;
  kind = kind;
  said = said;
  numbered = refl;
})

first_from : (mode : Mode) (number : ℕ) (texts : List (List ℕ)) (fault : ScriptFault) → script_from mode number texts ≡ Err fault
    → IsFirstFrom mode number texts fault
first_from mode number [] fault is = absurd (cc)
first_from mode number (text ∷ texts) fault is =
    go (line_says mode text) refl (script_from mode (number + 1) texts) (first_from mode (number + 1) texts fault) is where
      go : (said : Result (Option Said) ScriptFaultKind) → line_says mode text ≡ said → (others : Result (List Line) ScriptFault)
          → (others ≡ Err fault → IsFirstFrom mode (number + 1) texts fault) → onto (line_from number said) others ≡ Err fault
          → IsFirstFrom mode number (text ∷ texts) fault
      go (Err kind) said others rest so =
          let same : record { line = number; kind = kind_number kind } ≡ fault = cc in here mode number text texts kind fault said same
      go (Ok None) said others rest so = later mode number text texts fault (rw said refl) (rest so)
      go (Ok (Some one)) said (Err other) rest so = later mode number text texts fault (rw said refl) (rest so)
      go (Ok (Some one)) said (Ok lines) rest so = absurd (cc)

first_of_lines : (mode : Mode) (bytes : List ℕ) (fault : ScriptFault) → script_from mode 1 (lines_of bytes) ≡ Err fault → IsFirstFault mode bytes fault
first_of_lines mode bytes fault is = let first = first_from mode 1 (lines_of bytes) fault is in record {
  before = first.before;
  text = first.text;
  after = first.after;
  lines = first.lines;
  number = omega (arith, first.line);
  lawful = first.lawful;
  kind = first.kind;
  said = first.said;
  numbered = first.numbered;
}

pub first_fault : (mode : Mode) (bytes : List ℕ) (fault : ScriptFault) → script_of mode bytes ≡ Err fault → 0 < fault.line → IsFirstFault mode bytes fault
first_fault mode bytes fault is some = go (nat_lt 67108864 (length bytes)) is where
  go : (t : Bool) → cond {A = Result (List Line) ScriptFault} t (Err (record { line = 0; kind = 1 })) (script_from mode 1 (lines_of bytes)) ≡ Err fault
      → IsFirstFault mode bytes fault
  go true so = let same : record { line = 0; kind = 1 } ≡ fault = cc in let none : 0 ≡ fault.line = ap (λ (f : ScriptFault). f.line) same in
      absurd (omega (arith, none, some))
  go false so = first_of_lines mode bytes fault so

-- the same of what is answered
pub first_answered : (mode : Mode) (bytes : List ℕ) (result : Result (List Line) ScriptRefusal) → Reads result (script_from mode 1 (lines_of bytes))
    → (fault : ScriptFault) → result ≡ Err (Fault fault) → IsFirstFault mode bytes fault
first_answered mode bytes (Ok lines) reads fault is = absurd (cc)
first_answered mode bytes (Err NoMemory) reads fault is = absurd (cc)
first_answered mode bytes (Err (Fault other)) reads fault is =
    let same : other ≡ fault = cc in
    first_of_lines mode bytes fault (reads ∙ ap Err same)
