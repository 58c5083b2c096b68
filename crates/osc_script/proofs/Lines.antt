-- The lines of a script, one more line on.
use Rattle.std.proofs.Common.{◌≡◌, ℕ, ◌+◌, List, [], ◌∷◌, ◌++◌, Option, Some, None, Result, Ok, Err, option_to_list, refl, sym, ap, ◌∙◌, append_assoc}
use Rattle.std.proofs.lemmas.List.{append-nil}
use Rattle.osc_script.specs.declared.line.Line.{Line}
use Rattle.osc_script.specs.declared.mode.Mode.{Mode}
use Rattle.osc_script.specs.declared.fault.ScriptFault.{ScriptFault}
use Rattle.osc_script.specs.Words.{lines_of}
use Rattle.osc_script.specs.Scripts.{line_from, line_says, onto, script_from}

-- what is read, after what was read before
abbrev pub after_front : List Line → Result (List Line) ScriptFault → Result (List Line) ScriptFault
after_front front (Ok lines) = Ok (front ++ lines)
after_front front (Err fault) = Err fault

after_step : (lines : List Line) (said : Option Line) (read : Result (List Line) ScriptFault)
    → after_front (lines ++ option_to_list said) read ≡ after_front lines (onto (Ok said) read)
after_step lines None read = ap (λ l. after_front l read) (append-nil lines)
after_step lines (Some line) (Ok more) = ap Ok (append_assoc lines (line ∷ []) more)
after_step lines (Some line) (Err fault) = refl

-- a line that is read is after those before it, and the rest is read on
pub line_read : (mode : Mode) (number : ℕ) (bytes text rest : List ℕ) (lines new : List Line) (said : Option Line) → lines_of bytes ≡ text ∷ lines_of rest
    → line_from number (line_says mode text) ≡ Ok said → new ≡ lines ++ option_to_list said
    → after_front new (script_from mode (number + 1) (lines_of rest)) ≡ after_front lines (script_from mode number (lines_of bytes))
line_read mode number bytes text rest lines new said cut is added =
    let others = script_from mode (number + 1) (lines_of rest) in
    ap (λ (l : List Line). after_front l others) added ∙ after_step lines said others
    ∙ ap (λ (o : Result (Option Line) ScriptFault). after_front lines (onto o others)) (sym is)
    ∙ ap (λ (texts : List (List ℕ)). after_front lines (script_from mode number texts)) (sym cut)

pub line_refused : (mode : Mode) (number : ℕ) (bytes text rest : List ℕ) (lines : List Line) (fault : ScriptFault) → lines_of bytes ≡ text ∷ lines_of rest
    → line_from number (line_says mode text) ≡ Err fault → after_front lines (script_from mode number (lines_of bytes)) ≡ Err fault
line_refused mode number bytes text rest lines fault cut is =
    let others = script_from mode (number + 1) (lines_of rest) in
    ap (λ (texts : List (List ℕ)). after_front lines (script_from mode number texts)) cut
    ∙ ap (λ (o : Result (Option Line) ScriptFault). after_front lines (onto o others)) is
