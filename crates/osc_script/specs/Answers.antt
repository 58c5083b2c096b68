-- What the reading calls answer, where memory may be refused.
use Rattle.std.specs.Prelude.{◌≡◌, List, ◌++◌, Option, Result, Ok, Err, option_to_list}
use Rattle.osc_script.specs.declared.line.Line.{Line}
use Rattle.osc_script.specs.declared.fault.ScriptFault.{ScriptFault}
use Rattle.osc_script.specs.declared.fault.ScriptFaultKind.{ScriptFaultKind}
use Rattle.osc_script.specs.declared.fault.ScriptRefusal.{ScriptRefusal}
use Rattle.osc_script.specs.declared.fault.ScriptRefusal.TheVariants.{Fault, NoMemory}
use Rattle.osc_script.specs.declared.fault.LineRefusal.{LineRefusal}
use Rattle.osc_script.specs.declared.fault.LineRefusal.TheVariants.{Kind, NoMemory as NoLineMemory}

-- what is read, or its fault, unless memory is refused
abbrev pub Reads : {X : Type 0} → Result X ScriptRefusal → Result X ScriptFault → Type 0
Reads (Ok lines) read = read ≡ Ok lines
Reads (Err (Fault fault)) read = read ≡ Err fault
Reads (Err NoMemory) read = Unit {0}

-- the same of a line's parts, by the kind of its fault
abbrev pub Says : {X : Type 0} → Result X (LineRefusal ScriptFaultKind) → Result X ScriptFaultKind
    → Type 0
Says (Ok value) said = said ≡ Ok value
Says (Err (Kind kind)) said = said ≡ Err kind
Says (Err NoLineMemory) said = Unit {0}

-- the lines before, and those with what a line says
abbrev pub AddsLine : Result (Unit {0}) ScriptRefusal → Result (Option Line) ScriptFault → List Line
    → List Line → Type 0
AddsLine (Ok done) read old new =
    (said : Option Line) × (read ≡ Ok said) × (new ≡ old ++ option_to_list said)
AddsLine (Err (Fault fault)) read old new = read ≡ Err fault
AddsLine (Err NoMemory) read old new = Unit {0}
