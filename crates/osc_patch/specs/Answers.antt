-- What the reading calls answer, where memory may be refused.
use Rattle.std.specs.Prelude.{◌≡◌, Result, Ok, Err}
use Rattle.osc_patch.specs.declared.fault.WrongLine.{WrongLine}
use Rattle.osc_patch.specs.declared.fault.PatchError.{PatchError}
use Rattle.osc_patch.specs.declared.fault.PatchError.TheVariants.{TooLong, NoMethod, Lines}
use Rattle.osc_patch.specs.declared.fault.PatchError.TheVariants.{NoMemory}
use Rattle.osc_patch.specs.declared.entry.LineError.{LineError}
use Rattle.osc_patch.specs.declared.entry.LineError.TheVariants.{Wrong, NoMemory as NoLineMemory}

-- what is read, or why it isn't, unless memory is refused
abbrev pub Reads : {X : Type 0} → Result X PatchError → Result X PatchError → Type 0
Reads (Ok value) read = read ≡ Ok value
Reads (Err NoMemory) read = Unit {0}
Reads (Err TooLong) read = read ≡ Err TooLong
Reads (Err NoMethod) read = read ≡ Err NoMethod
Reads (Err (Lines lines)) read = read ≡ Err (Lines lines)

-- the same of a line's parts, by what is wrong
abbrev pub Says : {X : Type 0} → Result X LineError → Result X WrongLine → Type 0
Says (Ok value) said = said ≡ Ok value
Says (Err (Wrong wrong)) said = said ≡ Err wrong
Says (Err NoLineMemory) said = Unit {0}
