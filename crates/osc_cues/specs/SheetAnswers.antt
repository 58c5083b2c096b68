-- What the reading of a sheet answers, where memory may be refused.
use Rattle.std.specs.Prelude.{◌≡◌, Result, Ok, Err}
use Rattle.osc_cues.specs.Plans.{Plan}
use Rattle.osc_cues.specs.declared.wrong_line.SheetError.{SheetError}
use Rattle.osc_cues.specs.declared.wrong_line.SheetError.TheVariants.{NoMemory, TooLong, Lines}

-- the sheet, or why the sheet isn't read, unless memory is refused
abbrev pub Reads : Result Plan SheetError → Result Plan SheetError → Type 0
Reads (Ok plan) read = read ≡ Ok plan
Reads (Err NoMemory) read = Unit {0}
Reads (Err TooLong) read = read ≡ Err TooLong
Reads (Err (Lines lines)) read = read ≡ Err (Lines lines)
