-- The numbers of the kinds of faults of a script.
use Rattle.std.specs.Prelude.{ℕ}
use Rattle.osc_script.specs.declared.fault.ScriptFaultKind.{ScriptFaultKind}
use Rattle.osc_script.specs.declared.fault.ScriptFaultKind.TheVariants as kinds

abbrev pub kind_number : ScriptFaultKind → ℕ
kind_number kinds.TooLong = 1
kind_number kinds.Word = 2
kind_number kinds.Count = 3
kind_number kinds.Address = 4
kind_number kinds.Hex = 5
kind_number kinds.Tag = 6
kind_number kinds.Lane = 7
kind_number kinds.NotHere = 8
