-- The numbers of the kinds of faults of a score.
use Rattle.std.specs.Prelude.{ℕ}
use Rattle.osc_score.specs.declared.fault.ScoreFaultKind.{ScoreFaultKind}
use Rattle.osc_score.specs.declared.fault.ScoreFaultKind.TheVariants as kinds

abbrev pub kind_number : ScoreFaultKind → ℕ
kind_number kinds.TooLong = 31
kind_number kinds.Count = 32
kind_number kinds.Tag = 33
kind_number kinds.Order = 34
kind_number kinds.Address = 35
kind_number kinds.Arg = 36
kind_number kinds.Brackets = 37
kind_number kinds.Bundle = 38
kind_number kinds.Clash = 39
kind_number kinds.TreeFull = 40
