-- Inside the crate: what is told of a unit's messages.
use Rattle.osc_report.specs.declared.told.Told.{Told}
use Rattle.osc_report.specs.declared.told.Told.TheVariants.{Called, Queued}
use Rattle.osc_report.specs.Units.{Tell, calls, waits}

-- what is told
abbrev pub told_in : Told → Tell
told_in (Called made late) = calls made.now late
told_in (Queued due is_due) = waits due is_due
