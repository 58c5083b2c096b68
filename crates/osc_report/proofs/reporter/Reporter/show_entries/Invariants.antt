use Rattle.std.proofs.Common.{take}
use Rattle.osc_report.specs.Stretches.{placed, told}
use Rattle.osc_report.specs.Reports.{ShowsEntries}
use Rattle.osc_report.proofs.reporter.Reporter.show_entries.Given as goal

-- the entries so far are shown
abbrev pub invariant-loop-entry : goal.invariant-loop-entry
invariant-loop-entry l =
    ShowsEntries l.initial.self l.moment (told (placed (take l.entry-index l.entries))) l.initial.text.items l.text.items l.self
