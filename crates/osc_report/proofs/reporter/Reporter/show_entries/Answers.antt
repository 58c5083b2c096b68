use Rattle.std.proofs.Common.{arith, ap, subst, sym, Err}
use Rattle.osc_report.specs.declared.reporter.ShowFault.{ShowFault}
use Rattle.osc_report.specs.Reports.{FailsIn}
use Rattle.osc_story.specs.declared.disagreement.SeeFault.{SeeFault}
use Rattle.osc_report.specs.Stretches.{placed}
use Rattle.osc_report.proofs.Showing.{next_shown, fails}
use Rattle.osc_report.proofs.reporter.Reporter.show_entries.Goals as goal

pub returns-in-Err-clause-why : goal.returns-in-Err-clause-why
returns-in-Err-clause-why c =
    subst (λ (f : ShowFault). FailsIn c.args.self.now c.args.moment (placed c.args.entries.now) f c.args.text.now.items c.show_entry.new.text.items
    c.show_entry.new.self) (sym c.fault_at.ensures)
    (fails c.args.self.now c.args.moment c.args.entries.now c.loop-entry.entry-index c.entry-item.result c.args.text.now.items c.loop-entry.text.items
    c.show_entry.new.text.items c.loop-entry.self c.show_entry.new.self c.in-Err.fault (omega arith) c.entry-item.is c.loop-entry.invariant
    c.in-Err.ensures.why (λ one is. c.in-Err.ensures.stays one (ap (λ (f : SeeFault). Err f) is)))

pub loop-entry-preserved : goal.loop-entry-preserved
loop-entry-preserved c =
    next_shown c.args.self.now c.args.moment c.args.entries.now c.loop-entry.entry-index c.entry-item.result c.args.text.now.items c.loop-entry.text.items
    c.show_entry.new.text.items c.loop-entry.self c.show_entry.new.self (omega arith) c.entry-item.is c.loop-entry.invariant c.in_default.ensures.ok
