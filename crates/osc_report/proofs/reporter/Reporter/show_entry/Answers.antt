use Rattle.std.proofs.Common.{ap, subst}
use Rattle.osc_record.specs.Left.{placed_of}
use Rattle.osc_story.specs.Standings.{Follows}
use Rattle.osc_report.specs.Reports.{Reporting}
use Rattle.osc_report.proofs.Showing.{entry_shown}
use Rattle.osc_report.proofs.reporter.Reporter.show_entry.Goals as goal

pub returns-in-Ok-tell-clause-ok : goal.returns-in-Ok-tell-clause-ok
returns-in-Ok-tell-clause-ok c =
    entry_shown c.args.self.now _ c.tell.new.self c.args.moment (placed_of c.args.entry.now).entry c.in-Ok.news c.args.text.now.items
    c.tell.new.text.items c.in-Ok.ensures
    (subst (λ (r : Reporting). Follows r.standing (placed_of c.args.entry.now).entry c.see.new.self) c.self.view_is c.in_ok-see.ensures.ok)
    (ap (λ (r : Reporting). r.options) c.self.view_is) (ap (λ (r : Reporting). r.progress) c.self.view_is) c.in-Ok-tell.ensures
