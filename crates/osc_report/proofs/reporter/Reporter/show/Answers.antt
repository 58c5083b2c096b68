use Rattle.std.proofs.Common.{◌≡◌, List, rules, ap, subst, ◌∙◌}
use Rattle.osc_record.specs.declared.event.Entry.{Entry as Read}
use Rattle.osc_report.specs.Reports.{ShowsEntries, FailsIn}
use Rattle.osc_report.specs.Stretches.{placed, told, clock_after}
use Rattle.osc_report.proofs.Showing.{shows_stretch, fails_for}
use Rattle.osc_report.proofs.reporter.Reporter.show.Goals as goal

pub returns-in-Ok-show_entries-clause-ok : goal.returns-in-Ok-show_entries-clause-ok
returns-in-Ok-show_entries-clause-ok c =
    let stretch = c.in-Ok.stretch in
    let entries = told (placed stretch.entries.items) in
    let clock : c.clock.result ≡ c.args.self.now.standing.clock = search rules in
    shows_stretch c.args.self.now c.args.unread.now c.read_stretch.new.unread c.in-Ok.shown entries stretch.clock c.args.text.now.items
    c.show_entries.new.text.items c.show_entries.new.self c.in-Ok.ensures.0 (c.in-Ok.ensures.1 ∙ ap (λ n. clock_after n entries) clock)
    (subst (λ (l : List Read). ShowsEntries c.args.self.now stretch.clock (told (placed l)) c.args.text.now.items c.show_entries.new.text.items
    c.show_entries.new.self) c.deref.ensures.value c.in-Ok-show_entries.ensures.ok)

pub returns-clause-why : goal.returns-clause-why
returns-clause-why c =
    let stretch = c.in-Ok.stretch in
    let entries = placed stretch.entries.items in
    let clock : c.clock.result ≡ c.args.self.now.standing.clock = search rules in
    fails_for c.args.self.now c.args.unread.now c.read_stretch.new.unread c.in-Ok.shown entries stretch.clock c.in-Err.fault c.args.text.now.items
    c.show_entries.new.text.items c.show_entries.new.self c.in-Ok.ensures.0 (c.in-Ok.ensures.1 ∙ ap (λ n. clock_after n (told entries)) clock)
    (subst (λ (l : List Read). FailsIn c.args.self.now stretch.clock (placed l) c.in-Err.fault c.args.text.now.items c.show_entries.new.text.items
    c.show_entries.new.self) c.deref.ensures.value c.in-Err.ensures.why)
