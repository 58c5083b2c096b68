use Rattle.std.proofs.Common.{◌++◌, ◌∙◌, List, [], ℕ, ap, subst}
use Rattle.osc_runs.specs.Gathering.{Gathered}
use Rattle.osc_report.specs.Endings.{IsEnd}
use Rattle.osc_report.specs.Reports.{Reporting}
use Rattle.osc_report.specs.Runs.{AddsRows}
use Rattle.osc_report.proofs.Appended.{on_added}
use Rattle.osc_report.proofs.reporter.Reporter.end.Goals as goal

pub returns-clause-ok : goal.returns-clause-ok
returns-clause-ok c =
    let told = c.in_ok-told.told.items in
    let mid = c.in_ok-told.span in
    let lines = c.in_ok-lines.lines.items in
    on_added c.extend_from_slice-2.result c.extend_from_slice-2.new.self.items (c.args.text.now.items ++ c.deref-2.result.now) c.args.text.now.items
    (λ is. record {
      told = told;
      mid = mid;
      text = lines;
      rows = subst (λ (r : Reporting). AddsRows r.options r.progress.span r.progress.run.rows [] told mid) c.self.view_is
          (subst (λ (rows : List Gathered). AddsRows c.self.inside.options c.self.inside.span rows [] told mid) c.rows.ensures c.in_ok-told.ensures);
      end = subst (λ (r : Reporting). IsEnd r.options r.standing mid lines) c.self.view_is c.in_ok-lines.ensures;
      whole = is ∙ ap (λ (l : List ℕ). c.args.text.now.items ++ l)
          (c.deref-2.ensures.value ∙ c.in_ok-extend_from_slice.ensures.items ∙ ap (λ (l : List ℕ). told ++ l) c.deref.ensures.value);
    })
    c.extend_from_slice-2.ensures.items
