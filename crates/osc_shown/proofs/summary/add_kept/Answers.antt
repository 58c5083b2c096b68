use Rattle.std.proofs.Common.{◌++◌, ℕ, List, ap, ◌∙◌}
use Rattle.std.specs.Prelude.{codes, if◌then◌else◌}
use Rattle.std.proofs.lemmas.Result.{on_ok_weaker}
use Rattle.osc_shown.specs.Summaries.{entries_text}
use Rattle.osc_shown.proofs.Joining.{three_parts}
use Rattle.osc_shown.proofs.summary.add_kept.Goals as goal

pub returns : goal.returns
returns c =
    on_ok_weaker c.add-2.result
    (λ e. three_parts c.args.out.now.items c.add_entries.new.out.items c.add.new.out.items c.add-2.new.out.items (entries_text c.args.entries)
    (codes "; late bundles are ") (if c.args.discards then codes "discarded" else codes "performed") c.in_ok-add_entries.ensures c.in_ok-add.ensures
    (e ∙ ap (λ (l : List ℕ). c.add.new.out.items ++ l) c.fate.ensures))
    c.add-2.ensures
