use Rattle.std.proofs.Common.{◌≡◌, ◌++◌, ℕ, List, OnOk, subst, ◌∙◌}
use Rattle.std.specs.Prelude.{codes}
use Rattle.osc_report.specs.Notes.{unnamed_note}
use Rattle.osc_report.proofs.note.add_clock_back.Goals as goal

pub returns : goal.returns
returns c =
    subst (λ (l : List ℕ). OnOk c.add_unnamed.result (c.add_unnamed.new.out.items
    ≡ c.args.out.now.items ++ unnamed_note c.args.options.now c.args.front 33 l (codes "it stays where it was")))
    (c.deref.ensures.value ∙ c.in_ok-words.ensures) c.add_unnamed.ensures
