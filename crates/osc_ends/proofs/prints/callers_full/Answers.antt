use Rattle.std.proofs.Common.{List, ℕ, ◌++◌, ap, ◌∙◌}
use Rattle.osc_ends.specs.Printing.{callers_full_text}
use Rattle.osc_ends.proofs.LastLines.{line_text}
use Rattle.osc_ends.proofs.prints.callers_full.Goals as goal

pub returns-in-Ok : goal.returns-in-Ok
returns-in-Ok g c =
    line_text _ _ _ _ _ (c.bytes.ensures ∙ c.in-Ok.ensures ∙ ap (λ (l : List ℕ). l ++ callers_full_text c.args.need c.args.have) c.open-text.ensures)
    c.last_line.ensures
