use Rattle.std.proofs.Common.{List, ℕ, ◌++◌, ap, ◌∙◌}
use Rattle.osc_ends.specs.Printing.{bank_short_text}
use Rattle.osc_ends.proofs.LastLines.{line_text}
use Rattle.osc_ends.proofs.prints.bank_short.Goals as goal

pub returns-in-Ok : goal.returns-in-Ok
returns-in-Ok g c =
    line_text _ _ _ _ _ (c.bytes.ensures ∙ c.in-Ok.ensures ∙ ap (λ (l : List ℕ). l ++ bank_short_text c.args.need c.args.have) c.open-text.ensures)
    c.last_line.ensures
