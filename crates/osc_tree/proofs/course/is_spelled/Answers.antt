use Rattle.std.proofs.Common.{sym, ◌∙◌}
use Rattle.osc_tree.proofs.Taken.{spelled_begun, spelled_not}
use Rattle.osc_tree.proofs.course.is_spelled.Goals as goal

pub returns-then-starts_with : goal.returns-then-starts_with
returns-then-starts_with c =
    c.eq.ensures ∙ spelled_begun c.args.address.now c.args.text.now c.args.plain.now (sym c.starts_with.ensures.value ∙ c.if-starts_with.true)

pub returns-else-starts_with : goal.returns-else-starts_with
returns-else-starts_with c =
    c.if-starts_with.false ∙ spelled_not c.args.address.now c.args.text.now c.args.plain.now (sym c.starts_with.ensures.value ∙ c.if-starts_with.false)
