use Rattle.std.proofs.Common.{◌||◌, sym, ap, subst, ◌∙◌, arith}
use Rattle.osc_pattern.specs.Items.{stands_for}
use Rattle.osc_pattern.proofs.Sets.{GoesOn, first_range-goes_on}
use Rattle.osc_pattern.proofs.item.stands_for.Goals as goal

pub loop-first-preserved : goal.loop-first-preserved
loop-first-preserved g c =
    let list = c.loop-first.rest.now in
    let step = subst (GoesOn list c.args.byte) (sym c.in-Some.ensures) (first_range-goes_on list c.args.byte) in
    let missed = sym c.is_between.ensures ∙ c.if-is_between.false in
    let shorter = step.1 in (
      sym (ap (λ found. found || stands_for c.in-Some.after.now c.args.byte) missed) ∙ sym step.0 ∙ c.loop-first.invariant.0,
      omega arith,
      omega arith,
    )
