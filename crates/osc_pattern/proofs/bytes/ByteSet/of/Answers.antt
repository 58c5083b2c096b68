use Rattle.std.proofs.Common.{◌||◌, sym, ap, subst, ◌∙◌, arith}
use Rattle.osc_pattern.specs.Items.{stands_for}
use Rattle.osc_pattern.specs.ReadyParts.{is_one_of}
use Rattle.osc_pattern.proofs.Sets.{GoesOn, first_range-goes_on}
use Rattle.osc_pattern.proofs.Below.{one_range}
use Rattle.osc_pattern.proofs.bytes.ByteSet.of.Goals as goal

pub loop-first-preserved : goal.loop-first-preserved
loop-first-preserved g c =
    let list = c.loop-first.rest.now in
    let after = c.in-Some.after.now in
    let old = is_one_of c.loop-first.bytes in
    let shorter = (subst (GoesOn list 0) (sym c.in-Some.ensures) (first_range-goes_on list 0)).1 in
    let so_far = c.loop-first.invariant in (
      λ byte.
          ap (λ t. t || stands_for after byte) (c.add_range.ensures byte)
          ∙ one_range _ (old byte) (stands_for after byte)
          ∙ sym (ap (λ t. old byte || t) (subst (GoesOn list byte) (sym c.in-Some.ensures) (first_range-goes_on list byte)).0)
          ∙ so_far.0 byte,
      omega arith,
      omega arith,
    )

pub loop-first-smaller : goal.loop-first-smaller
loop-first-smaller g c =
    let shorter = (subst (GoesOn c.loop-first.rest.now 0) (sym c.in-Some.ensures) (first_range-goes_on c.loop-first.rest.now 0)).1 in
    omega arith
