use Rattle.std.proofs.Common.{◌≡◌, ◌≤◌, ◌-◌, ◌+◌, Some, length, sym, ap, ◌∙◌, arith}
use Rattle.std.specs.Prelude.{option_map}
use Rattle.std.proofs.lemmas.Bool.Decides.{nat_tests}
use Rattle.osc_pattern.proofs.Openings.{read_part-empty, read_part-here, read_part-past}
use Rattle.osc_pattern.proofs.check.first_open_in.Goals as goal

pub loop-rest-preserved : goal.loop-rest-preserved
loop-rest-preserved c =
    let found = sym c.in-Some.ensures.value in
    let shorter = c.in-Some.ensures.shorter in
    let whole = length c.args.part.now in
    (c.loop-rest.invariant.0 ∙ read_part-past whole c.loop-rest.rest.now _ c.in-Some.after.now found (omega arith) (omega arith), omega arith)

pub returns-in-None-clause-value : goal.returns-in-None-clause-value
returns-in-None-clause-value c =
    let whole = length c.args.part.now in
    let rest = c.loop-rest.rest.now in
    let filled : 1 ≤ length rest = grind (arith, nat_tests) in
    sym (c.loop-rest.invariant.0 ∙ ap (option_map (λ at. (whole - length rest) + at)) (read_part-here rest (sym c.in-None.ensures.value) filled)
    ∙ ap Some (omega arith))

pub returns-clause-value : goal.returns-clause-value
returns-clause-value c =
    let whole = length c.args.part.now in
    let rest = c.loop-rest.rest.now in
    let empty : length rest ≡ 0 = grind (arith, nat_tests) in
    sym (c.loop-rest.invariant.0 ∙ ap (option_map (λ at. (whole - length rest) + at)) (read_part-empty rest empty))
