use Rattle.std.proofs.Common.{length, ap, ◌∙◌, arith}
use Rattle.osc_tree.proofs.depth.count_levels.Goals as goal

pub overflow_cast-result : goal.overflow_cast-result
overflow_cast-result c =
    let few = c.names_of.ensures.lawful.few in
    omega (arith, c.count_names.ensures.count, ap length c.names_of.ensures.parts)

pub returns-clause-count : goal.returns-clause-count
returns-clause-count c = c.count_names.ensures.count ∙ ap length c.names_of.ensures.parts

pub returns-clause-few : goal.returns-clause-few
returns-clause-few c =
    let few = c.names_of.ensures.lawful.few in
    omega (arith, c.count_names.ensures.count, ap length c.names_of.ensures.parts)
