use Rattle.std.proofs.Common.{Err, arith}
use Rattle.osc_cues.proofs.Sizes.{few_read, few_ok}
use Rattle.osc_cues.proofs.cut.value_of.Goals as goal

pub overflow_cast-result : goal.overflow_cast-result
overflow_cast-result c =
    let is = few_ok c.args.digits.now c.in-Ok.number c.in-Ok.ensures c.requires.digits c.requires.few in omega (arith, is.1)

pub unreachable-requires : goal.unreachable-requires
unreachable-requires c = few_read c.args.digits.now (Err c.in-Err.field-0) c.in-Err.ensures c.requires.digits c.requires.few

pub returns-clause-small : goal.returns-clause-small
returns-clause-small c = (few_ok c.args.digits.now c.in-Ok.number c.in-Ok.ensures c.requires.digits c.requires.few).1
