use Rattle.std.proofs.Common.{arith}
use Rattle.osc_score.proofs.Lengths.{string_few}
use Rattle.osc_score.proofs.Arguments.{text_is}
use Rattle.osc_score.proofs.argument.put_symbol.Goals as goal

pub put_argument-requires-clause-no_zero : goal.put_argument-requires-clause-no_zero
put_argument-requires-clause-no_zero c =
    rw c.deref.ensures.value ((text_is c.args.value.now c.in-Some.bytes.items (rw c.in-Some.is at c.in_ok-bytes.ensures)).no_zero)

pub put_argument-requires-clause-small : goal.put_argument-requires-clause-small
put_argument-requires-clause-small c =
    rw c.deref.ensures.value
    (omega (
      arith,
      string_few c.in-Some.bytes.items,
      (text_is c.args.value.now c.in-Some.bytes.items (rw c.in-Some.is at c.in_ok-bytes.ensures)).short,
      c.requires,
    ))
