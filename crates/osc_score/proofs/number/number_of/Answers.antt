use Rattle.std.proofs.Common.{rules}
use Rattle.osc_score.proofs.Numbers.{over_more, over_next}
use Rattle.osc_score.proofs.number.number_of.Goals as goal

pub returns-then-number-most : goal.returns-then-number-most
returns-then-number-most c =
    over_next c.args.digits.now c.loop-byte.byte-index c.loop-byte.number c.args.most c.loop-byte.invariant.so_far c.loop-byte-test.true c.if-number-most.true

pub returns-then-number-most-2 : goal.returns-then-number-most-2
returns-then-number-most-2 c =
    over_more c.args.digits.now c.loop-byte.byte-index c.loop-byte.number _ c.args.most c.loop-byte.invariant.so_far c.loop-byte-test.true
    (search rules) c.if-number-most-2.true
