use Rattle.std.proofs.Common.{arith}
use Rattle.osc_record.proofs.Compared.{four_same}
use Rattle.osc_record.proofs.entry_messages.same_four.Goals as goal

pub returns : goal.returns
returns c =
    four_same c.args.bytes.now c.args.front.now c.args.at c.four_at.result c.four_at-2.result (λ i. omega (arith, c.type_inv.bytes i))
    (λ i. omega (arith, c.type_inv.front i)) c.requires.bytes c.requires.front c.four_at.ensures c.four_at-2.ensures
