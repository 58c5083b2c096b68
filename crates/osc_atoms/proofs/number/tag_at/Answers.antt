use Rattle.std.proofs.Common.{refl, arith}
use Rattle.std.proofs.lemmas.List.{places}
use Rattle.osc_atoms.proofs.Numbers.{tag_stands}
use Rattle.osc_atoms.proofs.number.tag_at.Goals as goal

pub returns-clause-ok : goal.returns-clause-ok
returns-clause-ok c = (tag_stands c.args.bytes.now c.args.at _ (λ i. omega (arith, c.type_inv.bytes i)) (omega arith) (grind (arith, places)), refl)
