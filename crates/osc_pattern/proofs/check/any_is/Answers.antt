use Rattle.std.proofs.Common.{eqb, sym, ◌∙◌, arith, w8}
use Rattle.std.proofs.lemmas.Simd.{bitmask_splat}
use Rattle.osc_pattern.proofs.BarePatterns.{empty_mask, mask_none}
use Rattle.osc_pattern.proofs.check.any_is.Goals as goal

pub returns : goal.returns
returns c = λ none.
    mask_none (λ byte. eqb byte c.args.own) c.args.lanes
    (sym (bitmask_splat w8 eqb c.args.lanes 16 c.args.own c.fits-lanes.0 (omega arith)) ∙ empty_mask _ none)
