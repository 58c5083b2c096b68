use Rattle.std.proofs.Common.{ltb, sym, ◌∙◌, arith, w8}
use Rattle.std.proofs.lemmas.Simd.{bitmask_splat}
use Rattle.osc_pattern.proofs.BarePatterns.{empty_mask, mask_none}
use Rattle.osc_pattern.proofs.check.any_below.Goals as goal

pub returns : goal.returns
returns c = λ none.
    mask_none (λ byte. ltb byte 32) c.args.lanes
    (sym (bitmask_splat w8 ltb c.args.lanes 16 32 c.fits-lanes.0 (omega arith)) ∙ empty_mask _ none)
