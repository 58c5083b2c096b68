use Rattle.std.proofs.Common.{◌%◌, ◌^◌, ltb, map, replicate, sym, ap, ◌∙◌, arith, w8}
use Rattle.std.proofs.lemmas.Simd.{tops_compared, zip2_splat_left, mask_l-mod}
use Rattle.std.proofs.lemmas.List.{length-map}
use Rattle.std.specs.Simd.Lanes.{mask_l}
use Rattle.osc_pattern.proofs.BarePatterns.{empty_mask, mask_none}
use Rattle.osc_pattern.proofs.check.any_above.Goals as goal

pub returns : goal.returns
returns c = λ none.
    let lanes = c.args.lanes in
    let tops = tops_compared w8 ltb (replicate 16 126) lanes ∙ zip2_splat_left ltb 126 16 lanes c.fits-lanes.0 in
    mask_none (ltb 126) lanes
    (sym (ap (λ ms. mask_l ms % 2 ^ 64) tops ∙ mask_l-mod (map (ltb 126) lanes) 64 (omega (arith, length-map lanes (ltb 126), c.fits-lanes.0)))
    ∙ empty_mask _ none)
