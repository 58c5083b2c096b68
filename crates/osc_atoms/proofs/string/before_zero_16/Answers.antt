use Rattle.std.proofs.Common.{◌≡◌, ◌<◌, length, take, map, eqb, ap, ◌∙◌, arith, length-take, w8}
use Rattle.std.proofs.lemmas.Simd.{bitmask_splat, trailing_mask_l}
use Rattle.std.specs.Simd.Lanes.{mask_l}
use Rattle.osc_atoms.specs.Reading.{is_zero}
use Rattle.osc_atoms.proofs.string.before_zero_16.Goals as goal

pub returns : goal.returns
returns c =
    let lanes = take 16 c.args.bytes.now in
    let long : length lanes ≡ 16 = omega (arith, length-take 16 c.args.bytes.now) in
    let read = bitmask_splat w8 eqb lanes 16 0 long (omega arith) in
    let some : 0 < mask_l (map is_zero lanes) = omega (arith, read, c.if-zeros-eq0.false) in
    ap (lib.Count.count_trailing_zeros 64) read ∙ trailing_mask_l is_zero 64 lanes (omega arith) some
