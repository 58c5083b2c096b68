use Rattle.std.proofs.Common.{◌≡◌, ◌-◌, ◌++◌, List, ℕ, length, take, false, sym, ap, subst, ◌∙◌, arith, length-append, length-take}
use Rattle.std.specs.List.{list_any, range_with_len}
use Rattle.std.proofs.lemmas.Bool.{or_parts}
use Rattle.std.proofs.lemmas.List.Folds.{list_any-append}
use Rattle.std.proofs.lemmas.Simd.{pick_l_whole, length-chunk}
use Rattle.std.specs.Simd.Lanes.{chunk, pick_l}
use Rattle.osc_pattern.specs.Bare.{is_odd}
use Rattle.osc_pattern.proofs.BarePatterns.{none_around, last_chunk}
use Rattle.osc_pattern.proofs.check.are_bare_4.Goals as goal

pub returns : goal.returns
returns c = λ all.
    let bytes : List ℕ = c.args.bytes.now in
    let first : List ℕ = take 4 bytes in
    let last : List ℕ = chunk (length bytes - 4) 4 bytes in
    let both : List ℕ = pick_l 0 (first ++ last) (range_with_len 0 8) in
    let e : list_any is_odd (pick_l 0 (both ++ both) (range_with_len 0 16)) ≡ false = c.are_even.ensures all in
    let long : length (first ++ last) ≡ 8
    = omega (arith, length-append first last, length-take 4 bytes, length-chunk (length bytes - 4) 4 bytes (omega (arith, c.requires.some))) in
    let same : both ≡ first ++ last = pick_l_whole 0 (first ++ last) 8 long in
    let twice : length (both ++ both) ≡ 16 = omega (arith, length-append both both, ap length same) in
    let whole : list_any is_odd (both ++ both) ≡ false = subst (λ (l : List ℕ). list_any is_odd l ≡ false) (pick_l_whole 0 (both ++ both) 16 twice) e in
    let one = (or_parts (list_any is_odd both) (list_any is_odd both) (sym (list_any-append is_odd both both) ∙ whole)).0 in
    let parts = or_parts (list_any is_odd first) (list_any is_odd last)
    (sym (list_any-append is_odd first last) ∙ subst (λ (l : List ℕ). list_any is_odd l ≡ false) same one) in
    none_around is_odd 4 (length bytes - 4) bytes (omega (arith, c.requires.few)) parts.0
    (subst (λ (l : List ℕ). list_any is_odd l ≡ false) (last_chunk 4 bytes c.requires.some) parts.1)
