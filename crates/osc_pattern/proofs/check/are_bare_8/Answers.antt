use Rattle.std.proofs.Common.{◌≡◌, ◌-◌, ◌++◌, List, ℕ, length, take, false, sym, subst, ◌∙◌, arith, length-append, length-take}
use Rattle.std.specs.List.{list_any, range_with_len}
use Rattle.std.proofs.lemmas.Bool.{or_parts}
use Rattle.std.proofs.lemmas.List.Folds.{list_any-append}
use Rattle.std.proofs.lemmas.Simd.{pick_l_whole, length-chunk}
use Rattle.std.specs.Simd.Lanes.{chunk, pick_l}
use Rattle.osc_pattern.specs.Bare.{is_odd}
use Rattle.osc_pattern.proofs.BarePatterns.{none_around, last_chunk}
use Rattle.osc_pattern.proofs.check.are_bare_8.Goals as goal

pub returns : goal.returns
returns c = λ all.
    let bytes : List ℕ = c.args.bytes.now in
    let first : List ℕ = take 8 bytes in
    let last : List ℕ = chunk (length bytes - 8) 8 bytes in
    let e : list_any is_odd (pick_l 0 (first ++ last) (range_with_len 0 16)) ≡ false = c.are_even.ensures all in
    let long : length (first ++ last) ≡ 16
    = omega (arith, length-append first last, length-take 8 bytes, length-chunk (length bytes - 8) 8 bytes (omega (arith, c.requires.some))) in
    let whole : list_any is_odd (first ++ last) ≡ false = subst (λ (l : List ℕ). list_any is_odd l ≡ false) (pick_l_whole 0 (first ++ last) 16 long) e in
    let parts = or_parts (list_any is_odd first) (list_any is_odd last) (sym (list_any-append is_odd first last) ∙ whole) in
    none_around is_odd 8 (length bytes - 8) bytes (omega (arith, c.requires.few)) parts.0
    (subst (λ (l : List ℕ). list_any is_odd l ≡ false) (last_chunk 8 bytes c.requires.some) parts.1)
