use Rattle.std.proofs.Common.{◌≡◌, ◌++◌, ◌-◌, ◌+◌, ℕ, List, length, ap, ◌∙◌, arith, length-append}
use Rattle.std.proofs.lemmas.List.{take_at}
use Rattle.std.proofs.lemmas.Slice.{take-put_mid}
use borrow.Rule.Slice.PartMut.{post_of}
use Rattle.osc_pool.proofs.links.fill_pair.Goals as goal

pub returns-clause-taken : goal.returns-clause-taken
returns-clause-taken c =
    let head : List ℕ = c.args.head.now in
    let bytes : List ℕ = c.args.bytes.now in
    let front : List ℕ = c.copy_from_slice.new.self in
    let back : List ℕ = c.copy_from_slice-2.new.self in
    let left : List ℕ = post_of 0 4 c.args.block.now in
    let f : front ≡ head = c.copy_from_slice.ensures.after in
    let b : back ≡ bytes = c.copy_from_slice-2.ensures.after in
    let four : length head ≡ 4 = c.told-head in
    take-put_mid 4 (4 + length bytes - 4) (front ++ left) back (length (head ++ bytes)) (omega (arith, length-append head bytes, ap length b, four))
    (omega (arith, length-append front left, ap length f, four))
    ∙ ap (λ (l : List ℕ). l ++ back) (take_at front left 4 (ap length f ∙ four) ∙ f) ∙ ap (λ (l : List ℕ). head ++ l) b
