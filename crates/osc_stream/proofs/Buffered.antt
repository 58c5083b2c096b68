-- What a buffer holds.
use Rattle.std.proofs.Common.{◌≡◌, refl, sym, ap, ◌∙◌, ℕ, ◌+◌, ◌-◌, ◌≤◌, List, [], take, drop}
use Rattle.std.proofs.Common.{Option, Some, None, arith}
use Rattle.std.proofs.lemmas.List.{drop-drop, drop-take}
use Rattle.osc_stream.specs.Buffers.{held, buffered}

-- where nothing is held, what the source has left is all
pub buffered_none : (left : Option (List ℕ)) → buffered [] left ≡ left
buffered_none None = refl
buffered_none (Some left) = refl

-- what is given isn't held any more
pub held_given : (start end count : ℕ) (space : List ℕ) → count ≤ end - start
    → held (start + count) end space ≡ drop count (held start end space)
held_given start end count space within =
    let rest = end - (start + count) in
    let sum : end - start ≡ count + rest = omega (arith, within) in
    sym (ap (λ (n : ℕ). drop count (take n (drop start space))) sum
    ∙ drop-take count rest (drop start space)
    ∙ ap (take rest) (drop-drop count start space))
