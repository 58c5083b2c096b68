-- The last bytes of what is appended piece by piece.
use Rattle.std.proofs.Common.{◌≡◌, ℕ, ◌+◌, ◌-◌, List, ◌++◌, length, drop, sym, ap, ◌∙◌, inl, inr, arith, append_assoc}
use Rattle.std.proofs.lemmas.Bool.{cases_lt}
use Rattle.std.proofs.lemmas.List.{length-append, length-drop, drop-append-le, drop-drop}
use Rattle.circular_buffer.specs.Buffer.{Buffer, buffer, keep_last}

pub keep_last-append : (keep : ℕ) (xs ys : List ℕ) → keep_last keep (keep_last keep xs ++ ys) ≡ keep_last keep (xs ++ ys)
keep_last-append keep xs ys = elim (cases_lt keep (length xs)) [
  | inl long ↦
      let cut : ℕ = length xs - keep in
      let size : length (drop cut xs ++ ys) - keep ≡ length ys = omega (arith, length-append (drop cut xs) ys, length-drop cut xs, long) in
      let whole : length (xs ++ ys) - keep ≡ cut + length ys = omega (arith, length-append xs ys, long) in
      ap (λ (n : ℕ). drop n (drop cut xs ++ ys)) size
      ∙ ap (drop (length ys)) (sym (drop-append-le cut xs ys (omega arith)))
      ∙ drop-drop (length ys) cut (xs ++ ys)
      ∙ ap (λ (n : ℕ). drop n (xs ++ ys)) (sym whole)
  | inr short ↦
      let none : length xs - keep ≡ 0 = omega (arith, short) in
      ap (λ (n : ℕ). keep_last keep (drop n xs ++ ys)) none
]

-- a buffer after some items were appended
abbrev pub appended : Buffer ℕ → List ℕ → Buffer ℕ
appended old more = buffer (keep_last old.capacity (old.items ++ more)) old.capacity

pub appended-appended : (old mid new : Buffer ℕ) (xs ys : List ℕ) → mid ≡ appended old xs → new ≡ appended mid ys → new ≡ appended old (xs ++ ys)
appended-appended old mid new xs ys one two =
    two ∙ ap (λ (b : Buffer ℕ). appended b ys) one
    ∙ ap (λ (l : List ℕ). buffer l old.capacity)
    (keep_last-append old.capacity (old.items ++ xs) ys ∙ ap (keep_last old.capacity) (append_assoc old.items xs ys))
