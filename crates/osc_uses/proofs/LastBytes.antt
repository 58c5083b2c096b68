-- The last four bytes of a call are those of its message.
use Rattle.std.proofs.Common.{◌≡◌, ℕ, ◌+◌, ◌-◌, ◌≤◌, List, ◌++◌, length, drop, refl, sym, ap, ◌∙◌, arith, append_assoc}
use Rattle.std.proofs.lemmas.List.{length-append, drop-drop, drop_at}
use Rattle.osc_method.specs.Heard.{last_of}

-- so many bytes of a whole are those of its back, where that has as many
last_of_back : (n : ℕ) (front back : List ℕ) → n ≤ length back → last_of n (front ++ back) ≡ last_of n back
last_of_back n front back enough =
    let cut : ℕ = length back - n in
    let size : length (front ++ back) - n ≡ length front + cut = omega (arith, length-append front back) in
    ap (λ (k : ℕ). drop k (front ++ back)) size
    ∙ sym (drop-drop cut (length front) (front ++ back))
    ∙ ap (λ (l : List ℕ). drop cut l) (drop_at front back (length front) refl)

pub last_of_call : (old unit index size message : List ℕ) → 4 ≤ length message → last_of 4 (old ++ (unit ++ (index ++ (size ++ message)))) ≡ last_of 4 message
last_of_call old unit index size message enough =
    ap (last_of 4) (sym (append_assoc old unit (index ++ (size ++ message)))
    ∙ sym (append_assoc (old ++ unit) index (size ++ message))
    ∙ sym (append_assoc ((old ++ unit) ++ index) size message))
    ∙ last_of_back 4 (((old ++ unit) ++ index) ++ size) message enough
