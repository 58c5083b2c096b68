-- What is said and what is left.
use Rattle.std.proofs.Common.{◌≡◌, ℕ, ◌+◌, List, ◌++◌, take, drop, sym, ap, ◌∙◌}
use Rattle.std.proofs.lemmas.List.{take-append-drop, drop-drop}

pub said_front : (xs piece : List ℕ) (at n : ℕ) → piece ≡ take n (drop at xs) → drop at xs ≡ piece ++ drop (at + n) xs
said_front xs piece at n is =
    sym (take-append-drop n (drop at xs)) ∙ ap (λ (l : List ℕ). l ++ drop n (drop at xs)) (sym is)
    ∙ ap (λ (l : List ℕ). piece ++ l) (drop-drop n at xs)

pub ruleset said = (said_front)
