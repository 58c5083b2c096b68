-- Texts in a row.
use Rattle.std.proofs.Common.{◌≡◌, ◌∙◌, ℕ, List, ◌++◌, Result, Ok, Err, OnOk, ap, append_assoc}

pub three : (old a b c : List ℕ) → old ++ a ++ b ++ c ≡ old ++ (a ++ b ++ c)
three old a b c = simp append_assoc

pub four : (old a b c d : List ℕ) → old ++ a ++ b ++ c ++ d ≡ old ++ (a ++ b ++ c ++ d)
four old a b c d = simp append_assoc

pub five : (old a b c d e : List ℕ) → old ++ a ++ b ++ c ++ d ++ e ≡ old ++ (a ++ b ++ c ++ d ++ e)
five old a b c d e = simp append_assoc

-- the last of three is added, or not
pub three_in : {X E : Type 0} (result : Result X E) (old one two new a b c : List ℕ) → one ≡ old ++ a → two ≡ one ++ b
    → OnOk result (new ≡ two ++ c) → OnOk result (new ≡ old ++ (a ++ b ++ c))
three_in (Err e) old one two new a b c first second third = tt
three_in (Ok x) old one two new a b c first second third =
    third ∙ ap (λ (l : List ℕ). l ++ c) second ∙ ap (λ (l : List ℕ). l ++ b ++ c) first ∙ three old a b c
