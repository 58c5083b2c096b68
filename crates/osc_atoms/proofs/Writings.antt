-- Bytes written one after another.
use Rattle.std.proofs.Common.{◌≡◌, ℕ, ◌+◌, ◌≤◌, cond, List, [], ◌∷◌, ◌++◌, length, take, drop, replicate, Result, Ok, Err, sym, ◌∙◌, ap, arith, append_assoc}
use Rattle.std.proofs.Common.{length-append}
use Rattle.std.proofs.lemmas.List.{take_at, drop_at, drop-drop, length-take-le, take-replicate}
use Rattle.std.specs.Prelude.{is_ok, OnOk}
use Rattle.osc_atoms.specs.Atoms.{with_atom}

pub written_on : (bytes : List ℕ) (at : ℕ) (a b : List ℕ) → at + length a + length b ≤ length bytes
    → with_atom (with_atom bytes at a) (at + length a) b ≡ with_atom bytes at (a ++ b)
written_on bytes at a b fits =
    let front : List ℕ = take at bytes ++ a in
    let back : List ℕ = drop (at + length a) bytes in
    let sized : length front ≡ at + length a = length-append (take at bytes) a ∙ ap (λ (n : ℕ). n + length a) (length-take-le at bytes (omega arith)) in
    let whole : with_atom bytes at a ≡ front ++ back = sym (append_assoc (take at bytes) a back) in
    let before : take (at + length a) (with_atom bytes at a) ≡ front = ap (take (at + length a)) whole ∙ take_at front back (at + length a) sized in
    let after : drop (at + length a + length b) (with_atom bytes at a) ≡ drop (at + length (a ++ b)) bytes =
    sym (drop-drop (length b) (at + length a) (with_atom bytes at a))
    ∙ ap (drop (length b)) (ap (drop (at + length a)) whole ∙ drop_at front back (at + length a) sized) ∙ drop-drop (length b) (at + length a) bytes
    ∙ ap (λ (n : ℕ). drop n bytes) (omega (arith, length-append a b)) in
    ap (λ (l : List ℕ). l ++ (b ++ drop (at + length a + length b) (with_atom bytes at a))) before ∙ ap (λ (l : List ℕ). front ++ (b ++ l)) after
    ∙ append_assoc (take at bytes) a (b ++ drop (at + length (a ++ b)) bytes)
    ∙ ap (λ (l : List ℕ). take at bytes ++ l) (sym (append_assoc a b (drop (at + length (a ++ b)) bytes)))

pub both_written : (bytes : List ℕ) (at end : ℕ) (a b one two : List ℕ) → one ≡ with_atom bytes at a → end ≡ at + length a → two ≡ with_atom one end b
    → at + length a + length b ≤ length bytes → two ≡ with_atom bytes at (a ++ b)
both_written bytes at end a b one two first behind second fits =
    second ∙ ap (λ (n : ℕ). with_atom one n b) behind ∙ ap (λ (l : List ℕ). with_atom l (at + length a) b) first ∙ written_on bytes at a b fits

-- the last of some bytes appended, if it was
pub all_appended : {X E : Type 0} (r : Result X E) (old done was now last all : List ℕ) → was ≡ old ++ done → now ≡ cond (is_ok r) (was ++ last) was
    → done ++ last ≡ all → OnOk r (now ≡ old ++ all)
all_appended (Ok x) old done was now last all before after whole =
    after ∙ ap (λ (l : List ℕ). l ++ last) before ∙ append_assoc old done last ∙ ap (λ (l : List ℕ). old ++ l) whole
all_appended (Err e) old done was now last all before after whole = tt

-- the first few of four zero bytes
pub zeros_of : (n : ℕ) → n ≤ 4 → take {A = ℕ} n (0 ∷ 0 ∷ 0 ∷ 0 ∷ []) ≡ replicate n 0
zeros_of n small = take-replicate n 4 0 small
