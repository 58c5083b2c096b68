-- A visitor that takes more of its answer.
use Rattle.std.proofs.Common.{◌≡◌, ℕ, ◌+◌, ◌≤◌, List, ◌++◌, length, take, drop, Option, Some, None, refl, sym, ap, subst, ◌∙◌, arith, length-take, length-drop}
use Rattle.std.proofs.Common.{Bool, not}
use Rattle.std.proofs.lemmas.Bool.Decides.{nat_tests}
use Rattle.std.specs.Prelude.{option_map, nat_lt, ◌==◌}
use Rattle.std.proofs.Math.Seq.{take-add}
use Rattle.std.proofs.lemmas.List.{take-append-drop, take-append-le}
use Rattle.osc_hall.specs.Visits.{text_of}

front_of_front : (share count : ℕ) (xs : List ℕ) → count ≤ length (take share xs) → take count (take share xs) ≡ take count xs
front_of_front share count xs within =
    sym (take-append-le count (take share xs) (drop share xs) within) ∙ ap (λ (l : List ℕ). take count l) (take-append-drop share xs)

two_fronts : (told share count : ℕ) (text t : List ℕ) → count ≤ length (take share (drop told text)) → t ≡ take told text
    → t ++ take count (take share (drop told text)) ≡ take (told + count) text
two_fronts told share count text t within is =
    ap (λ (l : List ℕ). l ++ take count (take share (drop told text))) is
    ∙ ap (λ (l : List ℕ). take told text ++ l) (front_of_front share count (drop told text) within)
    ∙ sym (take-add told count text)

pub told_more : (before after : Option (List ℕ)) (told share count : ℕ) (text piece : List ℕ) → piece ≡ take share (drop told text)
    → count ≤ length piece → before ≡ option_map (λ (t : List ℕ). take told text) before
    → after ≡ option_map (λ (t : List ℕ). t ++ take count piece) before
    → after ≡ option_map (λ (t : List ℕ). take (told + count) text) after
told_more None after told share count text piece is within so_far now =
    subst (λ (a : Option (List ℕ)). a ≡ option_map (λ (t : List ℕ). take (told + count) text) a) (sym now) refl
told_more (Some t) after told share count text piece is within so_far now =
    subst (λ (a : Option (List ℕ)). a ≡ option_map (λ (t : List ℕ). take (told + count) text) a) (sym now)
    (ap (λ (l : List ℕ). Some l) (ap (λ (l : List ℕ). t ++ take count l) is
    ∙ two_fronts told share count text t (subst (λ (l : List ℕ). count ≤ length l) is within) (ap text_of so_far)))

pub room_left : (told share count : ℕ) (text piece : List ℕ) → piece ≡ take share (drop told text) → count ≤ length piece
    → told ≤ length text → told + count ≤ length text
room_left told share count text piece is within before =
    omega (arith, within, before, ap length is, length-take share (drop told text), length-drop told text)

-- one goes on while there are more bytes for it
pub goes_while : (rest text new : List ℕ) (told : ℕ) (empty : Bool) → empty ≡ (length rest == 0) → rest ≡ drop told new → new ≡ text
    → not empty ≡ nat_lt told (length text)
goes_while rest text new told empty is rest_is same =
    subst (λ (t : List ℕ). not empty ≡ nat_lt told (length t)) same
    (subst (λ (e : Bool). not e ≡ nat_lt told (length new)) (sym is)
    (subst (λ (l : List ℕ). not (length l == 0) ≡ nat_lt told (length new)) (sym rest_is)
    (subst (λ (n : ℕ). not (n == 0) ≡ nat_lt told (length new)) (sym (length-drop told new)) (grind (arith, nat_tests)))))
