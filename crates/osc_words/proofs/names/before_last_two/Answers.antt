use Rattle.std.proofs.Common.{◌≡◌, ℕ, ◌-◌, List, map, take, length, string_bytes, sym, ap, ◌∙◌}
use Rattle.std.proofs.lemmas.List.{take-map, length-map}
use Rattle.osc_words.proofs.names.before_last_two.Goals as goal

all_but_two : {X : Type 0} (f : X → List ℕ) (xs : List X) (count : ℕ) → count ≡ length xs - 2
    → map f (take count xs) ≡ take (length (map f xs) - 2) (map f xs)
all_but_two f xs count is =
    sym (take-map f count xs) ∙ ap (λ (n : ℕ). take n (map f xs)) (is ∙ ap (λ (n : ℕ). n - 2) (sym (length-map xs f)))

pub returns : goal.returns
returns c = all_but_two string_bytes c.args.words.now c.saturating_sub.result c.saturating_sub.ensures
