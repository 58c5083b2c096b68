-- What a unit that waits is shown as.
use Rattle.std.proofs.Common.{◌≡◌, ℕ, Bool, List, ◌∷◌, ◌++◌, length, refl, sym, ap, subst, ◌∙◌, append_assoc}
use Rattle.osc_shown.specs.Added.{AddsText, AddsUnitText}
use Rattle.osc_shown.specs.Lines.{more_text}

-- its first message, and how many more there are
pub first_text : (whole : Bool) (messages rest : List (List ℕ)) (message before mid after : List ℕ) (more : ℕ) → messages ≡ message ∷ rest
    → more ≡ length rest → AddsText whole message before mid → after ≡ mid ++ more_text more → AddsUnitText whole messages before after
first_text whole messages rest message before mid after more is more_is adds then =
    subst (λ (l : List (List ℕ)). AddsUnitText whole l before after) (sym is) (
      adds.0 ++ more_text (length rest),
      (adds.0, adds.1, refl),
      then ∙ ap (λ (l : List ℕ). l ++ more_text more) adds.2 ∙ append_assoc before adds.0 (more_text more)
          ∙ ap (λ (n : ℕ). before ++ (adds.0 ++ more_text n)) more_is,
    )
