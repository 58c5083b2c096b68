-- The tables of a pattern's parts, filled one place after another.
use Rattle.std.proofs.Common.{◌≡◌, ℕ, ◌+◌, ◌<◌, Bool, true, false, ◌==◌, List, length, take, set, refl, sym, ap, subst, ◌∙◌, arith}
use Rattle.std.proofs.Math.ListN.{get_or}
use Rattle.std.proofs.lemmas.List.{get_or-set_same, get_or-set_other}
use Rattle.std.proofs.lemmas.Bool.Decides.{nat_tests}
use Rattle.osc_pattern.specs.ReadyParts.{StandsFor, IsReady, IsReadOf}
use Rattle.osc_pattern.specs.declared.ready.Part.{Part}
use Rattle.osc_pattern.specs.declared.ready.ReadyPart.{ReadyPart}

-- what stands at each place up to an end is as it should be
abbrev pub Filled : {X : Type 0} → (ℕ → X → Type 0) → List X → ℕ → Type 0
Filled {X} Holds found end = (place : ℕ) (d : X) → place < end → Holds place (get_or found place d)

pub filled-next : {X : Type 0} → (Holds : ℕ → X → Type 0) (found : List X) (end : ℕ) (part : X) → end < length found
    → Holds end part → Filled Holds found end → Filled Holds (set found end part) (end + 1)
filled-next {X} Holds found end part within is so_far place d below = go (place == end) refl where
  go : (t : Bool) → (place == end) ≡ t → Holds place (get_or (set found end part) place d)
  go true e =
      let same : place ≡ end = grind (arith, nat_tests) in
      subst (λ x. Holds place x) (sym (ap (λ k. get_or (set found end part) k d) same ∙ get_or-set_same found end part d within))
      (subst (λ k. Holds k part) (sym same) is)
  go false e =
      let before : place < end = grind (arith, nat_tests) in
      subst (λ x. Holds place x) (sym (get_or-set_other found end place part d (λ same. (let h : (place == end) ≡ true = grind (arith, nat_tests) in cc))))
      (so_far place d before)

-- what was read of a text stands for it
pub stands : (part : Part) (ready : ReadyPart) (text : List ℕ) → part.items.now ≡ take ready.count ready.items → part.rest.now ≡ ready.rest.now
    → IsReadOf ready text → StandsFor part text
stands part ready text items rest read =
    subst (λ is. IsReady is part.rest.now text) (sym items) (subst (λ left. IsReady (take ready.count ready.items) left text) (sym rest) read.stands)
