-- What is kept of the methods that a unit's messages call.
use Rattle.std.proofs.Common.{◌≡◌, ℕ, Bool, true, false, List, [], ◌∷◌, ◌++◌, length, length-append, map, refl, sym, ap, subst, ◌∙◌}
use Rattle.std.proofs.Common.{append_assoc, arith}
use Rattle.std.specs.Prelude.{MatchBool}
use Rattle.std.proofs.Math.Seq.{take-append_seam, drop-append_seam}
use Rattle.std.proofs.lemmas.List.{append-nil}
use Rattle.osc_pattern.specs.Methods.{Method}
use Rattle.osc_model.specs.Calls.{call_by}
use Rattle.osc_model.specs.Step.{calls_of}
use Rattle.osc_core.specs.Found.{AreFound, BeginsFound, CountsFound, first_found, after_found}

pub nothing_found : (methods : List Method) (messages : List (List ℕ)) → AreFound methods messages []
nothing_found methods [] = tt
nothing_found methods (message ∷ messages) = (tt, nothing_found methods messages)

module _ (methods : List Method) (message : List ℕ) (left rest : List (List ℕ)) (is : left ≡ message ∷ rest) where
  one_found : (ids more : List ℕ) → ((index : ℕ) → map (call_by methods index message) ids ≡ calls_of methods index message) → AreFound methods rest more
      → AreFound methods left ((length ids ∷ ids) ++ more)
  one_found ids more calls found =
      subst (λ (l : List (List ℕ)). AreFound methods l ((length ids ∷ ids) ++ more)) (sym is) (
        (omega (arith, length-append ids more), λ index. ap (map (call_by methods index message)) (take-append_seam ids more) ∙ calls index),
        subst (AreFound methods rest) (sym (drop-append_seam ids more)) found,
      )

  -- what is kept of a message that is found
  pub kept_on : (all : List (List ℕ)) (ids old new : List ℕ) (open' on : Bool)
      → ((index : ℕ) → map (call_by methods index message) ids ≡ calls_of methods index message) → AreFound methods all old
      → (open' ≡ true → (more : List ℕ) → AreFound methods left more → AreFound methods all (old ++ more))
      → MatchBool on ((open' ≡ true) × (new ≡ old ++ length ids ∷ ids)) (new ≡ old)
      → AreFound methods all new × (on ≡ true → (more : List ℕ) → AreFound methods rest more → AreFound methods all (new ++ more))
  kept_on all ids old new open' true calls found before kept =
      let further : (more : List ℕ) → AreFound methods rest more → AreFound methods all (new ++ more) =
      λ more behind.
      subst (AreFound methods all) (sym (append_assoc old (length ids ∷ ids) more) ∙ ap (λ (l : List ℕ). l ++ more) (sym kept.1))
      (before kept.0 ((length ids ∷ ids) ++ more) (one_found ids more calls behind)) in
      (subst (AreFound methods all) (append-nil new) (further [] (nothing_found methods rest)), λ _. further)
  kept_on all ids old new open' false calls found before kept = (subst (AreFound methods all) (sym kept) found, λ e. absurd (cc))

  pub first_and_rest : (kept : List ℕ) → AreFound methods left kept → BeginsFound methods message kept × AreFound methods rest (after_found kept)
  first_and_rest kept found = subst (λ (l : List (List ℕ)). AreFound methods l kept) is found

-- where something is kept it counts the ids of the message that is first, and they are those of its calls
pub counts_first : (methods : List Method) (message kept : List ℕ) → BeginsFound methods message kept → (length kept ≡ 0 → ⊥) → CountsFound kept
counts_first methods message [] begins some = absurd (some refl)
counts_first methods message (count ∷ kept) begins some = begins.0

pub calls_first : (methods : List Method) (message kept : List ℕ) (index : ℕ) → BeginsFound methods message kept → (length kept ≡ 0 → ⊥)
    → map (call_by methods index message) (first_found kept) ≡ calls_of methods index message
calls_first methods message [] index begins some = absurd (some refl)
calls_first methods message (count ∷ kept) index begins some = begins.1 index

-- where nothing is kept nothing is left
pub none_after : (kept : List ℕ) → length kept ≡ 0 → kept ≡ after_found kept
none_after [] none = refl
none_after (count ∷ kept) none = absurd (omega arith)
