-- How many words follow `add`.
use Rattle.std.proofs.Common.{◌≡◌, ℕ, List, [], ◌∷◌, ◌∙◌, length, map, codes, Err, refl, sym, ap, subst, Bor}
use Rattle.std.proofs.lemmas.List.{length-map}
use Rattle.osc_patch.specs.declared.fault.Fault.TheVariants.{WordCount}
use Rattle.osc_patch.specs.declared.entry.Entry.{Entry}
use Rattle.osc_patch.specs.declared.entry.LineError.{LineError}
use Rattle.osc_patch.specs.declared.entry.LineError.TheVariants.{Wrong, NoMemory}
use Rattle.osc_patch.specs.Answers.{Says}
use Rattle.osc_patch.specs.Entries.{operands_say, wrong_line, IsWrong}

pub miscounted : (line : ℕ) (words : List (List ℕ)) → ¬ (length words ≡ 1) → ¬ (length words ≡ 3)
    → operands_say line words ≡ Err (wrong_line line WordCount (codes "add"))
miscounted line [] one three = refl
miscounted line (a ∷ []) one three = absurd (one refl)
miscounted line (a ∷ b ∷ []) one three = refl
miscounted line (a ∷ b ∷ c ∷ []) one three = absurd (three refl)
miscounted line (a ∷ b ∷ c ∷ d ∷ more) one three = refl

-- the same of borrowed words, and of what is told of them
pub wrong_told : (line : ℕ) (words : List (Bor (List ℕ))) (told : LineError) → ¬ (length words ≡ 1) → ¬ (length words ≡ 3)
    → IsWrong told line WordCount (codes "add") → Says {X = Entry} (Err told) (operands_say line (map (λ word. word.now) words))
wrong_told line words told one three is =
    let same = length-map words (λ (word : Bor (List ℕ)). word.now) in
    let said = miscounted line (map (λ word. word.now) words) (λ e. one (sym same ∙ e)) (λ e. three (sym same ∙ e)) in
    subst (Says {X = Entry} (Err told)) (sym said) (told_so told is)
  where
    told_so : (told : LineError) → IsWrong told line WordCount (codes "add") → Says {X = Entry} (Err told) (Err (wrong_line line WordCount (codes "add")))
    told_so (Wrong wrong) is = ap Err (sym is)
    told_so NoMemory is = tt
