-- How what was made apart joins a text.
use Rattle.std.proofs.Common.{◌≡◌, ℕ, List, ◌++◌, Result, Ok, Err, ap, ◌∙◌, append_assoc}
use Rattle.std.specs.Prelude.{OnOk, is_ok, if◌then◌else◌}

-- it stands at the end, where there was memory
pub joins : {T E : Type 0} (result : Result T E) (before made copied after : List ℕ) → copied ≡ made
    → after ≡ (if is_ok result then before ++ copied else before) → OnOk result (after ≡ before ++ made)
joins (Ok _) before made copied after same is = is ∙ ap (λ (l : List ℕ). before ++ l) same
joins (Err _) before made copied after same is = tt

-- three parts that were added one after another
pub three_parts : (before mid late after one two three : List ℕ) → mid ≡ before ++ one → late ≡ mid ++ two → after ≡ late ++ three
    → after ≡ before ++ (one ++ two ++ three)
three_parts before mid late after one two three is next last =
    last ∙ ap (λ (l : List ℕ). l ++ three) (next ∙ ap (λ (l : List ℕ). l ++ two) is ∙ append_assoc before one two)
    ∙ append_assoc before (one ++ two) three
