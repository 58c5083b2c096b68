-- The lines of a unit's messages, one after another.
use Rattle.std.proofs.Common.{◌≡◌, ℕ, ◌+◌, ◌==◌, List, ◌∷◌, length, subst}
use Rattle.osc_report.specs.declared.front.Front.{Front}
use Rattle.osc_report.specs.declared.options.Options.{Options}
use Rattle.osc_shown.specs.Lines.{join_of}
use Rattle.osc_report.specs.Units.{Tell, AddsToldLine, AddsToldLines}

-- whatever the messages that are left add, all add
abbrev pub GoesOn : Options → Front → Tell → List (List ℕ) → List ℕ → ℕ → List (List ℕ) → List ℕ → Type 0
GoesOn options front tell all begun index messages text =
    (after : List ℕ) → AddsToldLines options front tell index messages text after → AddsToldLines options front tell 0 all begun after

-- one more message
pub one_told : (options : Options) (front : Front) (tell : Tell) (all : List (List ℕ)) (begun : List ℕ) (index next join : ℕ) (message : List ℕ)
    (before others : List (List ℕ)) (text mid : List ℕ) → before ≡ message ∷ others → next ≡ index + 1
    → join ≡ join_of (index == 0) (length others == 0) → AddsToldLine options front tell index join message text mid
    → GoesOn options front tell all begun index before text → GoesOn options front tell all begun next others mid
one_told options front tell all begun index next join message before others text mid is next_is join_is adds goes after then =
    subst (λ (l : List (List ℕ)). GoesOn options front tell all begun index l text) is goes after (
      mid,
      subst (λ (n : ℕ). AddsToldLine options front tell index n message text mid) join_is adds,
      subst (λ (n : ℕ). AddsToldLines options front tell n others mid after) next_is then,
    )
