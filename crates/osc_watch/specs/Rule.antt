-- The rule of the one list of edits, and what the step tells that adds one.
use Rattle.std.specs.Prelude.{◌≡◌, ℕ, ◌==◌, true, List, [], ◌∷◌, ◌++◌, length, MatchBool}
use Rattle.logbook.specs.Pages.{Cell, Step, View, Book, Named}
use Rattle.osc_watch.specs.declared.row.Edit.{Edit}

-- the first word is the number of edits
pub record IsCounted (cells : List Cell) (log : List Edit) : Type 0 where
  pub words : cells ≡ (length log, true) ∷ (0, true) ∷ []

-- the first word of a book
abbrev pub head_of : Book → Named
head_of book = record { tracked = true; key = 0; book = book }

-- where the word was found as expected, the edit was added to all that had been reached
abbrev pub Adds : Step Edit → View Edit ℕ → ℕ → View Edit ℕ → Type 0
Adds step before found after =
    MatchBool (found == step.old) (after.0 ≡ before.0 ++ step.ask ∷ []) (Unit {0})
