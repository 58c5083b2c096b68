-- What the recordings before this one have shown.
use Rattle.std.specs.Prelude.{ℕ, List, [], find, Option, bytes_eq}
use Rattle.osc_page.specs.declared.board.Row.{Row}
use Rattle.osc_story.specs.declared.totals.Totals.{Totals}
use Rattle.osc_story.specs.Totals.{none}

-- the methods with their last calls at the end of the one before, and how much all of them told
pub record Past : Type 0 where
  pub rows : List Row
  pub totals : Totals

-- there was none
abbrev pub no_past : Past
no_past = record { rows = []; totals = none }

-- the row of the method at an address, if there was one
abbrev pub row_at : List Row → List ℕ → Option Row
row_at rows address = find (λ row. bytes_eq row.address address) rows
