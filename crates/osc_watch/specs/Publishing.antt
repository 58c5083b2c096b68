-- The rule of the board.
use Rattle.std.specs.Prelude.{◌≡◌, ℕ, List, Option, Some, None}
use mathlib.Core.Option.{some}
use lib.ListN.{get_elem?}
use Rattle.osc_turn.specs.History.{StartsWith}
use Rattle.osc_watch.specs.Listing.{listing}
use Rattle.osc_watch.specs.declared.reached.Reached.{Reached}
use Rattle.osc_watch.specs.declared.sheet.Sheet.{Sheet}

-- the rows are those that stand after the edits
abbrev pub IsListed : Sheet → Type 0
IsListed sheet = sheet.rows.items ≡ listing sheet.reached.seen.log

-- the one reached a beginning of the edits that the other reached, in one list of edits
abbrev pub Begins : Reached → Reached → Type 0
Begins one other = (one.seen.book ≡ other.seen.book) × StartsWith other.seen.log one.seen.log

-- what is known is a beginning of the edits that were reached
abbrev pub Knows : Option Reached → Reached → Type 0
Knows None reached = Unit {0}
Knows (Some one) reached = Begins one reached

-- the rows that are published stand after the edits that are published, and what each reader has
-- seen or was told of is a beginning of these
pub record IsPublished (sheet : Sheet) (views : List (Option Reached)) : Type 0 where
  pub listed : IsListed sheet
  pub known : (seat : ℕ) (view : Option Reached) → get_elem? views seat ≡ some view
      → Knows view sheet.reached

-- all edits that are then published are seen; they begin with what was known before
pub record Sees (before : Option Reached) (old new : Sheet) (after : Option Reached) : Type 0 where
  pub seen : after ≡ Some new.reached
  pub goes_on : Knows before new.reached
  pub listed : IsListed new
