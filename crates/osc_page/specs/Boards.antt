-- What a page shows of a show at one moment.
use Rattle.std.specs.Prelude.{ℕ, List}
use Rattle.osc_page.specs.declared.board.Row.{Row}
use Rattle.osc_page.specs.declared.board.Wait.{Wait}
use Rattle.osc_page.specs.declared.board.Counts.{Counts}

-- the clock, the counts, the methods, and units that wait, the next one first
pub record Shown : Type 0 where
  pub clock : ℕ
  pub counts : Counts
  pub methods : List Row
  pub waits : List Wait
