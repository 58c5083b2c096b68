-- A server whose tokens are all at hand.
use Rattle.std.specs.Prelude.{◌≡◌, ◌+◌, length, All}
use Rattle.osc_method.specs.declared.method.Method.{Ghosts}
use Rattle.osc_turn.specs.Passes.{view}
use Rattle.osc_live.specs.Seen.{past_of}
use Rattle.osc_live.specs.Tokens.{IsOurs}
use Rattle.osc_life.specs.declared.life.Life.{Life}
use Rattle.osc_life.specs.Crews.{HasCallers, AreOld}

-- Caller 0's token is there, and those of the other callers, who have no entries of their own.
pub record IsWhole {M : Type 0} {G : Ghosts M} (life : Life M G) : Type 0 where
  pub ours : IsOurs life.live life.first
  pub others_ours : All (IsOurs life.live) life.others.items
  pub number : life.first.number ≡ 0
  pub counted : HasCallers (1 + length life.others.items) (view life.first.pass)
  pub old : AreOld (past_of life.live.turn) life.others.items
