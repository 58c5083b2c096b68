-- What was told before, and then of what was played.
use Rattle.std.specs.Prelude.{◌≡◌, ℕ, List, Option}
use Rattle.osc_method.specs.Heard.{Fixed}
use Rattle.osc_turn.specs.declared.view.Entry.{Entry as Seen}
use Rattle.osc_script.specs.declared.act.Act.{Act}
use Rattle.osc_script.specs.declared.line.Line.{Line}
use Rattle.osc_life.specs.Holders.{Holder}
use Rattle.osc_lanes.specs.Shares.{Account, then_told, PlaysAct, Plays}

module _ {M : Type 0} where
  -- An act was played between two places of the history: what is told then is what was told before,
  -- and what is told of the act.
  pub record TellsAct (keep : M → Fixed) (heard : M → Option (List ℕ)) (holder : Holder)
      (number : ℕ)
      (act : Act) (boxes left : List M) (before now : Account M)
      (here there : List Seen) : Type 0 where
    pub first : Account M
    pub plays : PlaysAct keep heard holder number act boxes left first here there
    pub told_is : now ≡ then_told before first

  -- The lines were played between two places of the history: what is told then is what was told
  -- before, and what is told of the lines.
  pub record TellsLines (keep : M → Fixed) (heard : M → Option (List ℕ)) (holder : Holder)
      (lines : List Line) (boxes : List M) (before now : Account M)
      (here there : List Seen) : Type 0 where
    pub account : Account M
    pub plays : Plays keep heard holder lines boxes account here there
    pub told_is : now ≡ then_told before account
