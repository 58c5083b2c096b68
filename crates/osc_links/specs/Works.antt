-- A link as a work of a server's life, and the ticker as what goes on meanwhile.
use Rattle.std.specs.Prelude.{ℕ, List, Option}
use Rattle.osc_method.specs.Heard.{Fixed}
use Rattle.osc_turn.specs.declared.view.Entry.{Entry as Seen}
use Rattle.osc_turn.specs.declared.view.View.{View}
use Rattle.osc_life.specs.Holders.{Holder}
use Rattle.osc_links.specs.declared.link_work.LinkEnd.{LinkEnd}
use Rattle.osc_links.specs.declared.link_work.LinkWork.{LinkWork}
use Rattle.osc_links.specs.declared.served.TickerEnd.{TickerEnd}
use Rattle.osc_links.specs.Links.{LinkTurn, ServesLink}
use Rattle.osc_links.specs.Rounds.{HasEnded}
use Rattle.osc_links.specs.Ticks.{clock_read}

module _ {M : Type 0} (keep : M → Fixed) (heard : M → Option (List ℕ)) where
  -- what a link plays as a work
  abbrev pub link_plays : {L : Type 0} → (L → Option (List LinkTurn)) → (L → ℕ) → LinkWork L
      → LinkEnd L → Holder → List Seen → List Seen → Type 0
  link_plays left faults work end holder here there =
      ServesLink keep heard left faults holder work.bounds work.from end here there

  -- how a ticker ends
  abbrev pub clock_ends : {C : Type 0} → (C → Option (List ℕ)) → (C → ℕ) → C → C → TickerEnd
      → Holder → List (List Seen) → View → View → Type 0
  clock_ends left faults before after end holder tokens v w =
      HasEnded keep heard holder tokens (clock_read left faults before after) end v.seen w.seen
