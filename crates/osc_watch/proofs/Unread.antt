-- A board that was opened.
use Rattle.std.proofs.Common.{◌≡◌, ◌∙◌, ℕ, List, [], length, refl, ap, sym, append-nil}
use Rattle.osc_model.specs.Limits.{Limits, header_size}
use Rattle.osc_model.specs.Events.{Entry}
use Rattle.osc_model.specs.Recordings.{header_text}
use Rattle.osc_watch.specs.declared.board.Board.{Board}
use Rattle.osc_watch.specs.Watching.{noted}
use Rattle.osc_watch.specs.Refreshing.{HasReadPart}

-- where it has read nothing, it has read a beginning of every history
pub nothing_read : (sizes : (limits : Limits) → length (header_text limits) ≡ header_size) (board : Board) → noted board ≡ [] → board.at ≡ header_size
    → (caps : Limits) (history : List Entry) → HasReadPart caps board history
nothing_read sizes board none at caps history = (
  [],
  record { edits = none; place = at ∙ sym (sizes caps) ∙ ap (λ (b : List ℕ). length b) (sym (append-nil (header_text caps))) },
  (history, refl),
)
