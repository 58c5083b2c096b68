use Rattle.osc_model.specs.State.{opening}
use Rattle.osc_model.specs.History.{after}
use Rattle.osc_board.proofs.Standing.{shows}
use Rattle.osc_board.proofs.laws.what_is_seen_is_what_stands.Goals as goal

pub returns : goal.returns
returns c = λ caps history legal. shows caps history (after (opening caps) history) (c.entries_show_the_state.ensures caps history legal)
