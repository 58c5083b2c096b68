use Rattle.std.proofs.Common.{refl}
use Rattle.osc_model.specs.State.{opening}
use Rattle.osc_story.specs.Standings.{opened}
use Rattle.osc_story.proofs.Showing.{history_shown}
use Rattle.osc_story.proofs.laws.entries_show_the_state.Goals as goal

pub returns : goal.returns
returns c = λ caps history legal.
    history_shown (opening caps) (opened caps.late) history legal.1 (record { late = refl; clock = refl; methods = refl; queue = refl })
