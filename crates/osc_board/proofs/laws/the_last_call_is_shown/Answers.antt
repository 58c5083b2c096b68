use Rattle.std.proofs.Common.{◌∙◌, List, None, refl, ap}
use Rattle.osc_model.specs.Events.{Invocation}
use Rattle.osc_board.specs.Sights.{opened, last_words}
use Rattle.osc_board.proofs.LastWords.{last_on}
use Rattle.osc_board.proofs.laws.the_last_call_is_shown.Goals as goal

pub returns : goal.returns
returns c = λ caps history id legal.
    last_on (opened caps.late) history id None refl
    ∙ ap (λ (calls : List Invocation). last_words id None calls) (c.entries_tell_the_calls.ensures caps history legal)
