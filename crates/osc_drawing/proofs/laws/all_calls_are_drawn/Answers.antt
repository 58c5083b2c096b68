use Rattle.std.proofs.Common.{List, ap, ◌∙◌}
use Rattle.std.specs.Prelude.{map}
use Rattle.osc_model.specs.Events.{Invocation}
use Rattle.osc_drawing.specs.Calls.{shown_call}
use Rattle.osc_drawing.specs.Sketches.{begun, moment_ahead, with_all}
use Rattle.osc_drawing.proofs.Heard.{entries_step, finish_same}
use Rattle.osc_drawing.proofs.laws.all_calls_are_drawn.Goals as goal

pub returns : goal.returns
returns c = λ caps history legal.
    finish_same (with_all (begun caps.late) history)
    ∙ entries_step (begun caps.late) (moment_ahead 1 history) history (c.a_legal_history_is_recordable.ensures.all caps history legal)
    ∙ ap (λ (l : List Invocation). map shown_call l) (c.entries_tell_the_calls.ensures caps history legal)
