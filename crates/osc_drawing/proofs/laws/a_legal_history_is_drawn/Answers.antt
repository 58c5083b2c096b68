use Rattle.osc_story.specs.Standings.{opened}
use Rattle.osc_drawing.specs.Sketches.{told}
use Rattle.osc_drawing.proofs.Agreeing.{none_disagrees}
use Rattle.osc_drawing.proofs.laws.a_legal_history_is_drawn.Goals as goal

pub returns : goal.returns
returns c = λ caps entries legal.
    none_disagrees (opened caps.late) entries (c.a_legal_history_agrees.ensures caps (told entries) legal)
