use Rattle.std.proofs.Common.{◌≡◌, subst, ap, ◌∙◌}
use Rattle.std.specs.Prelude.{OnOk}
use Rattle.osc_model.specs.Recordings.{hits_in}
use Rattle.osc_record.specs.Shown.{answer_of}
use Rattle.osc_drawing.specs.Gatherings.{Gathered}
use Rattle.osc_drawing.proofs.Releasing.{performed}
use Rattle.osc_drawing.proofs.gathering.Gathering.release.Goals as goal

pub returns : goal.returns
returns c =
    subst (λ (g : Gathered). OnOk c.perform.result (c.perform.new.self ≡ g))
    (performed c.args.story.now c.args.moment c.in-Released.unit (answer_of c.args.answer) (hits_in c.in-Released.hits.now) c.deref.result.now
    c.first_messages.result.now c.args.self.now (ap answer_of c.in-Released.is)
    (c.deref.ensures.value ∙ c.in_ok-calls.ensures ∙ c.calls.ensures) c.first_messages.ensures) c.perform.ensures
