use Rattle.std.proofs.Common.{ap, ◌∙◌}
use Rattle.osc_c.specs.Held.{left}
use Rattle.osc_c.specs.Reading.{left_of}
use Rattle.osc_c.proofs.methods.osc_server_add_by.Goals as goal

pub returns-clause-unread : goal.returns-clause-unread
returns-clause-unread c =
    ap left c.put.ensures ∙ c.add_as-answer.ensures.unread ∙ ap left_of c.deref_mut.ensures.value ∙ ap left c.in-Some.ensures.taken
