use Rattle.std.proofs.Common.{Some, Option, ap, ◌∙◌}
use Rattle.osc_c.specs.declared.state.State.{State}
use Rattle.osc_c.specs.Held.{left, played, done_by, released_in}
use Rattle.osc_c.proofs.events.osc_server_release_by.Goals as goal

pub returns-clause-unread : goal.returns-clause-unread
returns-clause-unread c =
    ap left c.put.ensures ∙ c.release_as-answer.ensures.unread
    ∙ ap (λ (s : State). done_by (played (Some s)) c.args.caller (released_in (played (Some s))) (left (Some s))) c.deref_mut.ensures.value
    ∙ ap (λ (h : Option State). done_by (played h) c.args.caller (released_in (played h)) (left h)) c.in-Some.ensures.taken
