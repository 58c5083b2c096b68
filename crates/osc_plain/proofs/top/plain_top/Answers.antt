use Rattle.osc_plain.proofs.Tops.{any_said, enough_done, memory_short}
use Rattle.std.proofs.Common.{Some, ap, sym, ◌∙◌}
use Rattle.osc_plain.proofs.top.plain_top.Goals as goal

pub returns-in-Err-clause-command : goal.returns-in-Err-clause-command
returns-in-Err-clause-command g c =
    any_said _ _
    (λ command. memory_short _ _ _ _ _ _ _ _ c.args.bank.items c.unplayed-in-Err.result.heard.items c.unplayed-in-Err.result.left.items
    c.unplayed-in-Err.result.status command c.unplayed-in-Err.ensures.status c.unplayed-in-Err.ensures.heard c.unplayed-in-Err.ensures.left)

pub returns-in-Ok-Some-Read-clause-enough : goal.returns-in-Ok-Some-Read-clause-enough
returns-in-Ok-Some-Read-clause-enough g c = λ output caps is.
    let some_is = c.in-Ok-Some-Read.field-0-is ∙ ap Some c.in-Ok-Some-Read.field-0-0-is in
    enough_done c.enough_room_never_stops.ensures output caps _ _ _ c.follow.result.status c.in-Ok-Some-Read.reading _ _
    (sym some_is ∙ c.in-Ok-Some-Read.ensures.said) is c.follow.ensures.end.complete c.follow.ensures.end.sink
