use Rattle.std.proofs.Common.{List, map, length, ap, sym, subst, arith, ◌∙◌}
use Rattle.std.specs.Option.{option_map}
use Rattle.osc_model.specs.Limits.{Limits}
use Rattle.osc_record.specs.Shown.{room_of}
use Rattle.osc_core.specs.Standing.{history_in}
use Rattle.osc_turn.specs.declared.view.Entry.{Entry as Seen}
use Rattle.osc_turn.specs.History.{texts}
use Rattle.osc_live.specs.Seen.{past_of, history_of}
use Rattle.osc_live.proofs.Looked.{looked_here}
use Rattle.osc_lanes.specs.Performs.{part_of, told_of}
use Rattle.osc_lanes.proofs.Performing.{fresh_performs}
use Rattle.osc_display.specs.Displays.{Displays, Lists}
use Rattle.osc_display.proofs.Looking.{looks_stay}
use Rattle.osc_display.proofs.run.display_lanes.Goals as goal

pub perform_beside-both-requires-clause-room : goal.perform_beside-both-requires-clause-room
perform_beside-both-requires-clause-room g c =
    omega (arith, c.requires.callers, ap length c.in_ok-life.ensures.alone, ap (λ (caps : Limits). caps.callers) c.in_ok-life.ensures.caps)

pub perform_beside-both-requires-clause-begun : goal.perform_beside-both-requires-clause-begun
perform_beside-both-requires-clause-begun g c κs within v starts = (looked_here v, c.in_ok-display.ensures c.in_ok-life.life.live.caps (history_of v))

pub perform_beside-both-requires-clause-stays : goal.perform_beside-both-requires-clause-stays
perform_beside-both-requires-clause-stays g c κs within after end tokens v w is = looks_stay v w is.0

pub returns : goal.returns
returns g c =
    let keep = g.M.Method.keep in
    let heard = g.M.Method.heard in
    let done = c.in_ok-performed.performed in
    let live = c.in_ok-life.life.live in
    let parts = map part_of c.args.parts.items in
    let accounts = map told_of done.lanes.items in
    let unenrolled = option_map room_of done.unenrolled in
    let methods = c.in_ok-methods.methods in
    let beside = c.in_ok-performed.ensures in
    let both =
    fresh_performs keep heard live.caps (past_of live.turn) parts done.closed.bytes.items done.closed.kept.items accounts unenrolled
    c.in_ok-life.ensures.past beside.performs in
    let same = beside.whole ∙ sym both.1 in
    let lists : Lists (history_in (texts both.0.history)) methods =
    subst (λ (l : List Seen). Lists (history_in (texts l)) methods) same (rw c.in_ok-methods.was at beside.ended.1) in
    subst (λ (caps : Limits). Displays keep heard caps parts done.closed.bytes.items done.closed.kept.items accounts unenrolled methods)
    c.in_ok-life.ensures.caps (record { performs = both.0; lists = lists })
