use Rattle.std.proofs.Common.{map, length, ap, subst, arith}
use Rattle.std.specs.Option.{option_map}
use Rattle.osc_model.specs.Limits.{Limits}
use Rattle.osc_record.specs.Shown.{room_of}
use Rattle.osc_live.specs.Seen.{past_of}
use Rattle.osc_life.proofs.Learning.{learns_stays}
use Rattle.osc_lanes.specs.Performs.{part_of, told_of}
use Rattle.osc_lanes.specs.Later.{Performs}
use Rattle.osc_lanes.proofs.Performing.{fresh_performs}
use Rattle.osc_lanes.proofs.run.run_lanes.Goals as goal

pub perform_beside-requires-clause-room : goal.perform_beside-requires-clause-room
perform_beside-requires-clause-room g c =
    omega (arith, c.requires.callers, ap length c.in_ok-life.ensures.alone, ap (λ (caps : Limits). caps.callers) c.in_ok-life.ensures.caps)

pub returns : goal.returns
returns g c =
    let keep = g.M.Method.keep in
    let heard = g.M.Method.heard in
    let done = c.in_ok-performed.performed in
    let live = c.in_ok-life.life.live in
    let parts = map part_of c.args.parts.items in
    let accounts = map told_of done.lanes.items in
    let unenrolled = option_map room_of done.unenrolled in
    subst (λ (caps : Limits). Performs keep heard caps parts done.closed.bytes.items done.closed.kept.items accounts unenrolled)
    c.in_ok-life.ensures.caps
    (fresh_performs keep heard live.caps (past_of live.turn) parts done.closed.bytes.items done.closed.kept.items accounts unenrolled
    c.in_ok-life.ensures.past c.in_ok-performed.ensures.performs).0

pub perform_beside-requires-clause-stays : goal.perform_beside-requires-clause-stays
perform_beside-requires-clause-stays g c κs within after end tokens v w learns = learns_stays v w learns
