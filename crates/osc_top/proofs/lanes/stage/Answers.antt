use Rattle.std.proofs.Common.{ℕ, List, ◌++◌, map, sym, subst, ◌∙◌, arith}
use Rattle.std.specs.List.{flat_map}
use Rattle.std.specs.Option.{option_map}
use Rattle.osc_record.specs.Shown.{room_of}
use Rattle.osc_lanes.specs.Performs.{Part, told_of}
use Rattle.osc_top.specs.Lanes.{PlaysLanes, parts_of}
use Rattle.osc_top.specs.Staged.{IsStaged, PerformsWatched}
use Rattle.osc_top.proofs.Dealt.{parts_whole, few_parts}
use Rattle.osc_top.proofs.Staged.{lanes_staged, none_gone}
use Rattle.osc_top.proofs.lanes.stage.Goals as goal
use Rattle.osc_top.proofs.lanes.stage.Goals.{In_ok-played}

pub play_parts-requires-clause-callers : goal.play_parts-requires-clause-callers
play_parts-requires-clause-callers g c =
    omega (
      arith,
      c.requires.callers,
      few_parts c.args.lines.items c.args.bank.items _ c.in_ok-parts.ensures.parts c.requires.lanes,
    )

pub play_parts-requires-clause-whole : goal.play_parts-requires-clause-whole
play_parts-requires-clause-whole g c _ _ =
    parts_whole c.args.lines.items c.args.bank.items _ c.in_ok-parts.ensures.parts c.requires.enough

-- what was played, of the lines and the bank
performed_so : (g : _) (c : In_ok-played g)
    → PerformsWatched g.M.Method.keep g.M.Method.heard c.args.caps c.args.watch (parts_of c.args.lines.items c.args.bank.items)
    c.in_ok-listed.listed.performed.closed.bytes.items c.in_ok-listed.listed.performed.closed.kept.items
    (map told_of c.in_ok-listed.listed.performed.lanes.items) (option_map room_of c.in_ok-listed.listed.performed.unenrolled)
    c.in_ok-listed.listed.list
performed_so g c =
    let keep = g.M.Method.keep in
    let heard = g.M.Method.heard in
    let listed = c.in_ok-listed.listed in
    let performed = listed.performed in
    let accounts = map told_of performed.lanes.items in
    let unenrolled = option_map room_of performed.unenrolled in
    subst (λ (parts : List (Part g.row.M.Denot)). PerformsWatched keep heard c.args.caps c.args.watch parts performed.closed.bytes.items
    performed.closed.kept.items accounts unenrolled listed.list)
    c.in_ok-parts.ensures.parts c.in_ok-listed.ensures

pub returns : goal.returns
returns g c =
    let keep = g.M.Method.keep in
    let heard = g.M.Method.heard in
    let lines = c.args.lines.items in
    let bank = c.args.bank.items in
    let listed = c.in_ok-listed.listed in
    let performed = listed.performed in
    let played = c.in_ok-played.played in
    let done = c.in_ok-played.ensures in
    let said = c.word.new.self in
    let outcome = played.recorded.outcome in
    subst (λ (l : List ℕ). IsStaged (PlaysLanes keep heard c.args.caps c.args.watch bank played.heard.items played.left.items lines) c.args.caps l said outcome)
    (sym done.bytes)
    (lanes_staged keep heard c.args.caps c.args.watch lines bank performed.closed.bytes.items performed.closed.kept.items
    (map told_of performed.lanes.items) (option_map room_of performed.unenrolled) listed.list played.heard.items
    (performed_so g (goal.at.returns g c).In_ok-played)
    (none_gone performed.closed.kept.items (flat_map (λ account. account.removed) (map told_of performed.lanes.items)) played.heard.items c.new.result.items
    done.each c.new.ensures.items) done.ascending played.left.items _ said outcome done.left c.in_ok-parts.ensures.rest
    (c.in_ok-word.ensures.ok ∙ (λ i. done.faults i ++ c.bytes.ensures i)) done.outcome)
