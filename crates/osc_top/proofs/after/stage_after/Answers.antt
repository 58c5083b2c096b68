use Rattle.std.proofs.Common.{ℕ, List, map, sym, ap, subst, ◌∙◌, arith}
use Rattle.std.specs.Option.{option_map}
use Rattle.osc_model.specs.Limits.{Limits}
use Rattle.osc_record.specs.Shown.{room_of}
use Rattle.osc_live.specs.Seen.{past_of}
use Rattle.osc_lanes.specs.Performs.{Part, told_of}
use Rattle.osc_lanes.specs.Later.{PerformsLater}
use Rattle.osc_top.specs.Lanes.{parts_of}
use Rattle.osc_top.specs.Resumed.{PlaysResumed}
use Rattle.osc_top.specs.Staged.{IsStaged}
use Rattle.osc_top.proofs.Continued.{parts_counted, resumed_boxes, resumed_callers, resumed_legal, resumed_staged}
use Rattle.osc_top.proofs.Dealt.{parts_whole}
use Rattle.osc_top.proofs.after.stage_after.Goals as goal

pub resume_lanes-requires-clause-legal : goal.resume_lanes-requires-clause-legal
resume_lanes-requires-clause-legal g c _ _ =
    let can = c.requires.enough in
    let is = c.in-Ok.ensures.resumes can.0 can.1 (record { legal = can.2.recording_of.legal; text = can.2.recording_of.text }) in
    resumed_legal g.M.Method.keep g.M.Method.heard can.0 can.1 c.args.room c.args.bank.items c.in-Ok.resumed.live.caps
    (past_of c.in-Ok.resumed.live.turn) c.in-Ok.resumed.callers.items c.in-Ok.resumed.removed.items c.in-Ok.resumed.left.items is

pub resume_lanes-requires-clause-room : goal.resume_lanes-requires-clause-room
resume_lanes-requires-clause-room g c =
    let can = c.requires.enough in
    let is = c.in-Ok.ensures.resumes can.0 can.1 (record { legal = can.2.recording_of.legal; text = can.2.recording_of.text }) in
    omega (
      arith,
      can.2.enough.1,
      resumed_callers g.M.Method.keep g.M.Method.heard can.0 can.1 c.args.room c.args.bank.items c.in-Ok.resumed.live.caps
          (past_of c.in-Ok.resumed.live.turn) c.in-Ok.resumed.callers.items c.in-Ok.resumed.removed.items c.in-Ok.resumed.left.items is,
      parts_counted c.args.lines.items c.in-Ok.resumed.left.items c.in_ok-parts.parts.items c.in_ok-parts.ensures.parts,
      ap (λ (l : Limits). l.callers) is.limits_are,
    )

pub resume_lanes-requires-clause-whole : goal.resume_lanes-requires-clause-whole
resume_lanes-requires-clause-whole g c _ _ =
    let can = c.requires.enough in
    let is = c.in-Ok.ensures.resumes can.0 can.1 (record { legal = can.2.recording_of.legal; text = can.2.recording_of.text }) in
    parts_whole c.args.lines.items c.in-Ok.resumed.left.items _ c.in_ok-parts.ensures.parts
    (resumed_boxes g.M.Method.keep g.M.Method.heard can.0 can.1 c.args.room c.args.bank.items c.in-Ok.resumed.live.caps
    (past_of c.in-Ok.resumed.live.turn) c.in-Ok.resumed.callers.items c.in-Ok.resumed.removed.items c.in-Ok.resumed.left.items is
    c.args.lines.items can.2.enough.0)

pub returns : goal.returns
returns g c caps before can =
    let keep = g.M.Method.keep in
    let heard = g.M.Method.heard in
    let lines = c.args.lines.items in
    let bank = c.args.bank.items in
    let resumed = c.in-Ok.resumed in
    let limits = resumed.live.caps in
    let past = past_of resumed.live.turn in
    let is = c.in-Ok.ensures.resumes caps before (record { legal = can.recording_of.legal; text = can.recording_of.text }) in
    let hears = c.in-Ok.ensures.heard caps before (record { legal = can.recording_of.legal; text = can.recording_of.text }) in
    let performed = c.in_ok-performed.performed in
    let accounts = map told_of performed.lanes.items in
    let unenrolled = option_map room_of performed.unenrolled in
    let performs = subst (λ (parts : List (Part g.row.M.Denot)). PerformsLater keep heard limits past parts performed.closed.bytes.items
    performed.closed.kept.items accounts unenrolled) (c.in_ok-parts.ensures.parts ∙ ap (parts_of lines) is.rest) c.in_ok-performed.ensures in
    let played = c.in_ok-played.played in
    let done = c.in_ok-played.ensures in
    let said = played.recorded.faults in
    let outcome = played.recorded.outcome in
    subst (λ (l : Limits). IsStaged (PlaysResumed keep heard l before bank played.heard.items played.left.items lines) l played.recorded.bytes.items said
    outcome)
    is.limits_are
    (subst (λ (l : List ℕ). IsStaged (PlaysResumed keep heard limits before bank played.heard.items played.left.items lines) limits l said outcome)
    (sym done.bytes)
    (resumed_staged keep heard caps before c.args.room bank limits past resumed.callers.items resumed.removed.items resumed.left.items is lines
    performed.closed.bytes.items performed.closed.kept.items played.heard.items accounts unenrolled performs done.each done.ascending
    c.a_method_is_called_while_it_is_registered.ensures.removed hears played.left.items _ said outcome done.left c.in_ok-parts.ensures.rest done.faults
    done.outcome))
