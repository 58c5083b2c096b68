use Rattle.std.proofs.Common.{◌≡◌, true, Some, inl, map, string_bytes, refl, ap, ◌∙◌, rules}
use Rattle.osc_words.specs.Commands as said
use Rattle.osc_words.specs.declared.command.LiveCommand.TheVariants as live
use Rattle.osc_ends.proofs.Inputs.{if_so, of_so}
use Rattle.osc_ends.proofs.Said.{of_said}
use Rattle.osc_top.specs.Commands.{live_limits, mode_of}
use Rattle.osc_top.proofs.Edges.{live_edge, live_history, live_listed, live_short, live_still}
use Rattle.osc_top.proofs.LiveEnds.{cut_by, done_steady, in_mode, live_complete, live_enough, refused_in, script_refused}
use Rattle.osc_top.proofs.live.live_top.Goals as goal

-- Where a script was read.

pub returns-in-Ok-clause-ends : goal.returns-in-Ok-clause-ends
returns-in-Ok-clause-ends g c =
    let same : c.read_script.new.out ≡ c.args.out.now = c.in-Ok.ensures.unwritten (inl refl) in
    let said : Some c.in-Ok-Some.command ≡ said.live_command_of (map string_bytes c.args.words.now) = search rules in
    rw (← same)
    (of_said _ _ c.in-Ok-Some.command said
    (λ read. of_so _ _ _ c.play_lines.ensures.ends
    (in_mode _ _ (g.S.Source.left c.args.input.now) c.in-Ok.lines.items c.mode_of.ensures c.in-Ok.ensures.lines)))

pub returns-in-Ok-clause-one_history : goal.returns-in-Ok-clause-one_history
returns-in-Ok-clause-one_history g c =
    let same : c.read_script.new.out ≡ c.args.out.now = c.in-Ok.ensures.unwritten (inl refl) in
    let said : Some c.in-Ok-Some.command ≡ said.live_command_of (map string_bytes c.args.words.now) = search rules in
    let script = in_mode _ _ (g.S.Source.left c.args.input.now) c.in-Ok.lines.items c.mode_of.ensures c.in-Ok.ensures.lines in
    rw (← same)
    (of_said _ _ c.in-Ok-Some.command said
    (live_history _ _ _ _ _ _ _ _ _ _ _ _ _ c.in-Ok-Some.command script.0 (c.play_lines.ensures.ends script.0 script.2)))

pub returns-in-Ok-clause-listed : goal.returns-in-Ok-clause-listed
returns-in-Ok-clause-listed g c = λ caps is written.
    let same : c.read_script.new.out ≡ c.args.out.now = c.in-Ok.ensures.unwritten (inl refl) in
    let said : Some c.in-Ok-Some.command ≡ said.live_command_of (map string_bytes c.args.words.now) = search rules in
    let both : Some c.in-Ok-Some.command ≡ Some (live.Lanes caps true) = said ∙ is in
    let lanes : c.in-Ok-Some.command ≡ live.Lanes caps true = cc in
    let script = in_mode _ _ (g.S.Source.left c.args.input.now) c.in-Ok.lines.items c.mode_of.ensures c.in-Ok.ensures.lines in
    rw (← same)
    (live_listed _ _ _ _ _ _ _ _ _ _ _ _ _ caps c.in-Ok-Some.command lanes script.0 (c.play_lines.ensures.ends script.0 script.2) written)

pub returns-in-Ok-clause-edge : goal.returns-in-Ok-clause-edge
returns-in-Ok-clause-edge g c =
    let same : c.read_script.new.out ≡ c.args.out.now = c.in-Ok.ensures.unwritten (inl refl) in
    let script = in_mode _ _ (g.S.Source.left c.args.input.now) c.in-Ok.lines.items c.mode_of.ensures c.in-Ok.ensures.lines in
    rw (← same)
    (live_edge _ _ _ _ _ _ _ _ _ _ _ _ _ c.in-Ok-Some.command script.0 (c.play_lines.ensures.ends script.0 script.2))

pub returns-in-Ok-clause-still : goal.returns-in-Ok-clause-still
returns-in-Ok-clause-still g c =
    let script = in_mode _ _ (g.S.Source.left c.args.input.now) c.in-Ok.lines.items c.mode_of.ensures c.in-Ok.ensures.lines in
    live_still _ _ _ _ _ _ _ _ _ _ _ _ _ c.in-Ok-Some.command script.0 (c.play_lines.ensures.ends script.0 script.2)
    (λ caps watch lanes. let same = c.play_lines.ensures.alone.lanes_serve_none caps watch lanes in
    (ap (map g.L.Link.faults) same.0, ap g.C.Clock.faults same.1))

pub returns-in-Ok-clause-sink : goal.returns-in-Ok-clause-sink
returns-in-Ok-clause-sink g c =
    let same : c.read_script.new.out ≡ c.args.out.now = c.in-Ok.ensures.unwritten (inl refl) in
    let script = in_mode _ _ (g.S.Source.left c.args.input.now) c.in-Ok.lines.items c.mode_of.ensures c.in-Ok.ensures.lines in
    rw (← same)
    (cut_by _ _ _ _ _ _ _ _ (c.play_lines.ensures.ends script.0 script.2) c.play_lines.ensures.sink)

pub returns-in-Ok-clause-steady : goal.returns-in-Ok-clause-steady
returns-in-Ok-clause-steady g c =
    let same : c.read_script.new.out ≡ c.args.out.now = c.in-Ok.ensures.unwritten (inl refl) in
    let script = in_mode _ _ (g.S.Source.left c.args.input.now) c.in-Ok.lines.items c.mode_of.ensures c.in-Ok.ensures.lines in
    rw (← same)
    (done_steady _ _ _ _ _ _ _ (c.play_lines.ensures.ends script.0 script.2))

pub returns-in-Ok-clause-complete : goal.returns-in-Ok-clause-complete
returns-in-Ok-clause-complete g c =
    let same : c.read_script.new.out ≡ c.args.out.now = c.in-Ok.ensures.unwritten (inl refl) in
    let said : Some c.in-Ok-Some.command ≡ said.live_command_of (map string_bytes c.args.words.now) = search rules in
    rw (← same)
    (of_said _ _ c.in-Ok-Some.command said
    (if_so _ _ _
    (λ script read lawful source out_sound rec_sound. live_complete _ _ _ _ _ _ _ _ _ _ _ _ _ c.in-Ok-Some.command script
    (c.play_lines.ensures.ends script read) lawful out_sound rec_sound)
    (in_mode _ _ (g.S.Source.left c.args.input.now) c.in-Ok.lines.items c.mode_of.ensures c.in-Ok.ensures.lines)))

pub returns-in-Ok-clause-enough : goal.returns-in-Ok-clause-enough
returns-in-Ok-clause-enough g c = λ caps watch is.
    let same : c.read_script.new.out ≡ c.args.out.now = c.in-Ok.ensures.unwritten (inl refl) in
    let said : Some c.in-Ok-Some.command ≡ said.live_command_of (map string_bytes c.args.words.now) = search rules in
    let both : Some c.in-Ok-Some.command ≡ Some (live.Lanes caps watch) = said ∙ is in
    let lanes : c.in-Ok-Some.command ≡ live.Lanes caps watch = cc in
    rw (← same)
    (if_so _ _ _
    (λ script read enough source out_sound rec_sound. live_enough _ _ _ _ _ c.args.bank.items _ _ _ _ _ _ _ caps watch
    (λ lines recording text outcome plays room. c.enough_room_stops_no_lane.ensures (live_limits caps) watch lines c.args.bank.items _ _ recording text outcome
    plays room)
    c.in-Ok-Some.command lanes script (c.play_lines.ensures.ends script read) enough out_sound rec_sound)
    (in_mode _ _ (g.S.Source.left c.args.input.now) c.in-Ok.lines.items c.mode_of.ensures c.in-Ok.ensures.lines))

-- Where none was.

pub returns-in-Err-read_script-clause-ends : goal.returns-in-Err-read_script-clause-ends
returns-in-Err-read_script-clause-ends g c =
    let said : Some c.in-Ok-Some.command ≡ said.live_command_of (map string_bytes c.args.words.now) = search rules in
    of_said _ _ c.in-Ok-Some.command said
    (script_refused (mode_of c.in-Ok-Some.command) _ _ _ _ _ _ c.in-Err-read_script.status c.unplayed-in-Err-read_script.ensures.status
    (refused_in _ _ _ _ _ c.mode_of.ensures c.in-Err-read_script.ensures.refused))

pub returns-in-Err-clause-ends : goal.returns-in-Err-clause-ends
returns-in-Err-clause-ends g c =
    live_short _ _ _ _ _ _ _ _ _ _ _ _ _ _ _ c.unplayed-in-Err.ensures.status
