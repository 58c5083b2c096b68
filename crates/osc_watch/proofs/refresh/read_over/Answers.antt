use Rattle.std.proofs.Common.{refl, ap, subst, arith}
use Rattle.std.proofs.lemmas.List.{length-take}
use Rattle.osc_watch.specs.Watching.{noted}
use Rattle.osc_watch.specs.Refreshing.{HasRead}
use Rattle.osc_watch.proofs.Begun.{onward}
use Rattle.osc_watch.proofs.PartsRead.{ends_within, is_less, part_read, small}
use Rattle.osc_watch.proofs.refresh.read_over.Goals as goal

pub note_part-stop-requires-clause-within : goal.note_part-stop-requires-clause-within
note_part-stop-requires-clause-within g c =
    let h = c.requires.read in
    let token = c.read-token.ensures in
    let caps = g.S.Recorded.caps c.args.server.now in
    let within = ends_within caps h.0 (g.S.Recorded.seen c.read-token.result.0) c.args.board.now.at c.read-token.result.1 _ _ (c.sizes.ensures.header caps)
    h.1.place token.recorded token.writes in
    (caps, record { lawful = token.recorded.lawful; header_is = c.requires.text; within = omega (arith, within, length-take c.read-token.result.1 c.read-token.new.into) })

pub part_of-requires : goal.part_of-requires
part_of-requires g c = λ ended place.
    let h = c.requires.read in
    let token = c.read-token.ensures in
    let seen = g.S.Recorded.seen c.read-token.result.0 in
    let caps = g.S.Recorded.caps c.args.server.now in
    let new = c.note_part-stop.new.board in
    let p = part_read c.sizes.ensures.entry caps h.0 seen c.args.board.now.at new.at
    (noted c.args.board.now) (noted new) c.args.chunk.now c.read-token.new.into c.read-token.result.1 c.note_part-stop.result
    h.1.edits h.1.place (onward h.0 (g.S.Recorded.seen c.args.token) seen token.goes_on h.2) token.recorded (small caps seen token.recorded)
    token.writes c.note_part-stop.ensures.part in
    p.settled (is_less _ _ _ ended refl) place

pub returns-clause-read : goal.returns-clause-read
returns-clause-read g c =
    let h = c.requires.read in
    let token = c.read-token.ensures in
    let seen = g.S.Recorded.seen c.read-token.result.0 in
    let caps = g.S.Recorded.caps c.args.server.now in
    let new = c.note_part-stop.new.board in
    let p = part_read c.sizes.ensures.entry caps h.0 seen c.args.board.now.at new.at
    (noted c.args.board.now) (noted new) c.args.chunk.now c.read-token.new.into c.read-token.result.1 c.note_part-stop.result
    h.1.edits h.1.place (onward h.0 (g.S.Recorded.seen c.args.token) seen token.goes_on h.2) token.recorded (small caps seen token.recorded)
    token.writes c.note_part-stop.ensures.part in
    (p.read, record { edits = p.edits; place = p.place }, p.begins)

pub returns-clause-onward : goal.returns-clause-onward
returns-clause-onward g c =
    let h = c.requires.read in
    let token = c.read-token.ensures in
    let seen = g.S.Recorded.seen c.read-token.result.0 in
    let caps = g.S.Recorded.caps c.args.server.now in
    let new = c.note_part-stop.new.board in
    let p = part_read c.sizes.ensures.entry caps h.0 seen c.args.board.now.at new.at
    (noted c.args.board.now) (noted new) c.args.chunk.now c.read-token.new.into c.read-token.result.1 c.note_part-stop.result
    h.1.edits h.1.place (onward h.0 (g.S.Recorded.seen c.args.token) seen token.goes_on h.2) token.recorded (small caps seen token.recorded)
    token.writes c.note_part-stop.ensures.part in
    (p.kept, p.onward)

pub returns-clause-whole : goal.returns-clause-whole
returns-clause-whole g c whole =
    let h = c.requires.read in
    let token = c.read-token.ensures in
    let seen = g.S.Recorded.seen c.read-token.result.0 in
    let caps = g.S.Recorded.caps c.args.server.now in
    let new = c.note_part-stop.new.board in
    let p = part_read c.sizes.ensures.entry caps h.0 seen c.args.board.now.at new.at
    (noted c.args.board.now) (noted new) c.args.chunk.now c.read-token.new.into c.read-token.result.1 c.note_part-stop.result
    h.1.edits h.1.place (onward h.0 (g.S.Recorded.seen c.args.token) seen token.goes_on h.2) token.recorded (small caps seen token.recorded)
    token.writes c.note_part-stop.ensures.part in
    let ends = c.part_of.ensures whole in
    let same = p.whole ends.0 (is_less _ _ _ ends.1 refl) in
    subst (HasRead caps new) same (record { edits = p.edits; place = p.place })
