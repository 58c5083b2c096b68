use Rattle.std.proofs.Common.{rules, arith, sym, subst, ◌<◌, ◌≤◌, length}
use Rattle.osc_stream.specs.Frames.{wanted}
use Rattle.osc_stream.specs.Links.{HasRead}
use Rattle.osc_stream.proofs.ReadLaws.{read_bytes, told_bytes}
use Rattle.osc_stream.proofs.source_frame.read_piece.Goals as goal

pub returns-in-Bytes-clause-read : goal.returns-in-Bytes-clause-read
returns-in-Bytes-clause-read g c =
    let count = c.in-Bytes.count in
    let into = c.read.new.into in
    let before = g.S.Source.left c.args.source.now in
    let after = g.S.Source.left c.read.new.self in
    let some : 0 < count = search rules in
    let fits : length into ≤ wanted c.args.stream.now.held = omega (arith, c.read.auto.into, c.requires.space) in
    subst (λ f. HasRead f c.args.stream.now c.take.new.self before after) (sym c.found_by.ensures)
    (read_bytes c.take.result.1 c.take.result.0 count c.args.stream.now c.take.new.self before after into c.requires.short some
    c.in-Bytes.ensures.within fits c.take.ensures.within c.in-Bytes.ensures.bytes c.take.ensures.fed)

pub returns-in-Bytes-clause-told : goal.returns-in-Bytes-clause-told
returns-in-Bytes-clause-told g c =
    told_bytes c.take.result.1 c.take.result.0 c.in-Bytes.count c.args.stream.now c.take.new.self (g.S.Source.left c.args.source.now)
    (g.S.Source.left c.read.new.self) c.read.new.into c.in-Bytes.ensures.within c.take.ensures.within c.in-Bytes.ensures.bytes c.take.ensures.fed
    c.requires.told
