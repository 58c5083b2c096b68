use Rattle.std.proofs.Common.{refl}
use Rattle.osc_ends.specs.Sinks.{change}
use Rattle.osc_growing.proofs.Growths.{Follows, piece_grown, piece_failed}
use Rattle.osc_growing.proofs.pieces.write_piece.Goals as goal

pub returns-in-0-clause-grown : goal.returns-in-0-clause-grown
returns-in-0-clause-grown g c = λ start text within is grown.
    let one = change g.R.Sink start c.args.rec.now in
    let other = change g.R.Sink c.args.rec.now c.write_text.new.out in
    let follows : Follows one other = record { held = refl; faults = refl } in
    piece_grown one other text c.args.piece.now c.args.from follows within is grown (c.write_text.ensures.done c.in-0.is)

pub returns-in-5-clause-grown : goal.returns-in-5-clause-grown
returns-in-5-clause-grown g c = λ start text within is grown.
    let one = change g.R.Sink start c.args.rec.now in
    let other = change g.R.Sink c.args.rec.now c.write_text.new.out in
    let follows : Follows one other = record { held = refl; faults = refl } in
    piece_failed one other text c.args.piece.now c.args.from follows is grown (c.write_text.ensures.cut_short c.in-5.is)
