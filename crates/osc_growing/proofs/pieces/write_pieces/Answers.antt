use Rattle.std.proofs.Common.{refl, ◌∙◌, arith}
use Rattle.osc_turn.specs.Passes.{view}
use Rattle.osc_live.specs.Seen.{history_of}
use Rattle.osc_growing.specs.Growing.{recorded}
use Rattle.osc_growing.specs.Entries.{texts_of}
use Rattle.osc_growing.proofs.Ends.{end_none}
use Rattle.osc_growing.proofs.Growths.{grown_none}
use Rattle.osc_live.proofs.Looked.{looked_here, looked_on}
use Rattle.osc_growing.proofs.pieces.write_pieces.Goals as goal

pub loop-init : goal.loop-init
loop-init g c = record {
  ours = c.requires.ours;
  number = refl;
  space = c.requires.space;
  looked = looked_here (view c.args.first.pass);
  between = end_none (texts_of c.args.live.now.caps (history_of (view c.args.first.pass)));
  grown = grown_none (g.R.Sink.held c.args.rec.now) (g.R.Sink.faults c.args.rec.now) (recorded c.args.live.now.caps (view c.args.first.pass));
}

pub loop-preserved : goal.loop-preserved
loop-preserved g c = record {
  ours = c.write_new-next.ensures.ours;
  number = c.write_new-next.ensures.number ∙ c.loop.invariant.number;
  space = omega (arith, c.write_new-next.ensures.space, c.loop.invariant.space);
  looked = looked_on (view c.args.first.pass) (view c.loop.first.pass) (view c.write_new-next.result.0.pass) c.loop.invariant.looked c.write_new-next.ensures.looked;
  between = c.write_new-next.ensures.between;
  grown = c.write_new-next.ensures.grown c.args.rec.now c.loop.invariant.grown;
}

pub returns-then-is_done-clause-looked : goal.returns-then-is_done-clause-looked
returns-then-is_done-clause-looked g c =
    looked_on (view c.args.first.pass) (view c.loop.first.pass) (view c.write_new-next.result.0.pass) c.loop.invariant.looked c.write_new-next.ensures.looked

pub returns-then-is_done-clause-grown : goal.returns-then-is_done-clause-grown
returns-then-is_done-clause-grown g c = c.write_new-next.ensures.grown c.args.rec.now c.loop.invariant.grown
