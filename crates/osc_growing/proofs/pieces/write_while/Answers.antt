use Rattle.osc_turn.specs.Passes.{view}
use Rattle.osc_live.specs.Seen.{history_of}
use Rattle.osc_growing.proofs.Ends.{ends_between}
use Rattle.osc_growing.proofs.pieces.write_while.Goals as goal

pub returns-clause-between : goal.returns-clause-between
returns-clause-between g c =
    ends_between c.write_pieces.result.1 c.args.live.now.caps (history_of (view c.write_pieces.result.0.pass)) c.write_pieces.ensures.between
