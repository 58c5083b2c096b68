use Rattle.std.proofs.Common.{length, ap, sym, ◌∙◌}
use Rattle.std.proofs.lemmas.Bool.{eqb-true, eq-eqb}
use Rattle.osc_watch.proofs.Begun.{agree}
use Rattle.osc_watch.proofs.board.Board.agrees.Goals as goal

pub returns-clause-same : goal.returns-clause-same
returns-clause-same c equal =
    let one = c.args.self.now.reached in
    let other = c.args.watcher.now.told.reached in
    agree one other c.compare.ensures.0 c.compare.ensures.1 (eqb-true one.edits other.edits equal)

pub returns-clause-exact : goal.returns-clause-exact
returns-clause-exact c same =
    let one = c.args.self.now.reached in
    let other = c.args.watcher.now.told.reached in
    eq-eqb one.edits other.edits (one.counted ∙ (ap length (sym same) ∙ sym other.counted))
