use Rattle.osc_live.proofs.Marks.{added_tells}
use Rattle.osc_live.proofs.methods.AddAskAdding.ask.Goals as goal

pub returns-clause-tells : goal.returns-clause-tells
returns-clause-tells g c before after one two starts = (
  added_tells g.M.Method.keep g.M.Method.heard c.add.result c.args.self.method c.add.new.self.performance _ _ after two
      c.add.ensures.added,
  c.add.ensures.handed_back,
)
