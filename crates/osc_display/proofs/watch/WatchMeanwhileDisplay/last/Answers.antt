use Rattle.osc_turn.specs.Passes.{view}
use Rattle.osc_watch.proofs.Looking.{read_on}
use Rattle.osc_display.proofs.watch.WatchMeanwhileDisplay.last.Goals as goal

pub refresh-caller-requires-clause-read : goal.refresh-caller-requires-clause-read
refresh-caller-requires-clause-read g c =
    read_on c.args.desk.now.live.now.caps c.args.on.now.board c.requires.met (view c.args.caller.pass) c.requires.learns.goes_on c.requires.played.1
