use Rattle.osc_watch.proofs.Publishings.{looks}
use Rattle.osc_watch.proofs.read.read.Goals as goal

pub enter_as-requires : goal.enter_as-requires
enter_as-requires c x = looks _ _ x
