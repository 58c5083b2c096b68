use Rattle.osc_life.proofs.Learning.{learns_stays}
use Rattle.osc_lanes.proofs.run.resume_lanes.Goals as goal

pub perform_beside-requires-clause-stays : goal.perform_beside-requires-clause-stays
perform_beside-requires-clause-stays g c κs within after end tokens v w learns = learns_stays v w learns
