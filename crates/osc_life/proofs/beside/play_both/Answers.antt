use denote.Param.Send.{sendable}
use Rattle.osc_life.proofs.beside.play_both.Goals as goal

pub join_mut-requires-after_bounds : goal.join_mut-requires-after_bounds
join_mut-requires-after_bounds g c κs within =
    ((c.requires.goes, search sendable depth 20), (c.requires.jobs, search sendable depth 20))
