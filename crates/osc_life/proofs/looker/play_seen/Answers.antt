use denote.Param.Send.{sendable}
use Rattle.osc_life.proofs.looker.play_seen.Goals as goal

pub join_mut-both-requires-after_bounds : goal.join_mut-both-requires-after_bounds
join_mut-both-requires-after_bounds g c κs within =
    (((c.requires.begins.jobs, c.requires.begins.goes), search sendable depth 20), c.requires.ours)
