use Rattle.osc_replay.proofs.Formed.{no_place}
use Rattle.osc_replay.proofs.OnePlace.{one_place, one_old_place}
use Rattle.osc_replay.proofs.laws.a_malformed_place_is_the_only_one.Goals as goal

pub returns : goal.returns
returns c = record { place = one_place; none = no_place; old = one_old_place }
