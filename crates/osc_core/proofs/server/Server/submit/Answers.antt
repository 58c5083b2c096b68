use Rattle.std.proofs.Common.{◌≡◌, true, MatchBool, refl, ap, subst, ◌∙◌}
use Rattle.osc_packet.specs.Reading.{units_read}
use Rattle.osc_core.specs.Views.{units_of, StandsAlone}
use Rattle.osc_core.specs.contracts.server.Server.{the_view}
use Rattle.osc_core.proofs.Submits.{stands_queued}
use Rattle.osc_core.proofs.server.Server.submit.Goals as goal
