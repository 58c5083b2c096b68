-- A stage hands back as many links as it was given.
use Rattle.std.proofs.Common.{◌≡◌, ℕ, List, length, Option, ap, ◌∙◌}
use Rattle.osc_method.specs.Heard.{Fixed}
use Rattle.osc_lanes.specs.Performs.{part_of}
use Rattle.osc_links.specs.Links.{LinkTurn}
use Rattle.osc_links.specs.Ticks.{ClockRead}
use Rattle.osc_links.proofs.LinkFaults.{links_back}
use Rattle.osc_relay.specs.declared.outlet.Outlet.{Ghosts}
use Rattle.osc_relay.specs.declared.relay.Relay.{Relay}
use Rattle.osc_stage.specs.declared.stage.Stage.{Stage}
use Rattle.osc_stage.specs.declared.stage.Staged.{Staged}
use Rattle.osc_stage.specs.Stages.{IsStaged}

module _ {O L : Type 0} {G : Ghosts O} (keep : Relay O G → Fixed) (heard : Relay O G → Option (List ℕ)) (gone : L → Option (List LinkTurn))
    (faults : L → ℕ) where
  pub links_kept : (stage : Stage O L G) (clock : ClockRead) (staged : Staged O L G) → IsStaged keep heard gone faults stage clock staged
      → length staged.links.items ≡ length stage.links.from.items
  links_kept stage clock staged is =
      ap length is.links_are
      ∙ links_back gone faults keep heard stage.caps stage.links.bounds (part_of stage.opening) stage.links.from.items clock is.hosted is.hosts
