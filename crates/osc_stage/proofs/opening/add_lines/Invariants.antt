use Rattle.std.proofs.Common.{◌≡◌, ◌++◌, map, drop}
use Rattle.osc_stage.specs.Stages as stages
use Rattle.osc_stage.proofs.opening.add_lines.Given as goal

abbrev pub invariant-loop-relay : goal.invariant-loop-relay
invariant-loop-relay g l = l.lines.items ++ map stages.add_line (drop l.relay-index l.relays) ≡ map stages.add_line l.relays
