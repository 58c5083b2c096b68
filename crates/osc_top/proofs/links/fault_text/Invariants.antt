use Rattle.std.proofs.Common.{◌≡◌, ◌++◌, drop}
use Rattle.osc_top.specs.Served.{link_faults}
use Rattle.osc_top.proofs.links.fault_text.Given as goal

abbrev pub invariant-loop-link : goal.invariant-loop-link
invariant-loop-link l = l.text ++ link_faults (drop l.link-index l.faults) ≡ link_faults l.faults
