use Rattle.std.proofs.Common.{◌≡◌, ◌++◌, drop}
use Rattle.std.specs.List.{flat_map}
use Rattle.osc_print.specs.Lines.{fault_text}
use Rattle.osc_top.proofs.lanes.fault_lines.Given as goal

abbrev pub invariant-loop-line : goal.invariant-loop-line
invariant-loop-line l =
    l.text ++ flat_map (λ one. fault_text one.0 one.1) (drop l.line-index l.faults) ≡ l.initial.text ++ flat_map (λ one. fault_text one.0 one.1) l.faults
