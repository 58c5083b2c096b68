use Rattle.std.proofs.Common.{◌≡◌, ◌++◌, ◌+◌, ℕ, List, drop, ap, ◌∙◌, arith}
use Rattle.osc_top.specs.Served.{link_faults}
use Rattle.osc_top.proofs.Faulted.{next_line}
use Rattle.osc_top.proofs.links.fault_text.Goals as goal

pub loop-link-preserved : goal.loop-link-preserved
loop-link-preserved c =
    let at = c.loop-link.link-index in
    let faults = c.args.faults.now in
    ap (λ (l : List ℕ). l ++ link_faults (drop (at + 1) faults)) c.in_ok-link_fault_line.ensures.ok
    ∙ next_line c.loop-link.text faults at (0, 0, record { kind = 0; at = 0 }) (omega (arith, c.loop-link-test.true)) ∙ c.loop-link.invariant
