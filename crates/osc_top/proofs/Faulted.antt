-- The lines of faults, from one of them on.
use Rattle.std.proofs.Common.{◌≡◌, ◌++◌, ◌+◌, ◌<◌, ℕ, suc, List, drop, length, get_or, sym, ap, ◌∙◌, drop-cons, add-one, append_assoc}
use Rattle.osc_atoms.specs.declared.fault.Fault.{Fault}
use Rattle.osc_print.specs.Lines.{link_fault_text}
use Rattle.osc_top.specs.Served.{link_faults}

-- the line of the next fault is the first of those that are left
pub next_line : (text : List ℕ) (faults : List (ℕ × ℕ × Fault)) (at : ℕ) (other : ℕ × ℕ × Fault) → at < length faults
    → (text ++ link_fault_text (get_or faults at other).0 (get_or faults at other).1 (get_or faults at other).2) ++ link_faults (drop (at + 1) faults)
    ≡ text ++ link_faults (drop at faults)
next_line text faults at other inside =
    let one = get_or faults at other in
    let line = link_fault_text one.0 one.1 one.2 in
    append_assoc text line (link_faults (drop (at + 1) faults))
    ∙ ap (λ (l : List ℕ). text ++ l) (ap (λ (n : ℕ). line ++ link_faults (drop n faults)) (add-one at)
    ∙ sym (ap link_faults (drop-cons faults at other inside)))
