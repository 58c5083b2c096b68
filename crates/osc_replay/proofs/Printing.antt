-- Printed histories, one behind another.
use Rattle.std.proofs.Common.{◌≡◌, ℕ, List, [], ◌∷◌, ◌++◌, refl, sym, ap, ◌∙◌, append_assoc}
use Rattle.std.specs.List.{flat_map}
use Rattle.osc_print.specs.Entries.{event_line, invocation_text}
use Rattle.osc_model.specs.State.{State}
use Rattle.osc_model.specs.Events.{Entry}
use Rattle.osc_model.specs.Step.{step}
use Rattle.osc_model.specs.History.{after}
use Rattle.osc_replay.specs.Printed.{printed_from}

pub printed-append : (state : State) (xs ys : List Entry) → printed_from state (xs ++ ys) ≡ printed_from state xs ++ printed_from (after state xs) ys
printed-append state [] ys = refl
printed-append state (entry ∷ xs) ys =
    let front = event_line entry ++ flat_map invocation_text (step state entry.event).invocations in
    let next = (step state entry.event).state in
    ap (λ (l : List ℕ). front ++ l) (printed-append next xs ys) ∙ sym (append_assoc front (printed_from next xs) (printed_from (after next xs) ys))
