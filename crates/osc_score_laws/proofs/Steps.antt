-- A step that is decided, and for whose entry there is room.
use Rattle.std.proofs.Common.{◌≡◌, ℕ, ◌+◌, ◌-◌, ◌≤◌, Bool, true, false, cond, nat_lt, ap, ◌∙◌, arith}
use Rattle.std.proofs.lemmas.Bool.Decides.{nat_tests}
use Rattle.osc_model.specs.State.{State}
use Rattle.osc_model.specs.Recordings.{entry_size}
use Rattle.osc_model.specs.Events.{Event, adds_entry}
use Rattle.osc_model.specs.Step.{Stepped, step, decided, recorded_as}
use Rattle.osc_model.proofs.Stepping.{no_room, noted}

not_less : (m n : ℕ) → n ≤ m → nat_lt m n ≡ false
not_less m n fits = grind (arith, nat_tests)

pub has_room : (most used size : ℕ) → used + size ≤ most → nat_lt (most - used) size ≡ false
has_room most used size fits = not_less (most - used) size (omega arith)

pub step_is : (state : State) (event : Event) (d : Stepped) → decided state event ≡ d → adds_entry d.answer ≡ true
    → state.recorded + entry_size event d.answer ≤ state.caps.recording → step state event ≡ noted state (entry_size event d.answer) d
step_is state event d is adds fits =
    ap (λ (e : Stepped). cond (adds_entry e.answer) (recorded_as state (entry_size event e.answer) e) e) is
    ∙ ap (λ (t : Bool). cond t (recorded_as state (entry_size event d.answer) d) d) adds
    ∙ ap (λ (t : Bool). cond t (no_room state (entry_size event d.answer)) (noted state (entry_size event d.answer) d))
    (has_room state.caps.recording state.recorded (entry_size event d.answer) fits)
