-- The lines that are written, one after another.
use Rattle.std.proofs.Common.{◌≡◌, ℕ, min, List, ◌∷◌, ◌++◌, sym, ap, ◌∙◌, append_assoc}
use Rattle.std.proofs.lemmas.List.Concat.{flat_map-append}
use Rattle.osc_packet.specs.Units.{TimedUnit}
use Rattle.osc_model.specs.State.{Queued}
use Rattle.osc_script.specs.declared.act.Act.{Act}
use Rattle.osc_script.specs.Written.{act_line, written}
use Rattle.osc_carry.specs.Carried.{ticks_to, send_of, queue_acts}

pub written_on : (first more : List Act) → written (first ++ more) ≡ written first ++ written more
written_on first more = flat_map-append act_line first more

-- a unit's lines are put, and those of the others are left
pub units_step : (now clock due own : ℕ) (unit : TimedUnit) (units : List Queued) (before ticked new start : List ℕ)
    → before ++ written (queue_acts now clock ((due, own, unit) ∷ units)) ≡ start → ticked ≡ before ++ written (ticks_to now (min due clock))
    → new ≡ ticked ++ written (send_of unit) → new ++ written (queue_acts (min due clock) clock units) ≡ start
units_step now clock due own unit units before ticked new start said one two =
    let ticks : List Act = ticks_to now (min due clock) in
    let rest : List Act = queue_acts (min due clock) clock units in
    let whole : written (queue_acts now clock ((due, own, unit) ∷ units)) ≡ written ticks ++ (written (send_of unit) ++ written rest) =
    written_on ticks (send_of unit ++ rest) ∙ ap (λ (l : List ℕ). written ticks ++ l) (written_on (send_of unit) rest) in
    ap (λ (l : List ℕ). l ++ written rest) (two ∙ ap (λ (l : List ℕ). l ++ written (send_of unit)) one)
    ∙ append_assoc (before ++ written ticks) (written (send_of unit)) (written rest)
    ∙ append_assoc before (written ticks) (written (send_of unit) ++ written rest)
    ∙ ap (λ (l : List ℕ). before ++ l) (sym whole)
    ∙ said
