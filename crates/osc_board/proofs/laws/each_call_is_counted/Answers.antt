use Rattle.std.proofs.Common.{◌-◌, ◌^◌, ◌∙◌, List, length, min, refl, ap}
use Rattle.osc_model.specs.Events.{Invocation}
use Rattle.osc_board.specs.Sights.{opened, calls_of}
use Rattle.osc_board.proofs.Counts.{counted}
use Rattle.osc_board.proofs.laws.each_call_is_counted.Goals as goal

pub returns : goal.returns
returns c = λ caps history id legal.
    counted (opened caps.late) history id refl
    ∙ ap (λ (calls : List Invocation). min (length (calls_of id calls)) (2 ^ 64 - 1)) (c.entries_tell_the_calls.ensures caps history legal)
