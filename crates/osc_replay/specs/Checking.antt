-- What a check is answered.
use Rattle.std.specs.Prelude.{◌≡◌, ℕ, List, length, count_by, Result, Ok, Err}
use Rattle.osc_print.specs.Entries.{event_line, invocation_text}
use Rattle.std.specs.List.{flat_map}
use Rattle.osc_model.specs.Limits.{Limits}
use Rattle.osc_model.specs.State.{State, opening}
use Rattle.osc_model.specs.Events.{Entry, is_added}
use Rattle.osc_model.specs.Step.{step}
use Rattle.osc_model.specs.History.{after}
use Rattle.std.specs.Prelude.{◌++◌}
use Rattle.osc_replay.specs.declared.checked.Checked.{Checked}
use Rattle.osc_replay.specs.declared.fault.ReplayFault.{ReplayFault}
use Rattle.osc_replay.specs.declared.fault.ReplayFault.TheVariants.{NoMemory}

-- the limits, how many entries there are, how many of them added a method, and how many callers are
-- enrolled after them
pub record IsCheckOf (checked : Checked) (limits : Limits) (history : List Entry) : Type 0 where
  pub caps_are : checked.caps ≡ limits
  pub entries_are : checked.entries ≡ length history
  pub adds_are : checked.adds ≡ count_by (λ entry. is_added entry.answer) history
  pub callers_are : checked.callers ≡ (after (opening limits) history).callers

-- that is answered, or memory ran out
abbrev pub IsCheckedUnlessShort : Result Checked ReplayFault → Limits → List Entry → Type 0
IsCheckedUnlessShort (Ok checked) limits history = IsCheckOf checked limits history
IsCheckedUnlessShort (Err NoMemory) limits history = Unit {0}
IsCheckedUnlessShort (Err _) limits history = ⊥

-- Inside the crate: the lines that an entry would print.
abbrev pub lines_of : State → Entry → List ℕ
lines_of state entry =
    event_line entry ++ flat_map invocation_text (step state entry.event).invocations
