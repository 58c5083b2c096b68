-- What a run of lines leaves.
use Rattle.std.specs.Prelude.{◌≡◌, ℕ, List, Option}
use Rattle.osc_model.specs.Limits.{Limits}
use Rattle.osc_model.specs.Events.{Room}
use Rattle.osc_model.specs.History.{Legal}
use Rattle.osc_model.specs.Recordings.{record_text}
use Rattle.osc_script.specs.declared.line.Line.{Line}
use Rattle.osc_player.specs.Plain.{plain, printed_faults}

-- the recording of the lines' history, which is a legal one, the lines of their faults, and where
-- they were stopped
pub record IsRunOf (recording faults : List ℕ) (stop : Option Room) (caps : Limits)
    (lines : List Line) : Type 0 where
  pub legal : Legal caps (plain caps lines).history
  pub text : recording ≡ record_text caps (plain caps lines).history
  pub said : faults ≡ printed_faults (plain caps lines).faults
  pub stopped : stop ≡ (plain caps lines).stop
