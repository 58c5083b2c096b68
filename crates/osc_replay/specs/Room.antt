-- A recording that may have more bytes: the limits and the state of its server, and what is
-- printed.
use Rattle.std.specs.Prelude.{◌≡◌, ℕ, List, ◌++◌}
use Rattle.osc_model.specs.Limits.{Limits}
use Rattle.osc_model.specs.State.{State, opening}
use Rattle.osc_model.specs.Events.{Entry}
use Rattle.osc_model.specs.History.{Legal, after}
use Rattle.osc_replay.specs.Printed.{printed, printed_from}

-- the limits, but that the recording may have so many bytes
abbrev pub with_room : ℕ → Limits → Limits
with_room room caps = record caps { recording = room }

-- the state of a server with such limits
abbrev pub in_room : ℕ → State → State
in_room room state = record state { caps = with_room room state.caps }

-- The history is legal with this room too. It leaves the server as it did, but for that limit, and
-- prints the same lines; so what is printed of a history that begins with it begins with them, and
-- goes on with what is printed of the entries since then.
pub record PrintsTheSameIn (room : ℕ) (caps : Limits) (history : List Entry) : Type 0 where
  pub legal : Legal (with_room room caps) history
  pub state : after (opening (with_room room caps)) history
      ≡ in_room room (after (opening caps) history)
  pub lines : printed (with_room room caps) history ≡ printed caps history
  pub onward : (since : List Entry) → printed (with_room room caps) (history ++ since)
      ≡ printed caps history
      ++ printed_from (in_room room (after (opening caps) history)) since
