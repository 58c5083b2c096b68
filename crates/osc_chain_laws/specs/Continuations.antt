-- A stage that carries another on.
use Rattle.std.specs.Prelude.{◌≡◌, ℕ, List, []}
use Rattle.osc_model.specs.Limits.{Limits}
use Rattle.osc_model.specs.Events.{Entry}
use Rattle.osc_model.specs.History.{Legal}
use Rattle.osc_model.specs.Recordings.{record_text}
use Rattle.osc_laws.specs.Laws.{KeepsTheLaws}
use Rattle.osc_carry.specs.Carried.{carried}
use Rattle.osc_carry.specs.Leading.{with_room, CarriesOn}
use Rattle.osc_relay.specs.declared.outlet.Outlet.{Ghosts}
use Rattle.osc_stage.specs.declared.stage.Staged.{Staged}
use Rattle.osc_chain_laws.specs.Openings.{BeginsWith}

-- The bytes are the recording of this history of a server with these limits, which is legal and
-- keeps the four laws.
pub record IsRecorded (caps : Limits) (history : List Entry) (recording : List ℕ) : Type 0 where
  pub legal : Legal caps history
  pub laws : KeepsTheLaws caps history
  pub text : recording ≡ record_text caps history

-- A stage carries on the history of a server with these limits, where its own recording may have so
-- many bytes. It has one history, which is recorded. That begins with caller 0's entries for the
-- lines that carry the old one on: none is refused, and they bring the new server to where the old
-- one was, up to numbers. Then so many callers were enrolled. No relay is left over.
pub record Continues {O L : Type 0} {G : Ghosts O} (caps : Limits) (old : List Entry) (room : ℕ)
    (staged : Staged O L G) : Type 0 where
  pub history : List Entry
  pub callers : ℕ
  pub recorded : IsRecorded (with_room caps room) history staged.recording.items
  pub carried_on : CarriesOn caps old room
  pub begins : BeginsWith (with_room caps room) (carried caps old) callers history
  pub faultless : staged.opening_faults.items ≡ []
  pub all_added : staged.left.items ≡ []
