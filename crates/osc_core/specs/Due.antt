-- Inside the crate: the result of a release.
use Rattle.osc_model.specs.Limits.{release_head_size}
use Rattle.std.specs.Prelude.{◌≡◌, ℕ, ◌+◌, ◌*◌, ◌≤◌, List, [], length, map, Option, Some}
use Rattle.osc_atoms.specs.declared.room.Room.{Room}
use Rattle.osc_model.specs.State.{State}
use Rattle.osc_model.specs.Events.{Hit, Invocation, release, released, nothing_due}
use Rattle.osc_model.specs.Step.{decided}
use Rattle.osc_record.specs.Writing.{Recording, recording_text, with_release}
use Rattle.osc_core.specs.Calls.{hit_by}
use Rattle.osc_core.specs.Recorded.{TellsRoom, with_hits}
use Rattle.osc_core.specs.declared.answers.Releasing.{Releasing}
use Rattle.osc_core.specs.declared.answers.Releasing.TheVariants as releasing

-- the unit with this number is the first, and is due
abbrev pub IsDue : State → ℕ → List Hit → Type 0
IsDue state unit hits = (decided state release).answer ≡ released unit hits

-- the unit that is due leaves the tables, and its release is recorded with its hits
pub record IsReleased (unit calls caller : ℕ) (old new : State)
    (before after : Recording) : Type 0 where
  pub hits : List Hit
  pub due : IsDue old unit hits
  pub many : calls ≡ length hits
  pub fits : length (recording_text before) + (release_head_size + 8 * calls)
      ≤ before.caps.recording
  pub state : new ≡ (decided old release).state
  pub recorder : after
      ≡ with_hits (with_release before caller unit calls)
      (map hit_by (decided old release).invocations)

-- there is no room for the entry of the unit that is due, and all stays
pub record IsKeptBack (room : Room) (old new : State) (before after : Recording) : Type 0 where
  pub unit : ℕ
  pub hits : List Hit
  pub due : IsDue old unit hits
  pub wanting : TellsRoom (Some room) before (release_head_size + 8 * length hits)
  pub state : new ≡ old
  pub recorder : after ≡ before

-- no unit is due, and all stays
pub record IsIdle (next : Option ℕ) (old new : State) (before after : Recording) : Type 0 where
  pub none : (decided old release).answer ≡ nothing_due next
  pub state : new ≡ old
  pub recorder : after ≡ before

-- what becomes of the tables and of the recording, by what a caller's release is answered
abbrev pub Releases : Releasing → ℕ → State → State → Recording → Recording → Type 0
Releases (releasing.Released unit calls) caller old new before after =
    IsReleased unit calls caller old new before after
Releases (releasing.NothingDue next) caller old new before after = IsIdle next old new before after
Releases (releasing.RecordFull room) caller old new before after =
    IsKeptBack room old new before after

-- the invocations that are made: none, unless a unit is released
abbrev pub made_by : Releasing → List Invocation → List Invocation
made_by (releasing.Released unit calls) invocations = invocations
made_by _ invocations = []
