-- A pump is releases, one after another.
use Rattle.std.specs.Prelude.{◌≡◌, ℕ, zero, suc, ◌+◌, length, List}
use Rattle.osc_model.specs.Limits.{Limits}
use Rattle.osc_model.specs.Events.{Answer, Hit, release, released, nothing_due, record_full}
use Rattle.osc_record.specs.Shown.{room_of}
use Rattle.osc_turn.specs.declared.view.View.{View}
use Rattle.osc_live.specs.declared.pumped.PumpEnd.{PumpEnd}
use Rattle.osc_live.specs.declared.pumped.PumpEnd.TheVariants.{NothingDue, RecordFull}
use Rattle.osc_live.specs.declared.pumped.Pumped.{Pumped}
use Rattle.osc_live.specs.Calls.{Calls}

-- one release of a unit, which makes so many calls
abbrev pub ReleasesOne : Limits → ℕ → ℕ → View → View → Type 0
ReleasesOne caps caller calls v w =
    (unit : ℕ) × (hits : List Hit) × (calls ≡ length hits)
    × Calls caps caller release (released unit hits) v w

-- so many releases, one after another, which make so many calls together
abbrev pub Releases : Limits → ℕ → ℕ → ℕ → View → View → Type 0
Releases caps caller zero calls v w = (w ≡ v) × (calls ≡ 0)
Releases caps caller (suc count) calls v w =
    (between : View) × (before : ℕ) × (last : ℕ) × (calls ≡ before + last)
    × Releases caps caller count before v between × ReleasesOne caps caller last between w

-- the answer of the release that ends a pump
abbrev pub end_of : PumpEnd → Answer
end_of (NothingDue next) = nothing_due next
end_of (RecordFull room) = record_full (room_of room)

-- The releases that a pump counts, whose calls it adds up, and then one that is answered otherwise.
pub record Pumps (caps : Limits) (caller : ℕ) (pumped : Pumped) (v w : View) : Type 0 where
  pub between : View
  pub releases : Releases caps caller pumped.released pumped.calls v between
  pub last : Calls caps caller release (end_of pumped.end) between w
