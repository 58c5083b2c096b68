-- How a stage ends, and why.
use Rattle.std.specs.Prelude.{◌≡◌, ℕ, Bool, true, false, List, map, take}
use Rattle.std.specs.Prelude.{Option, Some, None}
use Rattle.osc_atoms.specs.declared.room.Room.{Room}
use Rattle.osc_edge.specs.Faults.{Rose}
use Rattle.osc_ends.specs.Sinks.{SinkChange, Fails, IsSteady, GainsAll, GainsPart}
use Rattle.osc_links.specs.Faults.{HasLinkRisen}
use Rattle.osc_links.specs.Ticks.{ClockRead}
use Rattle.osc_stage.specs.declared.ended.Ended.{Ended}
use Rattle.osc_stage.specs.declared.ended.Ended.TheVariants.{Done, RecordFull, LinkFailed}
use Rattle.osc_stage.specs.declared.ended.Ended.TheVariants.{ClockFailed, SinkFailed}

-- a failed link goes before a failed clock, and both before a full recording
abbrev pub ended_by : Option ℕ → Bool → Option Room → Ended
ended_by (Some link) clock_failed stop = LinkFailed link
ended_by None true stop = ClockFailed
ended_by None false (Some room) = RecordFull room
ended_by None false None = Done

-- what a sink has gained of a recording: all of it; or a front of it, and then it failed
abbrev pub HasWritten : Ended → SinkChange → List ℕ → Type 0
HasWritten SinkFailed rec recording = GainsPart rec recording
HasWritten _ rec recording = GainsAll rec recording

module _ {L : Type 0} (faults : L → ℕ) where
  -- no link's count of faults rose
  abbrev pub AreSteady : List L → List L → Type 0
  AreSteady links links_after = map faults links_after ≡ map faults links

  -- What failed, by how a stage ended: the count of faults rose of what failed, and of nothing
  -- that would have been told first.
  abbrev pub HasCause : Ended → List L → List L → ClockRead → SinkChange → Type 0
  HasCause Done links links_after clock rec =
      AreSteady links links_after × (clock.now ≡ clock.faults) × IsSteady rec
  HasCause (RecordFull room) links links_after clock rec =
      AreSteady links links_after × (clock.now ≡ clock.faults) × IsSteady rec
  HasCause (LinkFailed link) links links_after clock rec =
      HasLinkRisen faults link links links_after
      × AreSteady (take link links) (take link links_after) × IsSteady rec
  HasCause ClockFailed links links_after clock rec =
      AreSteady links links_after × Rose clock.faults clock.now × IsSteady rec
  HasCause SinkFailed links links_after clock rec = Fails rec
