-- How a stage ended, from what failed.
use Rattle.std.proofs.Common.{◌≡◌, ◌≢◌, ◌⊎◌, inl, inr, ℕ, Bool, true, false, List, take, Option, Some, None, refl, sym, subst}
use Rattle.osc_atoms.specs.declared.room.Room.{Room}
use Rattle.osc_edge.specs.Faults.{Rose}
use Rattle.osc_ends.specs.Sinks.{SinkChange, GainsAll}
use Rattle.osc_links.specs.Ticks.{ClockRead}
use Rattle.osc_stage.specs.declared.ended.Ended.{Ended}
use Rattle.osc_stage.specs.declared.ended.Ended.TheVariants.{Done, RecordFull, LinkFailed, ClockFailed, SinkFailed}
use Rattle.osc_links.specs.Faults.{HasLinkRisen}
use Rattle.osc_stage.specs.Ends.{ended_by, HasWritten, AreSteady, HasCause}

-- all is written, unless the sink failed
pub all_written : (ended : Ended) (rec : SinkChange) (recording : List ℕ) → ended ≢ SinkFailed → GainsAll rec recording → HasWritten ended rec recording
all_written Done rec recording sound gains = gains
all_written (RecordFull room) rec recording sound gains = gains
all_written (LinkFailed link) rec recording sound gains = gains
all_written ClockFailed rec recording sound gains = gains
all_written SinkFailed rec recording sound gains = absurd (sound refl)

module _ {L : Type 0} (faults : L → ℕ) (links links_after : List L) (clock : ClockRead) (rec : SinkChange) (recording : List ℕ) (failed : Option ℕ)
    (clock_failed : Bool) (steady : failed ≡ None → AreSteady faults links links_after) (still : clock_failed ≡ false → clock.now ≡ clock.faults)
    (risen : (link : ℕ) → failed ≡ Some link
    → HasLinkRisen faults link links links_after × AreSteady faults (take link links) (take link links_after)) (rose : clock_failed ≡ true → Rose clock.faults clock.now) where
  played_cause : (one : Option ℕ) (other : Bool) (stop : Option Room) → failed ≡ one → clock_failed ≡ other
      → HasWritten (ended_by one other stop) rec recording → HasCause faults (ended_by one other stop) links links_after clock rec
  played_cause (Some link) other stop one_is other_is written = ((risen link one_is).0, (risen link one_is).1, written.1)
  played_cause None true stop one_is other_is written = (steady one_is, rose other_is, written.1)
  played_cause None false (Some room) one_is other_is written = (steady one_is, still other_is, written.1)
  played_cause None false None one_is other_is written = (steady one_is, still other_is, written.1)

  pub ended_cause : (ended : Ended) (stop : Option Room) → (ended ≡ ended_by failed clock_failed stop) ⊎ (ended ≡ SinkFailed)
      → HasWritten ended rec recording → HasCause faults ended links links_after clock rec
  ended_cause ended stop (inl is) written =
      subst (λ (e : Ended). HasCause faults e links links_after clock rec) (sym is)
      (played_cause failed clock_failed stop refl refl (subst (λ (e : Ended). HasWritten e rec recording) is written))
  ended_cause ended stop (inr is) written =
      subst (λ (e : Ended). HasCause faults e links links_after clock rec) (sym is)
      (subst (λ (e : Ended). HasWritten e rec recording) is written).1
