-- A show that turns over while it plays: one stage after another, each with its recording.
use Rattle.std.specs.Prelude.{◌≡◌, ℕ, ◌≤◌, List, [], ◌∷◌, Option}
use Rattle.osc_atoms.specs.Atoms.{AreBytes}
use Rattle.osc_method.specs.Heard.{Fixed}
use Rattle.osc_model.specs.Limits.{Limits}
use Rattle.osc_model.specs.State.{opening}
use Rattle.osc_model.specs.Events.{Entry}
use Rattle.osc_model.specs.History.{after}
use Rattle.osc_replay.specs.Disagreeing.{IsRecordingOf}
use Rattle.osc_carry.specs.Carried.{carried, carried_script, carried_size}
use Rattle.osc_carry.specs.Leading.{with_room}
use Rattle.osc_lanes.specs.Performs.{part_of}
use Rattle.osc_links.specs.Links.{LinkTurn}
use Rattle.osc_links.specs.Ticks.{ClockRead}
use Rattle.osc_relay.specs.declared.outlet.Outlet.{Ghosts}
use Rattle.osc_relay.specs.declared.relay.Relay.{Relay}
use Rattle.osc_stage.specs.declared.stage.Stage.{Stage}
use Rattle.osc_stage.specs.declared.stage.Staged.{Staged}
use Rattle.osc_stage.specs.Stages.{carried_on, IsStaged}
use Rattle.osc_chain_laws.specs.Continuations.{IsRecorded}
use Rattle.osc_chain_laws.specs.Openings.{StandAt}
use Rattle.osc_chain_laws.specs.Reels.{Reel, AreChained, PlaysAsOne}

-- the script of the lines that carry a recording on
abbrev pub IsCarriedScript : List ℕ → List ℕ → Type 0
IsCarriedScript recording script =
    (caps : Limits) × (history : List Entry) × IsRecordingOf recording caps history
    × (script ≡ carried_script caps history)

-- a stage, the clock that it read, and its result
pub record Scene (O L : Type 0) (G : Ghosts O) : Type 0 where
  pub stage : Stage O L G
  pub clock : ClockRead
  pub staged : Staged O L G

module _ {O L : Type 0} {G : Ghosts O} where
  -- The next stage carries on the history that the last one recorded, under the same limits but for
  -- the recording's. Its relays stand at the addresses of the methods that were registered then, in
  -- their order, and its recording may have as many bytes as the lines take.
  pub record TurnsOver (last next : Scene O L G) : Type 0 where
    pub caps : Limits
    pub old : List Entry
    pub recorded : IsRecordingOf last.staged.recording.items caps old
    pub bytes : AreBytes last.staged.recording.items
    pub relays : List (Relay O G)
    pub stand : StandAt relays (after (opening caps) old)
    pub opens : part_of next.stage.opening ≡ carried_on relays (carried caps old)
    pub limits : next.stage.caps ≡ with_room caps next.stage.caps.recording
    pub fits : carried_size (after (opening caps) old) ≤ next.stage.caps.recording

  -- each stage has recorded the history in its place
  abbrev pub AreRecorded : Limits → List (Scene O L G) → List Reel → Type 0
  AreRecorded caps [] [] = Unit {0}
  AreRecorded caps (scene ∷ scenes) (reel ∷ reels) =
      IsRecorded (with_room caps reel.room) reel.history scene.staged.recording.items
      × AreRecorded (with_room caps reel.room) scenes reels
  AreRecorded caps _ _ = ⊥

  -- The stages have recorded one history each, which is legal and keeps the four laws. Each but the
  -- first begins with what carries the one before it on; and what they have invoked together is
  -- what one server invokes that has room enough.
  pub record IsChain (first : Scene O L G) (scenes : List (Scene O L G)) : Type 0 where
    pub history : List Entry
    pub reels : List Reel
    pub recorded : IsRecorded first.stage.caps history first.staged.recording.items
    pub each_recorded : AreRecorded first.stage.caps scenes reels
    pub chained : AreChained first.stage.caps history reels
    pub as_one : PlaysAsOne first.stage.caps history reels

  module _ (keep : Relay O G → Fixed) (heard : Relay O G → Option (List ℕ))
      (left : L → Option (List LinkTurn)) (faults : L → ℕ) where
    -- each stage was played, and carries the one before it on
    abbrev pub IsShow : Scene O L G → List (Scene O L G) → Type 0
    IsShow last [] = Unit {0}
    IsShow last (next ∷ scenes) =
        IsStaged keep heard left faults next.stage next.clock next.staged × TurnsOver last next
        × IsShow next scenes
