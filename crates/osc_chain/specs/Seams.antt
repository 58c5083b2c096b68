-- From a stage to the next one.
use Rattle.osc_script.specs.declared.script.TheConstants.{MAX_SCRIPT}
use Rattle.std.specs.Prelude.{◌≡◌, ℕ, ◌<◌, List, length, map, Option, Result, Ok, Err}
use Rattle.osc_atoms.specs.Atoms.{AreBytes}
use Rattle.osc_method.specs.Heard.{Fixed}
use Rattle.osc_model.specs.Limits.{Limits}
use Rattle.osc_model.specs.Events.{Entry}
use Rattle.osc_replay.specs.Disagreeing.{IsRecordingOf}
use Rattle.osc_script.specs.declared.line.Line.{Line}
use Rattle.osc_script.specs.declared.mode.Mode.TheVariants.{Plain}
use Rattle.osc_script.specs.Scripts.{script_of}
use Rattle.osc_carry.specs.Carried.{carried_script}
use Rattle.osc_ends.specs.Sinks.{SinkChange}
use Rattle.osc_lanes.specs.Performs.{part_of, IsWhole}
use Rattle.osc_links.specs.declared.served.Bounds.{Bounds}
use Rattle.osc_links.specs.Links.{LinkTurn}
use Rattle.osc_relay.specs.declared.outlet.Outlet.{Ghosts}
use Rattle.osc_relay.specs.declared.relay.Relay.{Relay}
use Rattle.osc_stage.specs.declared.stage.Stage.{Stage}
use Rattle.osc_stage.specs.declared.stage.Staged.{Staged}
use Rattle.osc_stage.specs.Stages.{AddsAtOwn, IsStaged, RecordsStage}
use Rattle.osc_chain_laws.specs.Shows.{Scene, TurnsOver, IsCarriedScript}
use Rattle.osc_chain.specs.declared.seam.Seam.{Seam}
use Rattle.osc_chain.specs.declared.seam.Seam.TheVariants.{GoesOn, Ends}
use Rattle.osc_chain.specs.declared.seam.SeamFault.{SeamFault}
use Rattle.osc_chain.specs.declared.seam.SeamFault.TheVariants.{NoRoom, TooLong, Unlike}
use Rattle.osc_chain.specs.Rooms.{carried_most}

-- the script that carries a recording on is longer than a script may be
abbrev pub IsTooLong : List ℕ → Type 0
IsTooLong recording = (caps : Limits) × (history : List Entry)
    × IsRecordingOf recording caps history × (MAX_SCRIPT < length (carried_script caps history))

-- the bytes aren't the recording of a server
abbrev pub IsNoRecording : List ℕ → Type 0
IsNoRecording bytes =
    (caps : Limits) (history : List Entry) → IsRecordingOf bytes caps history → ⊥

-- why there are no lines that carry a recording on
abbrev pub HasNoLines : List ℕ → SeamFault → Type 0
HasNoLines recording TooLong = IsTooLong recording
HasNoLines recording Unlike = IsNoRecording recording
HasNoLines recording NoRoom = ⊥

-- the lines that carry a recording on were read, or there are none
abbrev pub Reads : {X : Type 0} → (X → List Line) → List ℕ → Result X SeamFault → Type 0
Reads lines_in recording (Ok lines) = AreBytes recording × (script : List ℕ)
    × IsCarriedScript recording script × (script_of Plain script ≡ Ok (lines_in lines))
Reads lines_in recording (Err fault) = HasNoLines recording fault

-- why a stage isn't carried on
abbrev pub IsSeamFault : Limits → List ℕ → SeamFault → Type 0
IsSeamFault caps recording NoRoom = caps.recording < carried_most caps
IsSeamFault caps recording TooLong = IsTooLong recording
IsSeamFault caps recording Unlike = IsNoRecording recording

-- A stage has these limits and bounds, and begins with the links and the relays that the one before
-- it handed back.
pub record TakesOver {O L : Type 0} {G : Ghosts O} (caps : Limits) (bounds : Bounds)
    (staged : Staged O L G) (stage : Stage O L G) : Type 0 where
  pub caps_are : stage.caps ≡ caps
  pub bounds_are : stage.links.bounds ≡ bounds
  pub links_are : stage.links.from.items ≡ staged.links.items
  pub relays_are : (part_of stage.opening).boxes ≡ map (λ one. one.1) staged.relays.items

module _ {O L : Type 0} {G : Ghosts O} (keep : Relay O G → Fixed)
    (heard : Relay O G → Option (List ℕ)) (left : L → Option (List LinkTurn)) (faults : L → ℕ)
    (sent : O → Option (List (List ℕ))) (losses : O → ℕ) where
  -- Where a stage was played under these limits, and its opening added each relay at its own
  -- address, whatever is played with this one carries it on.
  abbrev pub CarriesOn : Limits → Staged O L G → Stage O L G → Type 0
  CarriesOn caps staged stage = (last next : Scene O L G) (rec : SinkChange)
      → last.staged ≡ staged → last.stage.caps ≡ caps
      → IsStaged keep heard left faults last.stage last.clock last.staged
      → RecordsStage keep heard sent losses last.stage last.staged rec
      → AddsAtOwn (part_of last.stage.opening) → next.stage ≡ stage → TurnsOver last next

  -- A stage takes over from the one before it. Its opening has a relay for each line that adds a
  -- method, and adds it at its own address. It carries that one on.
  pub record Carries (caps : Limits) (bounds : Bounds) (staged : Staged O L G)
      (stage : Stage O L G) : Type 0 where
    pub over : TakesOver caps bounds staged stage
    pub whole : IsWhole (part_of stage.opening)
    pub own : AddsAtOwn (part_of stage.opening)
    pub carries : CarriesOn caps staged stage

  -- a stage is carried on, or comes back as it was, with the reason
  abbrev pub Turns : Limits → Bounds → Staged O L G → Seam O L G → Type 0
  Turns caps bounds staged (GoesOn stage) = Carries caps bounds staged stage
  Turns caps bounds staged (Ends back fault) =
      (back ≡ staged) × IsSeamFault caps staged.recording.items fault
