-- A show on one stage after another.
use Rattle.std.specs.Prelude.{◌≡◌, ℕ, ◌+◌, ◌<◌, ◌≤◌, List, [], ◌∷◌, length, Option, IfSome}
use Rattle.std.specs.List.{AllByRecursion}
use Rattle.osc_method.specs.Heard.{Fixed}
use Rattle.osc_model.specs.Limits.{Limits}
use Rattle.osc_ends.specs.Sinks.{SinkChange}
use Rattle.osc_lanes.specs.Performs.{part_of, IsWhole}
use Rattle.osc_links.specs.declared.limits.TheConstants.{MAX_LINKS}
use Rattle.osc_links.specs.declared.served.Bounds.{Bounds}
use Rattle.osc_links.specs.Links.{LinkTurn}
use Rattle.osc_relay.specs.declared.outlet.Outlet.{Ghosts}
use Rattle.osc_relay.specs.declared.relay.Relay.{Relay}
use Rattle.osc_stage.specs.declared.stage.Stage.{Stage}
use Rattle.osc_stage.specs.declared.stage.Staged.{Staged}
use Rattle.osc_stage.specs.Stages.{AddsAtOwn, IsStaged, RecordsStage}
use Rattle.osc_chain_laws.specs.Shows.{Scene, TurnsOver, IsShow, IsChain}
use Rattle.osc_chain.specs.Seams.{CarriesOn, IsSeamFault, IsTooLong, TakesOver}
use Rattle.osc_chain.specs.Rooms.{carried_most}
use Rattle.osc_chain.specs.declared.seam.SeamFault.{SeamFault}
use Rattle.osc_chain.specs.declared.seam.SeamFault.TheVariants.{NoRoom, TooLong, Unlike}
use Rattle.osc_chain.specs.declared.part.Part.{Part}
use Rattle.osc_chain.specs.declared.part.Part.TheVariants.{GoesOn, Over}

-- there are callers enough for a stage's links, a relay for each line that adds a method, and the
-- links can end
pub record CanPlay {O L : Type 0} {G : Ghosts O} (stage : Stage O L G) : Type 0 where
  pub callers : length stage.links.from.items + 2 ≤ stage.caps.callers
  pub few : length stage.links.from.items ≤ MAX_LINKS
  pub whole : IsWhole (part_of stage.opening)
  pub count : 0 < stage.links.bounds.count
  pub idle : 0 < stage.links.bounds.idle

-- the last of scenes
abbrev pub last_of : {O L : Type 0} {G : Ghosts O} → Scene O L G → List (Scene O L G) → Scene O L G
last_of first [] = first
last_of first (next ∷ scenes) = last_of next scenes

-- each stage takes over from the one before it
abbrev pub AllTakeOver : {O L : Type 0} {G : Ghosts O} → Scene O L G → List (Scene O L G) → Type 0
AllTakeOver last [] = Unit {0}
AllTakeOver last (next ∷ scenes) =
    TakesOver last.stage.caps last.stage.links.bounds last.staged next.stage
    × AllTakeOver next scenes

-- why a show that was to go on didn't: what its stages hand back is always a recording
abbrev pub IsShowFault : Limits → List ℕ → SeamFault → Type 0
IsShowFault caps recording NoRoom = caps.recording < carried_most caps
IsShowFault caps recording TooLong = IsTooLong recording
IsShowFault caps recording Unlike = ⊥

-- the opening of a stage adds each relay at its own address
abbrev pub OpensAtOwn : {O L : Type 0} {G : Ghosts O} → Stage O L G → Type 0
OpensAtOwn stage = AddsAtOwn (part_of stage.opening)

module _ {O L : Type 0} {G : Ghosts O} (keep : Relay O G → Fixed)
    (heard : Relay O G → Option (List ℕ)) (left : L → Option (List LinkTurn)) (faults : L → ℕ)
    (sent : O → Option (List (List ℕ))) (losses : O → ℕ) where
  -- What comes after a stage that was played under these limits and bounds: one that takes over
  -- from it and carries it on, or nothing.
  abbrev pub GoesOnFrom : Limits → Bounds → Staged O L G → Part O L G → Type 0
  GoesOnFrom caps bounds staged (GoesOn stage) = CanPlay stage × OpensAtOwn stage
      × TakesOver caps bounds staged stage
      × CarriesOn keep heard left faults sent losses caps staged stage
  GoesOnFrom caps bounds staged (Over end) = (end.staged ≡ staged)
      × IfSome end.fault (λ fault. IsSeamFault caps staged.recording.items fault)

  -- a scene's stage was played, and its one history recorded
  pub record IsPlayed (scene : Scene O L G) : Type 0 where
    pub staged : IsStaged keep heard left faults scene.stage scene.clock scene.staged
    pub rec : SinkChange
    pub records : RecordsStage keep heard sent losses scene.stage scene.staged rec

  -- A stage was played, and what comes after it: one that takes over from it, and carries it on
  -- where the opening added each relay at its own address; or nothing, and why it isn't carried on
  -- where it was to be.
  abbrev pub PlaysPart : Stage O L G → Part O L G → Type 0
  PlaysPart stage (GoesOn next) = (scene : Scene O L G) × (scene.stage ≡ stage) × IsPlayed scene
      × CanPlay next × OpensAtOwn next
      × TakesOver stage.caps stage.links.bounds scene.staged next
      × (OpensAtOwn stage → (after : Scene O L G) → after.stage ≡ next → TurnsOver scene after)
  PlaysPart stage (Over end) =
      (scene : Scene O L G) × (scene.stage ≡ stage) × IsPlayed scene × (scene.staged ≡ end.staged)
      × IfSome end.fault (λ fault. IsShowFault stage.caps end.staged.recording.items fault)

  -- A show that begins with this stage was played, one stage after another, and ended with this
  -- one. Each has one history, which its sink has gained, and each but the first takes over from the
  -- one before it: with its limits, its links and its relays. Where the opening of the first adds
  -- each relay at its own address, each stage but the first carries the one before it on, so that
  -- the recordings are a chain.
  pub record PlaysShow (stage : Stage O L G) (last : Staged O L G) : Type 0 where
    pub first : Scene O L G
    pub scenes : List (Scene O L G)
    pub begins : first.stage ≡ stage
    pub played : AllByRecursion IsPlayed (first ∷ scenes)
    pub taken_over : AllTakeOver first scenes
    pub ends : (last_of first scenes).staged ≡ last
    pub show : OpensAtOwn stage → IsShow keep heard left faults first scenes
    pub chain : OpensAtOwn stage → IsChain first scenes
