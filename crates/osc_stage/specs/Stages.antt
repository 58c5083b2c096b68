-- What a stage plays, and its result.
use Rattle.std.specs.Prelude.{◌≡◌, ◌⊎◌, ℕ, ◌<◌, Bool, true, false, not, List, [], ◌++◌, length, map}
use Rattle.std.specs.Prelude.{filter, All, Option}
use Rattle.std.specs.List.{AllByRecursion}
use Rattle.std.specs.Option.{option_or}
use Rattle.osc_pattern.specs.Methods.{Method}
use Rattle.osc_method.specs.Heard.{Fixed}
use Rattle.osc_model.specs.State.{opening}
use Rattle.osc_model.specs.Events.{Entry, Invocation}
use Rattle.osc_model.specs.Heard.{calls_bytes}
use Rattle.osc_model.specs.History.{Legal, HaveHeard, after, invocations}
use Rattle.osc_model.specs.Recordings.{record_text}
use Rattle.osc_laws.specs.Laws.{KeepsTheLaws}
use Rattle.osc_core.specs.Telling.{told}
use Rattle.osc_script.specs.Adds.{is_add}
use Rattle.osc_script.specs.declared.act.Act.{Act}
use Rattle.osc_script.specs.declared.act.Act.TheVariants.{Add, Remove}
use Rattle.osc_script.specs.declared.line.Line.{Line}
use Rattle.osc_ends.specs.Sinks.{SinkChange}
use Rattle.osc_lanes.specs.declared.part.LaneTold.{LaneTold}
use Rattle.osc_lanes.specs.Performs.{Part, part_of}
use Rattle.osc_links.specs.declared.run.Hosted.{Hosted}
use Rattle.osc_links.specs.Hosts.{Hosts}
use Rattle.osc_links.specs.Links.{LinkTurn}
use Rattle.osc_links.specs.Ticks.{ClockRead}
use Rattle.osc_relay.specs.declared.outlet.Outlet.{Ghosts}
use Rattle.osc_relay.specs.declared.relay.Relay.{Relay}
use Rattle.osc_relay.specs.Relays.{room_of}
use Rattle.osc_stage.specs.declared.ended.Ended.{Ended}
use Rattle.osc_stage.specs.declared.ended.Ended.TheVariants.{SinkFailed}
use Rattle.osc_stage.specs.declared.stage.Stage.{Stage}
use Rattle.osc_stage.specs.declared.stage.Staged.{Staged}
use Rattle.osc_stage.specs.Ends.{ended_by, HasWritten}
use Rattle.osc_stage.specs.Lines.{added_in}
use Rattle.osc_stage.specs.Sent.{HasSent}

-- the line that adds a method at an address
abbrev pub line_for : List ℕ → Line
line_for address = record { number = 0; lane = 0; act = Add address }

-- whether a line removes a method
abbrev pub is_removal : Act → Bool
is_removal (Remove address) = true
is_removal _ = false

-- no line removes a method
abbrev pub RemoveNone : List Line → Type 0
RemoveNone lines = AllByRecursion (λ line. is_removal line.act ≡ false) lines

-- a line that adds no method
abbrev pub is_other : Line → Bool
is_other line = not (is_add line.act)

-- how what was hosted ended, before the rest of its recording is written
abbrev pub end_of : {M L : Type 0} → Hosted M L → Ended
end_of hosted = ended_by hosted.links.failed hosted.links.clock_failed
    (option_or hosted.opening.stop (option_or hosted.unenrolled hosted.links.stop))

module _ {O : Type 0} {G : Ghosts O} where
  abbrev pub add_line : Relay O G → Line
  add_line relay = line_for relay.address

  -- each relay is added at its own address, in their order
  abbrev pub adds_of : List (Relay O G) → Part (Relay O G)
  adds_of relays = record { lines = map add_line relays; boxes = relays }

  -- the same, and then what these lines do but for their adds
  abbrev pub carried_on : List (Relay O G) → List Line → Part (Relay O G)
  carried_on relays lines =
      record { lines = map add_line relays ++ filter is_other lines; boxes = relays }

  -- each line that adds a method does so at the own address of the relay in its place
  abbrev pub AddsAtOwn : Part (Relay O G) → Type 0
  AddsAtOwn part = added_in part.lines ≡ map (λ relay. relay.address) part.boxes

  -- a relay under an id, as a method at the relay's own address
  abbrev pub method_of : ℕ × Relay O G → Method
  method_of one = record { id = one.0; address = one.1.address }

  -- what the opening left: the boxes that weren't added and that were removed, and its faults
  pub record IsOpened {L : Type 0} (staged : Staged O L G) (opening : LaneTold (Relay O G))
      : Type 0 where
    pub left_are : staged.left.items ≡ opening.back.items
    pub removed_are : staged.removed.items ≡ opening.removed.items
    pub opening_faults_are : staged.opening_faults.items ≡ opening.faults.items

  module _ (keep : Relay O G → Fixed) (heard : Relay O G → Option (List ℕ)) where
    -- The opening was played by caller 0 on one new server, and the links were served. The relays
    -- that are registered at the end come back with their ids; those that weren't added come back
    -- too, and those that the opening removed.
    pub record IsStaged {L : Type 0} (left : L → Option (List LinkTurn)) (faults : L → ℕ)
        (stage : Stage O L G) (clock : ClockRead) (staged : Staged O L G) : Type 0 where
      pub hosted : Hosted (Relay O G) L
      pub hosts : Hosts left faults keep heard stage.caps stage.links.bounds
          (part_of stage.opening) stage.links.from.items clock hosted
      pub recording_is : staged.recording.items ≡ hosted.closed.bytes.items
      pub relays_are : staged.relays.items ≡ hosted.closed.kept.items
      pub opened : IsOpened staged hosted.opening
      pub none_removed : RemoveNone stage.opening.lines.items → staged.removed.items ≡ []
      pub links_are : staged.links.items ≡ hosted.links.links.items
      pub faults_are : staged.faults.items ≡ hosted.links.faults.items
      pub ended_is : (staged.ended ≡ end_of hosted) ⊎ (staged.ended ≡ SinkFailed)

    module _ (sent : O → Option (List (List ℕ))) (losses : O → ℕ) where
      -- Where the calls of a relay's id have fewer bytes than the relay keeps, each of its outlets
      -- has sent them.
      abbrev pub HaveSent : List Invocation → ℕ × Relay O G → Type 0
      HaveSent invocations one = length (calls_bytes invocations one.0) < (keep one.1).most
          → All (λ outlet. HasSent invocations one.0 one.1.address (room_of one.1) (sent outlet)
          (losses outlet)) one.1.outlets.items

      -- There is one history, which is legal and keeps the four laws. Each method that is
      -- registered at its end has its relay, which has heard its calls, and sent them. Where the
      -- opening adds each relay at its own address, the relays are these methods, each at its own
      -- address. The sink has gained the recording of this history, or a front of it where it
      -- failed.
      pub record RecordsStage {L : Type 0} (stage : Stage O L G) (staged : Staged O L G)
          (rec : SinkChange) : Type 0 where
        pub history : List Entry
        pub legal : Legal stage.caps history
        pub laws : KeepsTheLaws stage.caps history
        pub have_heard : HaveHeard (record { caps = stage.caps; history = history })
            (told keep heard staged.relays.items)
        pub have_sent : AllByRecursion (HaveSent (invocations (opening stage.caps) history))
            staged.relays.items
        pub standing : AddsAtOwn (part_of stage.opening)
            → map method_of staged.relays.items ≡ (after (opening stage.caps) history).methods
        pub recording : staged.recording.items ≡ record_text stage.caps history
        pub written : HasWritten staged.ended rec (record_text stage.caps history)
