-- The result of serving links.
use Rattle.std.specs.Prelude.{◌≡◌, ℕ, Bool, true, false, List, ◌++◌, take, drop, Option, Some, None}
use Rattle.std.specs.List.{flat_map}
use Rattle.std.specs.Option.{option_map, option_or}
use Rattle.osc_atoms.specs.declared.fault.Fault.{Fault}
use Rattle.osc_method.specs.Heard.{Fixed}
use Rattle.osc_model.specs.Limits.{Limits}
use Rattle.osc_model.specs.Events.{Room}
use Rattle.osc_record.specs.Shown.{room_of}
use Rattle.osc_core.specs.Standing.{history_in}
use Rattle.osc_turn.specs.History.{texts}
use Rattle.osc_links.specs.declared.run.Hosted.{Hosted}
use Rattle.osc_links.specs.declared.served.Bounds.{Bounds}
use Rattle.osc_links.specs.Hosts.{Hosts}
use Rattle.osc_links.specs.Links.{LinkTurn}
use Rattle.osc_lanes.specs.Performs.{Part}
use Rattle.osc_links.specs.Ticks.{ClockRead}
use Rattle.osc_print.specs.Lines.{link_fault_text}
use Rattle.osc_replay.specs.Printed.{printed}
use Rattle.osc_script.specs.declared.line.Line.{Line}
use Rattle.osc_ends.specs.declared.outcome.Outcome.{Outcome}
use Rattle.osc_ends.specs.declared.outcome.Outcome.TheVariants.{LinkFailed, ClockFailed}
use Rattle.osc_ends.specs.Outcomes.{stopped}
use Rattle.osc_top.specs.Lanes.{HaveHeardAll}
use Rattle.osc_script.specs.Adds.{count_adds}
use Rattle.osc_ends.specs.Printing.{last_text}

-- a failed link goes before a failed clock, and both before a full recording
abbrev pub served : Option ℕ → Bool → Option Room → Outcome
served (Some link) clock_failed stop = LinkFailed link
served None true stop = ClockFailed
served None false stop = stopped stop

-- the lines of the faults of links' datagrams, in order
abbrev pub link_faults : List (ℕ × ℕ × Fault) → List ℕ
link_faults faults = flat_map (λ one. link_fault_text one.0 one.1 one.2) faults

-- the lines of a script that adds methods, and a box for each
abbrev pub adds_part : {M : Type 0} → List Line → List M → Part M
adds_part lines bank = record { lines = lines; boxes = take (count_adds lines) bank }

module _ {M : Type 0} {L : Type 0} where
  -- The script's lines were played on one new server, and the links were served. The boxes that
  -- were added have heard its one history; the others come back, those of adds that were refused
  -- and then those that no line took. The text is that of the history, then the faults of the
  -- links, and last the line on what went wrong, where something did.
  pub record PlaysLinks (keep : M → Fixed) (heard : M → Option (List ℕ))
      (left : L → Option (List LinkTurn)) (faults : L → ℕ) (caps : Limits) (bounds : Bounds)
      (bank : List M) (links : List L) (clock : ClockRead) (boxes_heard : List (ℕ × M))
      (boxes_left : List M) (links_after : List L) (lines : List Line) (recording text : List ℕ)
      (outcome : Outcome) : Type 0 where
    pub hosted : Hosted M L
    pub hosts : Hosts left faults keep heard caps bounds (adds_part lines bank) links clock hosted
    pub recorded : recording ≡ hosted.closed.bytes.items
    pub boxes : HaveHeardAll keep heard caps hosts.history boxes_heard
    pub links_are : links_after ≡ hosted.links.links.items
    pub left_is : boxes_left
        ≡ hosted.opening.back.items ++ drop (count_adds lines) bank
    pub outcome_is : outcome ≡ served hosted.links.failed hosted.links.clock_failed
        (option_map room_of (option_or hosted.opening.stop
        (option_or hosted.unenrolled hosted.links.stop)))
    pub text_is : text ≡ printed caps (history_in (texts hosts.history))
        ++ (link_faults hosted.links.faults.items ++ last_text outcome)
