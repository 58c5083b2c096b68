-- How each command of many threads ends.
use Rattle.std.specs.Prelude.{◌≡◌, ◌⊎◌, ℕ, Bool, List, length, Option}
use Rattle.osc_method.specs.Heard.{Fixed}
use Rattle.osc_links.specs.Links.{LinkTurn}
use Rattle.osc_links.specs.Ticks.{ClockRead}
use Rattle.osc_script.specs.declared.line.Line.{Line}
use Rattle.osc_words.specs.declared.command.Capacities.{Capacities}
use Rattle.osc_words.specs.declared.command.LiveCommand.{LiveCommand}
use Rattle.osc_words.specs.declared.command.LiveCommand.TheVariants as live
use Rattle.osc_ends.specs.declared.status.TheConstants.{DONE, EDGE_FAILED, NO_MEMORY}
use Rattle.osc_ends.specs.declared.status.TheConstants.{RECORDING_FULL}
use Rattle.osc_ends.specs.declared.outcome.Outcome.{Outcome}
use Rattle.osc_top.specs.Commands.{mode_of}
use Rattle.osc_ends.specs.Ends.{IsUnplayed}
use Rattle.osc_top.specs.Lanes.{PlaysLanes}
use Rattle.osc_top.specs.Live.{EndsLive}
use Rattle.osc_top.specs.Commands.{live_limits}
use Rattle.osc_top.specs.Served.{PlaysLinks}
use Rattle.osc_ends.specs.Sinks.{SinkChange}

-- the result of playing lines: lanes are played, or links are served, on the server that the words
-- say, of which these boxes, links and inputs were handed in, and this came back
abbrev pub plays_of : {M L : Type 0} → (M → Fixed) → (M → Option (List ℕ))
    → (L → Option (List LinkTurn)) → (L → ℕ) → LiveCommand → List M → List (ℕ × M) → List M
    → List L → List L → ClockRead → List Line → List ℕ → List ℕ → Outcome → Type 0
plays_of keep heard left faults (live.Lanes caps watch) bank boxes_heard boxes_left links
    links_after clock lines recording text outcome =
    PlaysLanes keep heard (live_limits caps) watch bank boxes_heard boxes_left lines recording
    text outcome
plays_of keep heard left faults (live.Serve transport port ports count idle caps) bank
    boxes_heard boxes_left links links_after clock lines recording text outcome =
    PlaysLinks keep heard left faults (live_limits caps) (record { count = count; idle = idle })
    bank links clock boxes_heard boxes_left links_after lines recording text outcome

-- how a command ends, by its status and its script
abbrev pub EndsCommand : {M L : Type 0} → (M → Fixed) → (M → Option (List ℕ))
    → (L → Option (List LinkTurn)) → (L → ℕ) → LiveCommand → ℕ → List ℕ → List M → List (ℕ × M)
    → List M → List L → List L → ClockRead → SinkChange → SinkChange → Type 0
EndsCommand keep heard left faults command status script bank boxes_heard boxes_left links
    links_after clock rec out =
    EndsLive (mode_of command)
    (plays_of keep heard left faults command bank boxes_heard boxes_left links links_after clock)
    status script (length bank) rec out

-- how a command may end that has enough boxes, and whose input and sinks don't fail
abbrev pub MayEnd : LiveCommand → ℕ → Type 0
MayEnd (live.Lanes caps watch) status =
    (status ≡ DONE) ⊎ (status ≡ NO_MEMORY) ⊎ (status ≡ RECORDING_FULL)
MayEnd (live.Serve transport port links count idle caps) status =
    (status ≡ DONE) ⊎ (status ≡ NO_MEMORY) ⊎ (status ≡ RECORDING_FULL)
    ⊎ (status ≡ EDGE_FAILED)

-- Where nothing was played, the links, the clock and the sink of the recording are as they were.
-- Lanes leave links and clock as they were.
pub record LeavesAlone {L C R : Type 0} (command : LiveCommand) (status : ℕ)
    (links links_after : List L) (clock clock_after : C) (rec rec_after : R) : Type 0 where
  pub unrecorded : IsUnplayed status → rec_after ≡ rec
  pub unserved : IsUnplayed status → (links_after ≡ links) × (clock_after ≡ clock)
  pub lanes_serve_none : (caps : Capacities) (watch : Bool) → command ≡ live.Lanes caps watch
      → (links_after ≡ links) × (clock_after ≡ clock)
