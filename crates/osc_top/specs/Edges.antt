-- What failed of links and a clock, and the line on it.
use Rattle.std.specs.Prelude.{ℕ, List, ◌++◌}
use Rattle.osc_edge.specs.Faults.{Rose}
use Rattle.osc_links.specs.Faults.{HasLinkRisen}
use Rattle.osc_links.specs.Ticks.{ClockRead}
use Rattle.osc_ends.specs.declared.outcome.Outcome.{Outcome}
use Rattle.osc_ends.specs.declared.outcome.Outcome.TheVariants.{LinkFailed, ClockFailed}
use Rattle.osc_ends.specs.Printing.{last_text}
use Rattle.osc_ends.specs.Sinks.{SinkChange, Gains}

module _ {L : Type 0} (faults : L → ℕ) where
  -- the outcome is a failure, and the count of faults rose of what it names
  abbrev pub HasRisen : Outcome → List L → List L → ClockRead → Type 0
  HasRisen (LinkFailed link) links links_after clock = HasLinkRisen faults link links links_after
  HasRisen ClockFailed links links_after clock = Rose clock.faults clock.now
  HasRisen _ links links_after clock = ⊥

  -- A link failed, or the clock did: its count of faults rose, and the last line of what was
  -- printed names it.
  pub record TellsEdge (links links_after : List L) (clock : ClockRead) (out : SinkChange)
      : Type 0 where
    pub outcome : Outcome
    pub text : List ℕ
    pub risen : HasRisen outcome links links_after clock
    pub told : Gains out (text ++ last_text outcome)
