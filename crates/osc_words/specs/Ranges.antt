-- The numbers of a command lie in the ranges of their options.
use Rattle.std.specs.Prelude.{ℕ, ◌+◌, ◌≤◌}
use Rattle.osc_model.specs.declared.late.Late.TheVariants.{Deliver}
use Rattle.osc_words.specs.Options.{IsInRange, row_of}
use Rattle.osc_words.specs.declared.options.Quantity.TheVariants.{Units, Blocks, Methods, Nodes}
use Rattle.osc_words.specs.declared.options.Quantity.TheVariants.{Recording, Lines, Port, Links}
use Rattle.osc_words.specs.declared.options.Quantity.TheVariants.{Count, Idle}
use Rattle.osc_words.specs.declared.command.TheConstants.{PORTS}
use Rattle.osc_words.specs.declared.command.Capacities.{Capacities}
use Rattle.osc_words.specs.declared.command.Reading.{Reading}
use Rattle.osc_words.specs.declared.command.Reading.TheVariants.{Run, Replay, Dump, Upgrade, Score}
use Rattle.osc_words.specs.declared.command.Reading.TheVariants.{PlayScore}
use Rattle.osc_words.specs.declared.command.PlainCommand.{PlainCommand}
use Rattle.osc_words.specs.declared.command.PlainCommand.TheVariants.{Read, Gen}
use Rattle.osc_words.specs.declared.command.LiveCommand.{LiveCommand}
use Rattle.osc_words.specs.declared.command.LiveCommand.TheVariants.{Lanes, Serve}
use Rattle.osc_words.specs.declared.command.ResumeCommand.{ResumeCommand}
use Rattle.osc_words.specs.declared.command.Command.{Command}
use Rattle.osc_words.specs.declared.command.Command.TheVariants.{Plain, Live, Resume}

pub record AreInRange (caps : Capacities) : Type 0 where
  pub units : IsInRange Units caps.units
  pub blocks : IsInRange Blocks caps.blocks
  pub methods : IsInRange Methods caps.methods
  pub nodes : IsInRange Nodes caps.nodes
  pub recording : IsInRange Recording caps.recording

-- what a `serve` has: each link has a port
pub record IsServable (port links count idle : ℕ) (caps : Capacities) : Type 0 where
  pub first_port : IsInRange Port port
  pub link_count : IsInRange Links links
  pub last_port : port + links ≤ PORTS
  pub datagrams : IsInRange Count count
  pub quiets : IsInRange Idle idle
  pub capacities : AreInRange caps

abbrev pub IsLawfulReading : Reading → Type 0
IsLawfulReading (Run output caps) = AreInRange caps
IsLawfulReading Replay = Unit {0}
IsLawfulReading Dump = Unit {0}
IsLawfulReading Upgrade = Unit {0}
IsLawfulReading Score = Unit {0}
IsLawfulReading PlayScore = Unit {0}

abbrev pub IsLawfulPlain : PlainCommand → Type 0
IsLawfulPlain (Read reading) = IsLawfulReading reading
IsLawfulPlain (Gen seed lines) = IsInRange Lines lines

abbrev pub IsLawfulLive : LiveCommand → Type 0
IsLawfulLive (Lanes caps watch) = AreInRange caps
IsLawfulLive (Serve transport port links count idle caps) = IsServable port links count idle caps

abbrev pub IsLawfulResume : ResumeCommand → Type 0
IsLawfulResume command = IsInRange Recording command.room

abbrev pub IsLawful : Command → Type 0
IsLawful (Plain command) = IsLawfulPlain command
IsLawful (Live command) = IsLawfulLive command
IsLawful (Resume command) = IsLawfulResume command

-- the capacities where no option is given
abbrev pub default_capacities : Capacities
default_capacities =
    record {
      units = (row_of Units).default;
      blocks = (row_of Blocks).default;
      methods = (row_of Methods).default;
      nodes = (row_of Nodes).default;
      recording = (row_of Recording).default;
      late = Deliver;
    }
