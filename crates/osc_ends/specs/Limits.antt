-- The limits of the programs' servers.
use Rattle.std.specs.Prelude.{ℕ}
use Rattle.osc_model.specs.Limits.{Limits}
use Rattle.osc_words.specs.declared.command.Capacities.{Capacities}

-- those of a server of these capacities, with so many callers
abbrev pub limits_for : ℕ → Capacities → Limits
limits_for callers caps =
    record {
      units = caps.units;
      blocks = caps.blocks;
      methods = caps.methods;
      nodes = caps.nodes;
      callers = callers;
      recording = caps.recording;
      late = caps.late;
    }
