-- What the words of the command line say to `plain_top`.
use Rattle.std.specs.Prelude.{ℕ, List}
use Rattle.osc_model.specs.Limits.{Limits, max_recording}
use Rattle.osc_script.specs.declared.line.Line.{Line}
use Rattle.osc_script.specs.declared.script.TheConstants.{MAX_SCRIPT}
use Rattle.osc_score.specs.declared.limits.TheConstants.{MAX_SCORE}
use Rattle.osc_script.specs.Generated.{generated_acts}
use Rattle.osc_script.specs.Written.{numbered}
use Rattle.osc_words.specs.declared.command.Capacities.{Capacities}
use Rattle.osc_words.specs.declared.command.Reading.{Reading}
use Rattle.osc_words.specs.declared.command.Reading.TheVariants.{Run, Replay, Dump, Upgrade}
use Rattle.osc_words.specs.declared.command.Reading.TheVariants.{Score, PlayScore}
use Rattle.osc_words.specs.Ranges.{default_capacities}
use Rattle.osc_ends.specs.Limits.{limits_for}
use Rattle.osc_plain.specs.declared.limits.TheConstants.{PLAIN_CALLERS}

-- how many bytes a command's input may have: a script 64 MiB, a recording 1 GiB, a score 1 MiB
abbrev pub most_bytes : Reading → ℕ
most_bytes (Run output caps) = MAX_SCRIPT
most_bytes Replay = max_recording
most_bytes Dump = max_recording
most_bytes Upgrade = max_recording
most_bytes Score = MAX_SCORE
most_bytes PlayScore = MAX_SCORE

-- the limits of a server that plays a script as caller 0
abbrev pub plain_limits : Capacities → Limits
plain_limits caps = limits_for PLAIN_CALLERS caps

-- the limits of the server that plays a script which was drawn
abbrev pub default_limits : Limits
default_limits = plain_limits default_capacities

-- the lines of the script that is drawn from a seed
abbrev pub drawn_lines : ℕ → ℕ → List Line
drawn_lines seed lines = numbered 1 (generated_acts seed lines)
