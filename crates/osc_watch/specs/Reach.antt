-- How far the one list of edits was reached.
use Rattle.std.specs.Prelude.{nat_lt, if◌then◌else◌}
use Rattle.osc_watch.specs.declared.reached.Reached.{Reached}

-- the longer of two beginnings
abbrev pub longer : Reached → Reached → Reached
longer one other = if nat_lt one.edits other.edits then other else one
