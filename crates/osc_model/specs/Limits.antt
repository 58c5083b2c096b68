-- The limits of a server's tables and of its recording, and what becomes of late units.
use Rattle.std.specs.Prelude.{ℕ, ◌≤◌, Bool, ◌&&◌, nat_le, if◌then◌else◌, Option, Some, None}
use Rattle.osc_model.specs.declared.late.Late.{Late}
use Rattle.osc_model.specs.declared.limits.Limits as declared

-- the fields of `Limits` in src/limits.rt
abbrev pub Limits : Type 0
Limits = declared.Limits

-- the six limits and the policy, in this order
abbrev pub limits_of : ℕ → ℕ → ℕ → ℕ → ℕ → ℕ → Late → Limits
limits_of units blocks methods nodes callers recording late = record {
  units = units;
  blocks = blocks;
  methods = methods;
  nodes = nodes;
  callers = callers;
  recording = recording;
  late = late;
}

-- the most queued units, blocks or nodes
abbrev pub max_reserved : ℕ
max_reserved = 1048576

-- the most methods
abbrev pub max_methods : ℕ
max_methods = 65536

-- the most callers
abbrev pub max_callers : ℕ
max_callers = 1024

-- how many bytes the header of a recording has
abbrev pub header_size : ℕ
header_size = 60

-- how many bytes the entry of a release has ahead of its hits, which have 8 each
abbrev pub release_head_size : ℕ
release_head_size = 44

-- the most bytes of a recording
abbrev pub max_recording : ℕ
max_recording = 1073741824

-- a number in a range, both ends included
pub record IsWithin (least most number : ℕ) : Type 0 where
  pub above : least ≤ number
  pub below : number ≤ most

-- each limit is in its range
pub record AreInRange (limits : Limits) : Type 0 where
  pub units : IsWithin 1 max_reserved limits.units
  pub blocks : IsWithin 1 max_reserved limits.blocks
  pub methods : IsWithin 1 max_methods limits.methods
  pub nodes : IsWithin 1 max_reserved limits.nodes
  pub callers : IsWithin 1 max_callers limits.callers
  pub recording : IsWithin header_size max_recording limits.recording

-- the number is in the range
abbrev pub is_within : ℕ → ℕ → ℕ → Bool
is_within least most number = nat_le least number && nat_le number most

-- the first limit outside its range, counted from 1
abbrev pub limit_fault : Limits → Option ℕ
limit_fault limits =
    if is_within 1 max_reserved limits.units then
    if is_within 1 max_reserved limits.blocks then
    if is_within 1 max_methods limits.methods then
    if is_within 1 max_reserved limits.nodes then
    if is_within 1 max_callers limits.callers then
    if is_within header_size max_recording limits.recording then None else Some 6
    else Some 5 else Some 4 else Some 3 else Some 2 else Some 1
