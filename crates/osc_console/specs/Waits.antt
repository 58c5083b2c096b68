-- How long a clock waits, in nanoseconds.
use Rattle.std.specs.Prelude.{ℕ, ◌+◌, ◌-◌, ◌*◌, ◌/◌, ◌%◌, ◌^◌, min, Option, Some}

abbrev pub second : ℕ
second = 1_000_000_000

-- the nanoseconds of a fraction of a second that is told in 32 bits, rounded up
abbrev pub part_nanos : ℕ → ℕ
part_nanos part = (part * second + (2 ^ 32 - 1)) / 2 ^ 32

-- the nanoseconds of a span between two moments, rounded up
abbrev pub nanos : ℕ → ℕ
nanos span = span / 2 ^ 32 * second + part_nanos (span % 2 ^ 32)

-- from one moment to another; none where it isn't later
abbrev pub span_nanos : ℕ → ℕ → ℕ
span_nanos now next = nanos (next - now)

-- until the next moment, if there is one and the time is known, but never longer than a second
abbrev pub wait_nanos : Option ℕ → Option ℕ → ℕ
wait_nanos (Some next) (Some now) = min (span_nanos now next) second
wait_nanos _ _ = second
