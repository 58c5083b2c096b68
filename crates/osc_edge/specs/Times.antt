-- Time tags of times since 1970.
use Rattle.std.specs.Prelude.{ℕ, ◌+◌, ◌*◌, ◌/◌, ◌%◌, ◌^◌, nat_lt, if◌then◌else◌, Option, Some, None}
use Rattle.osc_edge.specs.declared.system_clock.TheConstants.{UNIX_SECONDS}

-- whole seconds since 1900 at so many nanoseconds since 1970
abbrev pub seconds_since_1900 : ℕ → ℕ
seconds_since_1900 nanos = nanos / 1_000_000_000 + UNIX_SECONDS

-- the fraction of a second at so many nanoseconds, in parts of 1 / 2 ^ 32, rounded down
abbrev pub fraction_of_second : ℕ → ℕ
fraction_of_second nanos = (nanos % 1_000_000_000) * 2 ^ 32 / 1_000_000_000

-- the time tag at so many nanoseconds since 1970; none where the seconds don't fit 32 bits
abbrev pub time_tag : ℕ → Option ℕ
time_tag nanos = if nat_lt (seconds_since_1900 nanos) (2 ^ 32)
    then Some (seconds_since_1900 nanos * 2 ^ 32 + fraction_of_second nanos) else None
