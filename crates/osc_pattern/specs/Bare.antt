-- Bytes at which a pattern can have a fault.
use Rattle.std.specs.Prelude.{ℕ, Bool, ◌||◌, ◌==◌}
use Rattle.osc_pattern.specs.Patterns.{is_outside}

-- a byte that no pattern has, or that opens a bracket
abbrev pub is_odd : ℕ → Bool
is_odd byte = is_outside byte || (byte == 91 || byte == 123)
