-- Calls whose messages have lengths that C is told in 32 bits.
use Rattle.std.specs.Prelude.{Bool, nat_lt, length}
use Rattle.osc_core.specs.Invoked.{Call}

-- the length of its message fits 32 bits
abbrev pub is_short : Call → Bool
is_short call = nat_lt (length call.message) 4294967296
