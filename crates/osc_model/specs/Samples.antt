-- Limits that the examples have.
use Rattle.std.specs.Prelude.{ℕ}
use Rattle.osc_model.specs.declared.late.Late.TheVariants.{Deliver}
use Rattle.osc_model.specs.Limits.{Limits, limits_of}

-- as little as a server may have, but for its callers and its recording
abbrev pub least_limits : ℕ → ℕ → Limits
least_limits callers recording = limits_of 1 1 1 1 callers recording Deliver

-- what a server has where no option is given, but for its callers
abbrev pub usual_limits : ℕ → Limits
usual_limits callers = limits_of 4096 16384 1024 4096 callers 67108864 Deliver
