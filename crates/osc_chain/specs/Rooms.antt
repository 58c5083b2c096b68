-- How much room what is carried on takes.
use Rattle.std.specs.Prelude.{ℕ, ◌+◌, ◌*◌}
use Rattle.osc_model.specs.Limits.{Limits}

-- how many bytes of recording it takes at most, by the limits of the server
abbrev pub carried_most : Limits → ℕ
carried_most caps = 108 + 299 * caps.methods + 119 * caps.units + 64 * caps.blocks
