-- The look of the examples in laws.
use Rattle.std.specs.Prelude.{Bool, false, None}
use Rattle.osc_shown.specs.declared.look.Look.{Look}

-- by UTC, with colours or without
abbrev pub plain_look : Bool → Look
plain_look colours = record {
  clock = record { ahead = 172_800 };
  since = None;
  caller = None;
  whole = false;
  colours = colours;
  quiet = false;
}
