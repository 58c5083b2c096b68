-- Which lines are shown.
use Rattle.std.specs.Prelude.{ℕ, Bool, true, false, ◌&&◌, ◌||◌, List, [], ◌∷◌}
use Rattle.std.specs.Prelude.{Option, Some, None, is_some}
use Rattle.std.specs.List.{list_any}
use Rattle.osc_message.specs.Reading.{pattern_of}
use Rattle.osc_shown.specs.declared.look.Look.{Look}
use Rattle.osc_report.specs.declared.options.Options.{Options}
use Rattle.osc_report.specs.Selections.{selects}
use Rattle.osc_report.specs.Windows.{is_from, is_to}

-- all lines that look so
abbrev pub all_lines : Look → Bool → Options
all_lines look ticks = record {
  look = look;
  relative = false;
  callers = false;
  ticks = ticks;
  from = None;
  to = None;
  only = None;
  runs = false;
}

-- the same whatever addresses lines have
abbrev pub unfiltered : Options → Options
unfiltered options = record options { only = None }

-- lines may be left out by their moments or addresses
abbrev pub is_part : Options → Bool
is_part options = is_some options.from || is_some options.to || is_some options.only

-- lines of a moment are shown
abbrev pub is_within : Options → ℕ → Bool
is_within options moment = is_from options.from moment && is_to options.to moment

-- a line with an address is shown
abbrev pub is_named : Option (List ℕ) → List ℕ → Bool
is_named None address = true
is_named (Some pattern) address = selects pattern address

-- a line is shown that has any of the patterns of messages
abbrev pub is_any_named : Option (List ℕ) → List (List ℕ) → Bool
is_any_named None messages = true
is_any_named (Some pattern) messages =
    list_any (λ message. selects pattern (pattern_of message)) messages

-- a pattern selects the line of a message that called methods at these addresses: by one of them, or
-- by its own pattern where it called none
abbrev pub selects_call : List ℕ → List ℕ → List (List ℕ) → Bool
selects_call pattern message [] = selects pattern (pattern_of message)
selects_call pattern message (first ∷ more) = list_any (selects pattern) (first ∷ more)

-- the line is shown
abbrev pub is_call_named : Option (List ℕ) → List ℕ → List (List ℕ) → Bool
is_call_named None message places = true
is_call_named (Some pattern) message places = selects_call pattern message places
