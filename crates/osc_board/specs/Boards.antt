-- What is shown of what is seen.
use Rattle.std.specs.Prelude.{ℕ, List, [], ◌∷◌, length, map, take, Option, Some, None}
use Rattle.osc_pattern.specs.Methods.{Method}
use Rattle.osc_queue.specs.Timed.{Item, due_of, unit_of}
use Rattle.osc_message.specs.Reading.{pattern_of}
use Rattle.osc_page.specs.declared.board.Row.{Row}
use Rattle.osc_page.specs.declared.board.Wait.{Wait}
use Rattle.osc_page.specs.declared.board.Counts.{Counts}
use Rattle.osc_page.specs.Boards.{Shown}
use Rattle.osc_story.specs.declared.totals.Totals.{Totals}
use Rattle.osc_story.specs.Standings.{Handed}
use Rattle.osc_story.specs.Totals.{more, both}
use Rattle.osc_board.specs.declared.board.TheConstants.{MOST_WAITS}
use Rattle.osc_board.specs.declared.last.Last.{Last}
use Rattle.osc_board.specs.Pasts.{Past, row_at}
use Rattle.osc_board.specs.Sights.{Sight, last_of}

-- a method with its last call, after so many calls before
abbrev pub called_row : Method → Last → ℕ → Row
called_row method last before = record {
  id = method.id;
  address = method.address;
  calls = more before last.count;
  at = last.at;
  words = last.words;
}

-- a method that was called in the recordings before alone
abbrev pub past_row : Method → Row → Row
past_row method old = record old { id = method.id; address = method.address }

-- a method that wasn't called
abbrev pub silent_row : Method → Row
silent_row method =
    record { id = method.id; address = method.address; calls = 0; at = 0; words = [] }

-- how often a method was called in the recordings before
abbrev pub calls_of : Option Row → ℕ
calls_of (Some old) = old.calls
calls_of None = 0

-- a method with its last call, if it was called
abbrev pub row_with : Method → Option Last → Option Row → Row
row_with method (Some last) old = called_row method last (calls_of old)
row_with method None (Some old) = past_row method old
row_with method None None = silent_row method

abbrev pub row_of : List Row → List Last → Method → Row
row_of past lasts method =
    row_with method (last_of lasts method.id) (row_at past method.address)

-- the pattern of the first of messages
abbrev pub first_pattern : List (List ℕ) → List ℕ
first_pattern [] = []
first_pattern (message ∷ messages) = pattern_of message

-- a unit that waits
abbrev pub wait_of : Item Handed → Wait
wait_of item =
    record {
      unit = unit_of item;
      due = due_of item;
      messages = length item.2.unit.messages;
      first = first_pattern item.2.unit.messages;
    }

-- how much was told, and how many units wait
abbrev pub counts_of : Totals → ℕ → Counts
counts_of totals waiting =
    record {
      entries = totals.entries;
      messages = totals.messages;
      calls = totals.calls;
      unheard = totals.unheard;
      discarded = totals.discarded;
      refused = totals.refused;
      waiting = waiting;
    }

-- all methods in the order of adding, each with its last call
abbrev pub rows_after : List Row → Sight → List Row
rows_after past sight = map (row_of past sight.lasts) sight.standing.methods

-- what has been shown then
abbrev pub past_after : Past → Sight → Past
past_after past sight = record {
  rows = rows_after past.rows sight;
  totals = both past.totals sight.standing.totals;
}

-- All methods, each with its last call; and the units that wait in the order of their release, so
-- many at most.
abbrev pub board_after : Past → Sight → Shown
board_after past sight =
    record {
      clock = sight.standing.clock;
      counts = counts_of (both past.totals sight.standing.totals)
          (length sight.standing.waiting);
      methods = rows_after past.rows sight;
      waits = map wait_of (take MOST_WAITS sight.standing.waiting);
    }
