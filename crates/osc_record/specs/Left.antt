-- The entries that an iterator has left.
use Rattle.std.specs.Prelude.{List, drop}
use Rattle.osc_record.specs.declared.event.Entry.{Entry}
use Rattle.osc_record.specs.declared.entries_left.Entries.{Entries}
use Rattle.osc_record.specs.Shown.{event_of, answer_of}
use Rattle.osc_record.specs.Reading.{Placed, placed_in, entries_at}

-- an entry at its place
abbrev pub placed_of : Entry → Placed
placed_of entry =
    record {
      at = entry.at;
      entry = record {
        caller = entry.caller;
        event = event_of entry.event;
        answer = answer_of entry.answer;
      };
    }

-- those from the place on
abbrev pub entries_left : Entries → List Placed
entries_left entries =
    placed_in (entries_at entries.version entries.limit entries.at
    (drop entries.at entries.bytes.now))
