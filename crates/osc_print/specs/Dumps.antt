-- A dump: the limits of a recording, and its entries, each after its place.
use Rattle.std.specs.Prelude.{ℕ, ◌/◌, ◌^◌, List, [], ◌++◌, codes}
use Rattle.std.specs.List.{flat_map}
use Rattle.std.specs.Fmt.{decimal}
use Rattle.osc_model.specs.declared.late.Late.{Late}
use Rattle.osc_model.specs.declared.late.Late.TheVariants.{Deliver, Discard}
use Rattle.osc_model.specs.Limits.{Limits, header_size}
use Rattle.osc_model.specs.Events.{Event, tick, Entry}
use Rattle.osc_record.specs.Reading.{Placed, placed_from}
use Rattle.osc_print.specs.Words.{spaced}
use Rattle.osc_print.specs.Lines.{line}
use Rattle.osc_print.specs.Entries.{entry_words}
use Rattle.osc_print.specs.Dates.{date_text}

-- the word for what becomes of late units
abbrev pub policy_word : Late → List ℕ
policy_word Deliver = codes "deliver"
policy_word Discard = codes "discard"

-- the version of the format, the limits, and what becomes of late units
abbrev pub limits_text : Limits → List ℕ
limits_text limits =
    line (codes "rec 2" ++ spaced (decimal limits.units) ++ spaced (decimal limits.blocks)
    ++ spaced (decimal limits.methods) ++ spaced (decimal limits.nodes)
    ++ spaced (decimal limits.callers) ++ spaced (decimal limits.recording)
    ++ spaced (policy_word limits.late))

-- after a tick the date of its moment's seconds
abbrev pub date_after : Event → List ℕ
date_after (tick moment) = spaced (date_text (moment / 2 ^ 32))
date_after _ = []

-- the line of an entry, after its place in the recording
abbrev pub placed_text : Placed → List ℕ
placed_text placed =
    line (decimal placed.at ++ spaced (entry_words placed.entry)
    ++ date_after placed.entry.event)

-- the dump of a recording with these limits and entries, whether a server made it or not
abbrev pub dumped : Limits → List Entry → List ℕ
dumped limits entries = limits_text limits ++ flat_map placed_text (placed_from header_size entries)
