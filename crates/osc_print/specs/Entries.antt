-- The printed lines of entries and of invocations.
use Rattle.std.specs.Prelude.{ℕ, ◌==◌, if◌then◌else◌, List, [], ◌++◌, length, codes}
use Rattle.std.specs.Fmt.{decimal}
use Rattle.hex.specs.Hex.{encode_lower}
use Rattle.osc_atoms.specs.Atoms.{tag}
use Rattle.osc_tree.specs.Adding.{Refusal, taken, under_method, is_container, methods_full}
use Rattle.osc_tree.specs.Adding.{nodes_full}
use Rattle.osc_model.specs.Events.{Event, enrol, add, remove, submit, tick, release, Answer, number}
use Rattle.osc_model.specs.Events.{callers_full, queued, units_full, pool_full, added, refused}
use Rattle.osc_model.specs.Events.{removed, not_there, ticked, clock_back, released, Entry}
use Rattle.osc_model.specs.Events.{Invocation}
use Rattle.osc_print.specs.Words.{spaced}
use Rattle.osc_print.specs.Lines.{line, call_text}

-- a word and a number
abbrev pub named : List ℕ → ℕ → List ℕ
named word value = word ++ spaced (decimal value)

-- a word, how much is needed, and how much is free
abbrev pub named_room : List ℕ → ℕ → ℕ → List ℕ
named_room word need free = word ++ (spaced (decimal need) ++ spaced (decimal free))

-- after a packet that is queued, how many of its units are dropped, where some are
abbrev pub late_words : ℕ → List ℕ
late_words late = if late == 0 then [] else spaced (named (codes "late") late)

-- a moment, in 16 digits
abbrev pub moment_word : ℕ → List ℕ
moment_word moment = encode_lower (tag moment)

-- why an address isn't added
abbrev pub refusal_words : Refusal → List ℕ
refusal_words (taken id) = named (codes "taken") id
refusal_words (under_method id) = named (codes "under-method") id
refusal_words is_container = codes "is-container"
refusal_words (methods_full limit) = named (codes "methods-full") limit
refusal_words (nodes_full need free) = named_room (codes "nodes-full") need free

-- what an event is answered, in words
abbrev pub answer_words : Answer → List ℕ
answer_words (number caller) = decimal caller
answer_words callers_full = codes "full"
answer_words (queued first count late) =
    named_room (codes "queued") first count ++ late_words late
answer_words (units_full room) = named_room (codes "units-full") room.need room.free
answer_words (pool_full room) = named_room (codes "pool-full") room.need room.free
answer_words (added id) = named (codes "id") id
answer_words (refused refusal) = refusal_words refusal
answer_words (removed id) = named (codes "id") id
answer_words not_there = codes "not-there"
answer_words ticked = codes "ticked"
answer_words (clock_back clock) = codes "clock-back" ++ spaced (moment_word clock)
answer_words (released unit hits) = decimal unit ++ spaced (decimal (length hits))
answer_words _ = []

-- an event's word, its caller and what is handed in
abbrev pub event_words : ℕ → Event → List ℕ
event_words caller enrol = named (codes "enrol") caller
event_words caller (submit packet) = named (codes "submit") caller
event_words caller (add address) = named (codes "add") caller ++ spaced address
event_words caller (remove address) = named (codes "remove") caller ++ spaced address
event_words caller (tick moment) = named (codes "tick") caller ++ spaced (moment_word moment)
event_words caller release = named (codes "release") caller

-- an entry in words
abbrev pub entry_words : Entry → List ℕ
entry_words entry = event_words entry.caller entry.event ++ spaced (answer_words entry.answer)

-- its line
abbrev pub event_line : Entry → List ℕ
event_line entry = line (entry_words entry)

-- the line of an invocation
abbrev pub invocation_text : Invocation → List ℕ
invocation_text invocation =
    call_text invocation.unit invocation.call.index invocation.call.id invocation.call.address
    invocation.call.message
