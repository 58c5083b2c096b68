-- Which units a history queues, and which it releases.
use Rattle.std.specs.Prelude.{ℕ, zero, suc, ◌+◌, not, List, [], ◌∷◌, ◌++◌, take, filter}
use Rattle.osc_packet.specs.Reading.{units_read}
use Rattle.osc_model.specs.State.{State, Queued}
use Rattle.osc_model.specs.Events.{Event, submit, Answer, queued, released, Entry}
use Rattle.osc_model.specs.Step.{step, is_kept, numbered, kept_numbered}

-- the units that an event queues, by what it is answered
abbrev pub queued_by : Answer → State → Event → List Queued
queued_by (queued first count late) state (submit packet) =
    kept_numbered state.caps.late state.clock state.next_unit (units_read packet)
queued_by _ state event = []

abbrev pub entering : State → Event → List Queued
entering state event = queued_by (step state event).answer state event

-- the units that an event numbers and doesn't queue, since they are late
abbrev pub dropped_by : Answer → State → Event → List Queued
dropped_by (queued first count late) state (submit packet) =
    filter (λ item. not (is_kept state.caps.late state.clock item.2))
    (numbered state.clock state.next_unit (units_read packet))
dropped_by _ state event = []

abbrev pub dropping : State → Event → List Queued
dropping state event = dropped_by (step state event).answer state event

-- the unit that an event releases, by what it is answered: the first of the queue, or none
abbrev pub released_by : Answer → List Queued → List Queued
released_by (released unit hits) queue = take 1 queue
released_by _ queue = []

abbrev pub leaving : State → Event → List Queued
leaving state event = released_by (step state event).answer state.queue

-- so many numbers, from the first on
abbrev pub numbers_from : ℕ → ℕ → List ℕ
numbers_from first zero = []
numbers_from first (suc count) = first ∷ numbers_from (first + 1) count

-- the numbers that an answer gives to units
abbrev pub queued_in : Answer → List ℕ
queued_in (queued first count late) = numbers_from first count
queued_in _ = []

-- the number of the unit that an answer says was released, or none
abbrev pub released_in : Answer → List ℕ
released_in (released unit hits) = unit ∷ []
released_in _ = []

-- the units that a history queues, in their order
abbrev pub all_entering : State → List Entry → List Queued
all_entering state [] = []
all_entering state (entry ∷ entries) =
    entering state entry.event ++ all_entering (step state entry.event).state entries

-- the units that a history drops, in their order
abbrev pub all_dropping : State → List Entry → List Queued
all_dropping state [] = []
all_dropping state (entry ∷ entries) =
    dropping state entry.event ++ all_dropping (step state entry.event).state entries

-- the units that a history releases, in their order
abbrev pub all_leaving : State → List Entry → List Queued
all_leaving state [] = []
all_leaving state (entry ∷ entries) =
    leaving state entry.event ++ all_leaving (step state entry.event).state entries
