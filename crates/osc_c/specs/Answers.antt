-- What the answers of the rules are in C.
use Rattle.std.specs.Prelude.{ℕ, length, Option, Some, None}
use Rattle.osc_atoms.specs.declared.fault.Fault.{Fault}
use Rattle.osc_tree.specs.Adding.{Refusal, taken, under_method, is_container, methods_full}
use Rattle.osc_tree.specs.Adding.{nodes_full}
use Rattle.osc_model.specs.Events as model
use Rattle.osc_model.specs.Events.{number, callers_full, queued, units_full, pool_full, added}
use Rattle.osc_model.specs.Events.{refused, removed, not_there, ticked, clock_back, released}
use Rattle.osc_model.specs.Events.{nothing_due, record_full}
use Rattle.osc_c.specs.declared.answer.Answer.{Answer}

-- a number alone
abbrev pub bare : ℕ → Answer
bare status = record {
  status = status;
  number = 0;
  unit = 0;
  count = 0;
  late = 0;
  need = 0;
  free = 0;
}

-- too little room
abbrev pub wanting : ℕ → ℕ → ℕ → Answer
wanting status need free = record {
  status = status;
  number = 0;
  unit = 0;
  count = 0;
  late = 0;
  need = need;
  free = free;
}

-- why an address isn't added
abbrev pub why : Refusal → Answer
why (taken id) = record (bare 5) { number = id }
why (under_method id) = record (bare 6) { number = id }
why is_container = bare 7
why (methods_full limit) = record (bare 8) { number = limit }
why (nodes_full need free) = wanting 9 need free

-- an answer of the rules
abbrev pub shown : model.Answer → Answer
shown (number caller) = record (bare 0) { number = caller }
shown callers_full = bare 20
shown (queued first count late) = record (bare 0) { unit = first; count = count; late = late }
shown (units_full room) = wanting 3 room.need room.free
shown (pool_full room) = wanting 4 room.need room.free
shown (added id) = record (bare 0) { number = id }
shown (refused refusal) = why refusal
shown (removed id) = record (bare 0) { number = id }
shown not_there = bare 10
shown ticked = bare 0
shown (clock_back clock) = record (bare 11) { unit = clock }
shown (released unit hits) = record (bare 0) { unit = unit; count = length hits }
shown (nothing_due None) = bare 1
shown (nothing_due (Some next)) = record (bare 1) { unit = next }
shown (record_full room) = wanting 2 room.need room.free

-- the moment at which the next unit is due, where one waits
abbrev pub due_answer : Option ℕ → Answer
due_answer None = bare 1
due_answer (Some moment) = record (bare 0) { unit = moment }

-- a fault of a packet
abbrev pub faulty : Fault → Answer
faulty fault = record (bare 12) { number = fault.kind; unit = fault.at }
