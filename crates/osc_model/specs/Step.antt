-- The rules of the server: what an event is answered, and what it leaves.
use Rattle.std.specs.Prelude.{ℕ, ◌+◌, ◌-◌, ◌==◌, Bool, true, ◌&&◌, not, max, nat_le, nat_lt}
use Rattle.std.specs.Prelude.{if◌then◌else◌, List, [], ◌∷◌, ◌++◌, length, map, filter, Option, Some}
use Rattle.std.specs.Prelude.{None, is_some}
use Rattle.osc_model.specs.declared.late.Late.{Late}
use Rattle.osc_model.specs.declared.late.Late.TheVariants.{Deliver, Discard}
use Rattle.osc_pattern.specs.Methods.{Method}
use Rattle.osc_message.specs.Reading.{pattern_of}
use Rattle.osc_message.specs.Arguments.{unknown_of}
use Rattle.osc_packet.specs.Units.{TimedUnit, blocks_of}
use Rattle.osc_packet.specs.Reading.{units_read}
use Rattle.osc_tree.specs.Registry.{id_at, without}
use Rattle.osc_tree.specs.Adding.{Refusal, add_refusal}
use Rattle.osc_tree.specs.Matching.{matching}
use Rattle.osc_queue.specs.Timed.{due_of, unit_of, enter}
use Rattle.osc_model.specs.State.{State, Queued, registry}
use Rattle.osc_model.specs.Counts.{free_places, free_blocks, free_bytes}
use Rattle.osc_model.specs.Recordings.{entry_size}
use Rattle.osc_model.specs.Events.{Event, enrol, submit, add, remove, tick, release, Answer, number}
use Rattle.osc_model.specs.Events.{callers_full, queued, units_full, pool_full, added, refused}
use Rattle.osc_model.specs.Events.{removed, not_there, ticked, clock_back, released, nothing_due}
use Rattle.osc_model.specs.Events.{record_full, adds_entry, Hit, Call, Invocation}

-- what a step gives: the answer, the state after it, and whom it invoked
pub record Stepped : Type 0 where
  pub answer : Answer
  pub state : State
  pub invocations : List Invocation

-- an answer, and the state that it leaves, where nothing is invoked
abbrev pub leaves : State → Answer → Stepped
leaves state answer = record { answer = answer; state = state; invocations = [] }

-- one caller more, up to the limit
abbrev pub enrol_one : State → Stepped
enrol_one state =
    if state.callers == state.caps.callers then leaves state callers_full
    else leaves (record state { callers = state.callers + 1 }) (number state.callers)

-- a unit that waits under its number, and is due at its effective tag or at the clock, whichever is
-- greater
abbrev pub waiting : ℕ → ℕ → TimedUnit → Queued
waiting clock next unit = (max unit.tag clock, next, unit)

-- units take the next numbers in their order
abbrev pub numbered : ℕ → ℕ → List TimedUnit → List Queued
numbered clock next [] = []
numbered clock next (unit ∷ units) = waiting clock next unit ∷ numbered clock (next + 1) units

-- a unit is late at a clock where its effective tag isn't 1 and is below that clock
abbrev pub is_late : ℕ → TimedUnit → Bool
is_late clock unit = not (unit.tag == 1) && nat_lt unit.tag clock

-- whether a unit is kept: each is where late ones are delivered, else each that isn't late
abbrev pub is_kept : Late → ℕ → TimedUnit → Bool
is_kept Deliver clock unit = true
is_kept Discard clock unit = not (is_late clock unit)

-- the units that are kept
abbrev pub kept : Late → ℕ → List TimedUnit → List TimedUnit
kept late clock units = filter (is_kept late clock) units

-- those of them, each under its number, which is counted over all units
abbrev pub kept_numbered : Late → ℕ → ℕ → List TimedUnit → List Queued
kept_numbered late clock next units =
    filter (λ item. is_kept late clock item.2) (numbered clock next units)

-- the units of a packet that are kept in a state
abbrev pub kept_units : State → List TimedUnit → List TimedUnit
kept_units state units = kept state.caps.late state.clock units

-- how many of them are not
abbrev pub late_count : State → List TimedUnit → ℕ
late_count state units = length units - length (kept_units state units)

-- units enter the queue one after another
abbrev pub enter_all : List Queued → List Queued → List Queued
enter_all [] queue = queue
enter_all (unit ∷ units) queue = enter_all units (enter unit queue)

-- all units take the next numbers, and those that are kept enter the queue
abbrev pub after_submit : State → List TimedUnit → State
after_submit state units =
    record state {
      queue = enter_all (kept_numbered state.caps.late state.clock state.next_unit units)
          state.queue;
      next_unit = state.next_unit + length units;
    }

-- where there is a place for each unit that is kept, and blocks for all their messages, they are
-- queued
abbrev pub submit_kept : State → List TimedUnit → List TimedUnit → Stepped
submit_kept state units keeps =
    if nat_lt (free_places state) (length keeps)
    then leaves state (units_full (record { need = length keeps; free = free_places state }))
    else (if nat_lt (free_blocks state) (blocks_of keeps)
    then leaves state (pool_full (record { need = blocks_of keeps; free = free_blocks state }))
    else leaves (after_submit state units)
    (queued state.next_unit (length units) (length units - length keeps)))

abbrev pub submit_units : State → List TimedUnit → Stepped
submit_units state units = submit_kept state units (kept_units state units)

-- a method that is added stands last, under the next id
abbrev pub add_at : State → List ℕ → Option Refusal → Stepped
add_at state address (Some refusal) = leaves state (refused refusal)
add_at state address None =
    leaves (record state {
      methods = state.methods
          ++ record { id = state.next_id; address = address } ∷ [];
      next_id = state.next_id + 1;
    })
    (added state.next_id)

-- the method with the id that was found at an address leaves
abbrev pub remove_at : State → List ℕ → Option ℕ → Stepped
remove_at state address None = leaves state not_there
remove_at state address (Some id) =
    leaves (record state { methods = without state.methods address }) (removed id)

-- the clock goes on, and never back
abbrev pub tick_to : State → ℕ → Stepped
tick_to state now =
    if nat_lt now state.clock then leaves state (clock_back state.clock)
    else leaves (record state { clock = now }) ticked

-- the calls of the methods that a message matches, which is the unit's message at an index
abbrev pub matching_calls : List Method → ℕ → List ℕ → List Call
matching_calls methods index message =
    map (λ method.
    record { index = index; id = method.id; address = method.address; message = message })
    (matching (pattern_of message) methods)

-- a message with an unknown tag invokes nothing
abbrev pub calls_of : List Method → ℕ → List ℕ → List Call
calls_of methods index message = if is_some (unknown_of message) then []
    else matching_calls methods index message

-- those of messages that stand from an index on
abbrev pub calls_from : List Method → ℕ → List (List ℕ) → List Call
calls_from methods index [] = []
calls_from methods index (message ∷ messages) =
    calls_of methods index message ++ calls_from methods (index + 1) messages

-- the calls of a unit's messages, counted from 0
abbrev pub calls_of_unit : List Method → Queued → List Call
calls_of_unit methods unit = calls_from methods 0 unit.2.messages

-- which message of the unit and which method, of each call
abbrev pub hits_of : List Call → List Hit
hits_of calls = map (λ call. record { index = call.index; id = call.id }) calls

-- the calls, each with its unit's number
abbrev pub invocations_of : ℕ → List Call → List Invocation
invocations_of unit calls = map (λ call. record { unit = unit; call = call }) calls

-- a unit leaves the queue, and its messages are invoked
abbrev pub releases : State → Queued → List Queued → Stepped
releases state unit others =
    let calls = calls_of_unit state.methods unit in
    record {
      answer = released (unit_of unit) (hits_of calls);
      state = record state { queue = others };
      invocations = invocations_of (unit_of unit) calls;
    }

-- the first unit of the queue is released, if it is due
abbrev pub release_first : State → List Queued → Stepped
release_first state [] = leaves state (nothing_due None)
release_first state (unit ∷ units) =
    if nat_le (due_of unit) state.clock then releases state unit units
    else leaves state (nothing_due (Some (due_of unit)))

-- what an event is answered, and what it leaves, as long as there is room for its entry
abbrev pub decided : State → Event → Stepped
decided state enrol = enrol_one state
decided state (submit packet) = submit_units state (units_read packet)
decided state (add address) = add_at state address (add_refusal (registry state) address)
decided state (remove address) = remove_at state address (id_at state.methods address)
decided state (tick now) = tick_to state now
decided state release = release_first state state.queue

-- an entry of so many bytes is recorded where there is room for it; else all stays
abbrev pub recorded_as : State → ℕ → Stepped → Stepped
recorded_as state size stepped =
    if nat_lt (free_bytes state) size
    then leaves state (record_full (record { need = size; free = free_bytes state }))
    else record stepped { state = record stepped.state { recorded = state.recorded + size } }

-- One event, on a state. The entry of an add, of a remove and of a submit has one size, whatever
-- the answer is. Where nothing is due there is no entry.
abbrev pub step : State → Event → Stepped
step state event =
    let stepped = decided state event in
    if adds_entry stepped.answer then recorded_as state (entry_size event stepped.answer) stepped
    else stepped
