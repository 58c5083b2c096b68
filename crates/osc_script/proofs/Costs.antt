-- What events take of a recording, with the releases of the units that they queue.
use Rattle.std.proofs.Common.{◌≡◌, ℕ, ◌+◌, ◌*◌, ◌<◌, ◌≤◌, ◌==◌, Bool, true, false, not, cond, nat_le, nat_lt, List, [], ◌∷◌, ◌++◌, length, length-append}
use Rattle.std.proofs.Common.{Option, Some, None, is_some, sum_by, refl, ap, ◌∙◌, arith}
use Rattle.std.specs.Str.{bytes_eq}
use Rattle.std.proofs.Math.Nat.{mul-le-mul_left}
use Rattle.std.proofs.lemmas.List.{length-map}
use Rattle.std.proofs.lemmas.List.Sums.{sum_by-cons, sum_by-append}
use Rattle.std.proofs.lemmas.List.Sorted.{length_permutation, sum_by-IsPermutation}
use Rattle.osc_message.specs.Reading.{pattern_of}
use Rattle.osc_message.specs.Arguments.{unknown_of}
use Rattle.osc_pattern.specs.Methods.{Method}
use Rattle.osc_pattern.specs.Patterns.{matches}
use Rattle.osc_packet.specs.Units.{TimedUnit, blocks_of}
use Rattle.osc_packet.specs.Reading.{units_read}
use Rattle.osc_queue.specs.Timed.{due_of}
use Rattle.osc_tree.specs.Registry.{id_at}
use Rattle.osc_tree.specs.Adding.{Refusal, add_refusal}
use Rattle.osc_tree.specs.Matching.{matched, matching}
use Rattle.osc_tree.proofs.Orders.{exactly_matching}
use Rattle.osc_tree.proofs.Lists.{filter_few}
use Rattle.osc_model.specs.declared.late.Late.{Late}
use Rattle.osc_model.specs.Limits.{Limits, header_size}
use Rattle.osc_model.specs.State.{State, Queued, opening, registry}
use Rattle.osc_model.specs.Counts.{free_places, free_blocks}
use Rattle.osc_model.specs.Recordings.{entry_size}
use Rattle.osc_model.specs.Events.{Event, enrol, submit, add, remove, tick, release, Answer, number, callers_full, queued, units_full, pool_full, refused}
use Rattle.osc_model.specs.Events.{not_there, ticked, clock_back, nothing_due, record_full, room_in, adds_entry, Room, Hit, Call, Entry}
use Rattle.osc_model.specs.Step.{Stepped, step, decided, leaves, waiting, is_kept, kept_numbered, kept_units, late_count, enter_all, after_submit}
use Rattle.osc_model.specs.Step.{add_at, remove_at, matching_calls, calls_of, calls_from, calls_of_unit, hits_of, releases, release_first}
use Rattle.osc_model.specs.History.{after}
use Rattle.osc_model.proofs.Queues.{all_joined}
use Rattle.osc_model.proofs.Refusals.{decided_none}
use Rattle.osc_model.proofs.Stepping.{step_so}
use Rattle.osc_model.proofs.Changes.{either}
use Rattle.osc_script.specs.Enough.{event_size}

-- The bytes that the releases of units take, where there are at most so many methods.

abbrev unit_cost : ℕ → TimedUnit → ℕ
unit_cost most unit = 44 + 8 * (length unit.messages * most)

abbrev pub units_cost : ℕ → List TimedUnit → ℕ
units_cost most units = sum_by (unit_cost most) units

abbrev queue_cost : ℕ → List Queued → ℕ
queue_cost most queue = sum_by (λ unit. unit_cost most unit.2) queue

-- the units that are kept cost no more than all
kept_cost : (most : ℕ) (late : Late) (clock next : ℕ) (units : List TimedUnit) → queue_cost most (kept_numbered late clock next units) ≤ units_cost most units
kept_cost most late clock next [] = omega arith
kept_cost most late clock next (unit ∷ units) =
    go (is_kept late clock unit) (kept_numbered late clock (next + 1) units) (kept_cost most late clock (next + 1) units) where
      go : (t : Bool) (items : List Queued) → queue_cost most items ≤ units_cost most units
          → queue_cost most (cond t (waiting clock next unit ∷ items) items) ≤ units_cost most (unit ∷ units)
      go true items few =
          omega (
            arith,
            sum_by-cons (λ (unit : Queued). unit_cost most unit.2) (waiting clock next unit) items,
            sum_by-cons (unit_cost most) unit units,
            few,
          )
      go false items few = omega (arith, sum_by-cons (unit_cost most) unit units, few)

entered_cost : (most : ℕ) (late : Late) (clock next : ℕ) (units : List TimedUnit) (queue : List Queued)
    → queue_cost most (enter_all (kept_numbered late clock next units) queue) ≤ units_cost most units + queue_cost most queue
entered_cost most late clock next units queue =
    let cost : Queued → ℕ = λ unit. unit_cost most unit.2 in
    let keeps : List Queued = kept_numbered late clock next units in
    omega (
      arith,
      sum_by-IsPermutation cost (keeps ++ queue) (enter_all keeps queue) (all_joined keeps queue),
      sum_by-append cost keeps queue,
      kept_cost most late clock next units,
    )

pub units_cost_is : (most : ℕ) (units : List TimedUnit) → units_cost most units ≡ 44 * length units + 8 * (sum_by (λ unit. length unit.messages) units * most)
units_cost_is most [] = omega arith
units_cost_is most (unit ∷ units) =
    omega (
      arith,
      sum_by-cons (unit_cost most) unit units,
      ap (λ (n : ℕ). n * most)
          (sum_by-cons (λ (unit : TimedUnit). length unit.messages) unit units),
      units_cost_is most units,
    )

-- A unit's calls are at most its messages times the methods.

matching_few : (pattern : List ℕ) (methods : List Method) → length (matching pattern methods) ≤ length methods
matching_few pattern methods =
    omega (
      arith,
      length_permutation (matched pattern methods) (matching pattern methods) (exactly_matching pattern methods),
      filter_few
          (λ (method : Method). matches pattern method.address) methods,
    )

message_few : (methods : List Method) (index : ℕ) (message : List ℕ) → length (calls_of methods index message) ≤ length methods
message_few methods index message = go (is_some (unknown_of message)) where
  go : (t : Bool) → length (cond t [] (matching_calls methods index message)) ≤ length methods
  go true = omega arith
  go false = omega (
    arith,
    length-map {B = Call} (matching (pattern_of message) methods)
        (λ method. record { index = index; id = method.id; address = method.address; message = message }),
    matching_few (pattern_of message) methods,
  )

calls_few : (methods : List Method) (index : ℕ) (messages : List (List ℕ)) → length (calls_from methods index messages) ≤ length messages * length methods
calls_few methods index [] = omega arith
calls_few methods index (message ∷ messages) =
    omega (
      arith,
      length-append (calls_of methods index message) (calls_from methods (index + 1) messages),
      message_few methods index message,
      calls_few methods
          (index + 1) messages,
    )

hits_few : (most : ℕ) (methods : List Method) (unit : Queued) → length methods ≤ most
    → length (hits_of (calls_of_unit methods unit)) ≤ length unit.2.messages * most
hits_few most methods unit few =
    omega (
      arith,
      length-map {B = Hit} (calls_of_unit methods unit)
          (λ call. record { index = call.index; id = call.id }),
      calls_few methods 0 unit.2.messages,
      mul-le-mul_left (length unit.2.messages) few,
    )

-- What an event takes: the bytes of its entry, and those of the releases of the units that it queues. A release has been
-- paid for.

abbrev pub event_cost : ℕ → Event → ℕ
event_cost most (submit packet) = event_size (submit packet) + units_cost most (units_read packet)
event_cost most release = 0
event_cost most event = event_size event

-- how many methods an event can add
abbrev pub more_methods : Event → ℕ
more_methods (add address) = 1
more_methods event = 0

-- an event that is decided isn't stopped, and its entry and what waits after it take no more than what it takes and what
-- waited before it
record Pays (most : ℕ) (state : State) (event : Event) (stepped : Stepped) : Type 0 where
  pub goes : room_in stepped.answer ≡ None
  pub caps : stepped.state.caps ≡ state.caps
  pub methods : length stepped.state.methods ≤ more_methods event + length state.methods
  pub bytes : adds_entry stepped.answer ≡ true
      → entry_size event stepped.answer + queue_cost most stepped.state.queue ≤ event_cost most event + queue_cost most state.queue

-- what leaves all as it was, but for its own entry
stays : (most : ℕ) (state : State) (event : Event) (answer : Answer) → room_in answer ≡ None
    → (adds_entry answer ≡ true → entry_size event answer ≤ event_cost most event) → Pays most state event (leaves state answer)
stays most state event answer goes own = record { goes = goes; caps = refl; methods = omega arith; bytes = λ some. omega (arith, own some) }

decided_pays : (most : ℕ) (state : State) (event : Event) → length state.methods ≤ most → Pays most state event (decided state event)
decided_pays most state enrol few =
    either (Pays most state enrol) (state.callers == state.caps.callers) (leaves state callers_full)
    (leaves (record state { callers = state.callers + 1 }) (number state.callers))
    (stays most state enrol callers_full refl (λ some. omega arith)) (record { goes = refl; caps = refl; methods = omega arith; bytes = λ some. omega arith })
decided_pays most state (submit packet) few =
    let units = units_read packet in
    let keeps = kept_units state units in
    let places = units_full (record { need = length keeps; free = free_places state }) in
    let pool = pool_full (record { need = blocks_of keeps; free = free_blocks state }) in
    let enter = leaves (after_submit state units) (queued state.next_unit (length units) (late_count state units)) in
    let entered = entered_cost most state.caps.late state.clock state.next_unit units state.queue in
    either (Pays most state (submit packet)) (nat_lt (free_places state) (length keeps)) (leaves state places)
    (cond (nat_lt (free_blocks state) (blocks_of keeps)) (leaves state pool) enter)
    (stays most state (submit packet) places refl (λ some. omega arith))
    (either (Pays most state (submit packet)) (nat_lt (free_blocks state) (blocks_of keeps)) (leaves state pool) enter
    (stays most state (submit packet) pool refl (λ some. omega arith))
    (record { goes = refl; caps = refl; methods = omega arith; bytes = λ some. omega (arith, entered) }))
decided_pays most state (add address) few = go (add_refusal (registry state) address) where
  go : (refusal : Option Refusal) → Pays most state (add address) (add_at state address refusal)
  go (Some refusal) = stays most state (add address) (refused refusal) refl (λ some. omega arith)
  go None = record {
    goes = refl;
    caps = refl;
    methods = omega (arith, length-append state.methods (record { id = state.next_id; address = address } ∷ []));
    bytes = λ some. omega arith;
  }
decided_pays most state (remove address) few = go (id_at state.methods address) where
  go : (found : Option ℕ) → Pays most state (remove address) (remove_at state address found)
  go None = stays most state (remove address) not_there refl (λ some. omega arith)
  go (Some id) =
      record {
        goes = refl;
        caps = refl;
        methods = omega (arith, filter_few (λ (method : Method). not (bytes_eq method.address address)) state.methods);
        bytes = λ some. omega arith;
      }
decided_pays most state (tick now) few =
    either (Pays most state (tick now)) (nat_lt now state.clock) (leaves state (clock_back state.clock)) (leaves (record state { clock = now }) ticked)
    (stays most state (tick now) (clock_back state.clock) refl (λ some. omega arith))
    (record { goes = refl; caps = refl; methods = omega arith; bytes = λ some. omega arith })
decided_pays most state release few = go state.queue refl where
  go : (queue : List Queued) → state.queue ≡ queue → Pays most state release (release_first state queue)
  go [] first = stays most state release (nothing_due None) refl (λ some. absurd (cc))
  go (unit ∷ units) first =
      let later = nothing_due (Some (due_of unit)) in
      let paid = sum_by-cons (λ (unit : Queued). unit_cost most unit.2) unit units in
      either (Pays most state release) (nat_le (due_of unit) state.clock) (releases state unit units) (leaves state later)
      (record {
        goes = refl;
        caps = refl;
        methods = omega arith;
        bytes = λ some. omega (arith, hits_few most state.methods unit few, ap (queue_cost most) first, paid);
      })
      (stays most state release later refl (λ some. absurd (cc)))

-- What a step takes of what is recorded and of what waits; and where it finds no room, the recording is less than both.

-- the bytes that are recorded, and those of the releases of the units that wait
abbrev pub held : ℕ → State → ℕ
held most state = state.recorded + queue_cost most state.queue

pub record Takes (most : ℕ) (state : State) (event : Event) (stepped : Stepped) : Type 0 where
  pub caps : stepped.state.caps ≡ state.caps
  pub methods : length stepped.state.methods ≤ more_methods event + length state.methods
  pub bytes : held most stepped.state ≤ event_cost most event + held most state
  pub full : (room : Room) → record_full room ≡ stepped.answer → state.caps.recording < event_cost most event + held most state

goes_not : (answer : Answer) (room : Room) → room_in answer ≡ None → record_full room ≡ answer → ⊥
goes_not answer room goes is = let clash : Some room ≡ None = ap room_in is ∙ goes in absurd (cc)

pub step_takes : (most : ℕ) (state : State) (event : Event) → length state.methods ≤ most → Takes most state event (step state event)
step_takes most state event few =
    let pays = decided_pays most state event few in
    step_so (Takes most state event) state event
    (record {
      silent = λ none.
          record {
            caps = pays.caps;
            methods = pays.methods;
            bytes = omega (arith, ap (held most) (decided_none state event none));
            full = λ room is. absurd (goes_not (decided state event).answer room pays.goes is);
          };
      full = λ some full.
          record { caps = refl; methods = omega arith; bytes = omega arith; full = λ room is. omega (arith, pays.bytes some) };
      room = λ some fits.
          record {
            caps = pays.caps;
            methods = pays.methods;
            bytes = omega (arith, pays.bytes some);
            full = λ room is. absurd (goes_not (decided state event).answer room pays.goes is);
          };
    })

-- Of a whole history.

-- what entries come to, by their events
abbrev pub spent : (Event → ℕ) → List Entry → ℕ
spent weight entries = sum_by (λ entry. weight entry.event) entries

record Holds (most : ℕ) (state : State) (entries : List Entry) : Type 0 where
  pub caps : (after state entries).caps ≡ state.caps
  pub methods : length (after state entries).methods ≤ spent more_methods entries + length state.methods
  pub bytes : held most (after state entries) ≤ spent (event_cost most) entries + held most state

after_holds : (most : ℕ) (state : State) (entries : List Entry) → spent more_methods entries + length state.methods ≤ most → Holds most state entries
after_holds most state [] few = record { caps = refl; methods = omega arith; bytes = omega arith }
after_holds most state (entry ∷ entries) few =
    let adds = sum_by-cons (λ (one : Entry). more_methods one.event) entry entries in
    let takes = step_takes most state entry.event (omega (arith, adds)) in
    let holds = after_holds most (step state entry.event).state entries (omega (arith, adds, takes.methods)) in
    record {
      caps = holds.caps ∙ takes.caps;
      methods = omega (arith, adds, takes.methods, holds.methods);
      bytes = omega (arith, sum_by-cons (λ (one : Entry). event_cost most one.event) entry entries, takes.bytes, holds.bytes);
    }

-- an event that finds no room after a history which adds at most so many methods
pub full_takes : (most : ℕ) (caps : Limits) (entries : List Entry) (event : Event) (room : Room) → spent more_methods entries ≤ most
    → record_full room ≡ (step (after (opening caps) entries) event).answer
    → caps.recording < header_size + spent (event_cost most) entries + event_cost most event
full_takes most caps entries event room few is =
    let holds = after_holds most (opening caps) entries (omega arith) in
    let full = (step_takes most (after (opening caps) entries) event (omega (arith, holds.methods))).full room is in
    omega (arith, full, holds.bytes, ap (λ (limits : Limits). limits.recording) holds.caps)
