-- No unit is lost, and none is released twice.
use Rattle.std.proofs.Common.{◌≡◌, ℕ, ◌+◌, not, filter, List, [], ◌∷◌, ◌++◌, length, take, sym, subst, append_assoc, map, refl, ap, ◌∙◌}
use Rattle.std.specs.List.Sorted.{IsPermutation}
use Rattle.std.proofs.lemmas.List.{append-nil}
use Rattle.std.proofs.lemmas.List.Sorted.{IsPermutation-refl, IsPermutation-trans, IsPermutation-append_comm, IsPermutation-append_left}
use Rattle.std.proofs.lemmas.List.Sorted.{IsPermutation-append_right, IsPermutation-filter_both, IsPermutation-map}
use Rattle.std.proofs.lemmas.List.{map-append}
use Rattle.osc_packet.specs.Units.{TimedUnit}
use Rattle.osc_packet.specs.Reading.{units_read}
use Rattle.osc_queue.specs.Timed.{unit_of}
use Rattle.osc_model.specs.State.{Queued, State}
use Rattle.osc_model.specs.Events.{Event, Answer, number, callers_full, queued, units_full, pool_full, added, refused, removed, not_there, ticked, clock_back}
use Rattle.osc_model.specs.Events.{released, nothing_due, record_full, Entry}
use Rattle.osc_model.specs.Refusals.{IsRefusal}
use Rattle.osc_model.specs.Step.{Stepped, step, decided, leaves, is_kept, numbered, kept_numbered, enter_all}
use Rattle.osc_model.specs.History.{after}
use Rattle.osc_model.specs.Passing.{queued_by, dropped_by, released_by, entering, dropping, leaving, all_entering, all_leaving, numbers_from, queued_in}
use Rattle.osc_model.specs.Passing.{released_in}
use Rattle.osc_model.proofs.Queues.{all_joined}
use Rattle.osc_model.proofs.Stepping.{step_so, decided_so}

nothing_moves : (queue : List Queued) → IsPermutation (queue ++ []) queue
nothing_moves queue = subst (λ (l : List Queued). IsPermutation l queue) (sym (append-nil queue)) (IsPermutation-refl queue)

entered : (units queue : List Queued) → IsPermutation (queue ++ units) (enter_all units queue)
entered units queue = IsPermutation-trans _ _ _ (IsPermutation-append_comm queue units) (all_joined units queue)

-- an answer that neither queues nor releases a unit
record MovesNone (answer : Answer) (state : State) (event : Event) : Type 0 where
  pub none_queued : queued_by answer state event ≡ []
  pub none_dropped : dropped_by answer state event ≡ []
  pub none_released : released_by answer state.queue ≡ []
  pub none_queued_in : queued_in answer ≡ []
  pub none_released_in : released_in answer ≡ []

moves_none : {answer : Answer} {state : State} {event : Event} → queued_by answer state event ≡ [] → dropped_by answer state event ≡ []
    → released_by answer state.queue ≡ [] → queued_in answer ≡ [] → released_in answer ≡ [] → MovesNone answer state event
moves_none queues drops releases given taken =
    record { none_queued = queues; none_dropped = drops; none_released = releases; none_queued_in = given; none_released_in = taken }

refusal_moves : (answer : Answer) (state : State) (event : Event) → IsRefusal answer → MovesNone answer state event
refusal_moves callers_full state event is = moves_none refl refl refl refl refl
refusal_moves (units_full room) state event is = moves_none refl refl refl refl refl
refusal_moves (pool_full room) state event is = moves_none refl refl refl refl refl
refusal_moves (refused why) state event is = moves_none refl refl refl refl refl
refusal_moves not_there state event is = moves_none refl refl refl refl refl
refusal_moves (clock_back clock) state event is = moves_none refl refl refl refl refl
refusal_moves (nothing_due next) state event is = moves_none refl refl refl refl refl
refusal_moves (record_full room) state event is = moves_none refl refl refl refl refl
refusal_moves (number n) state event is = absurd is
refusal_moves (queued first count late) state event is = absurd is
refusal_moves (added id) state event is = absurd is
refusal_moves (removed id) state event is = absurd is
refusal_moves ticked state event is = absurd is
refusal_moves (released unit hits) state event is = absurd is

-- those that waited and those that are queued are those that are released and those that wait then
abbrev Passes : State → Event → Stepped → Type 0
Passes state event stepped = IsPermutation (state.queue ++ queued_by stepped.answer state event) (released_by stepped.answer state.queue ++ stepped.state.queue)

refusal_passes : (queue entering leaving : List Queued) → entering ≡ [] → leaving ≡ [] → IsPermutation (queue ++ entering) (leaving ++ queue)
refusal_passes queue entering leaving none_in none_out =
    subst (λ (l : List Queued). IsPermutation (queue ++ l) (leaving ++ queue)) (sym none_in)
    (subst (λ (l : List Queued). IsPermutation (queue ++ []) (l ++ queue)) (sym none_out) (nothing_moves queue))

first_passes : (queue : List Queued) (unit : Queued) (units : List Queued) → queue ≡ unit ∷ units → IsPermutation (queue ++ []) (take 1 queue ++ units)
first_passes queue unit units first = subst (λ (l : List Queued). IsPermutation (l ++ []) (take 1 l ++ units)) (sym first) (nothing_moves (unit ∷ units))

decided_passes : (state : State) (event : Event) → Passes state event (decided state event)
decided_passes state event =
    decided_so (Passes state) state event
    (record {
      refused = λ event answer is. let none = refusal_moves answer state event is in
          refusal_passes state.queue (queued_by answer state event) (released_by answer state.queue) none.none_queued none.none_released;
      enrolled = nothing_moves state.queue;
      queued = λ packet. entered (kept_numbered state.caps.late state.clock state.next_unit (units_read packet)) state.queue;
      added = λ address. nothing_moves state.queue;
      removed = λ address id. nothing_moves state.queue;
      ticked = λ now later. nothing_moves state.queue;
      released = λ unit units first. first_passes state.queue unit units first;
    })

pub step_passes : (state : State) (event : Event) → IsPermutation (state.queue ++ entering state event) (leaving state event ++ (step state event).state.queue)
step_passes state event =
    step_so (Passes state event) state event
    (record { silent = λ none. decided_passes state event; full = λ some full. nothing_moves state.queue; room = λ some fits. decided_passes state event })

-- what enters and leaves in two goes
in_two : (before first more left behind middle last : List Queued) → IsPermutation (before ++ first) (left ++ middle)
    → IsPermutation (middle ++ more) (behind ++ last) → IsPermutation (before ++ (first ++ more)) ((left ++ behind) ++ last)
in_two before first more left behind middle last one two =
    let start : IsPermutation ((before ++ first) ++ more) ((left ++ middle) ++ more) = IsPermutation-append_left more (before ++ first) (left ++ middle) one in
    let start' : IsPermutation (before ++ (first ++ more)) (left ++ (middle ++ more)) =
    subst (λ (l : List Queued). IsPermutation l (left ++ (middle ++ more))) (append_assoc before first more)
    (subst (λ (l : List Queued). IsPermutation ((before ++ first) ++ more) l) (append_assoc left middle more) start) in
    let end : IsPermutation (left ++ (middle ++ more)) (left ++ (behind ++ last)) = IsPermutation-append_right left (middle ++ more) (behind ++ last) two in
    subst (λ (l : List Queued). IsPermutation (before ++ (first ++ more)) l) (sym (append_assoc left behind last)) (IsPermutation-trans _ _ _ start' end)

pub history_passes : (state : State) (history : List Entry)
    → IsPermutation (state.queue ++ all_entering state history) (all_leaving state history ++ (after state history).queue)
history_passes state [] = nothing_moves state.queue
history_passes state (entry ∷ entries) =
    in_two state.queue (entering state entry.event) (all_entering (step state entry.event).state entries) (leaving state entry.event)
    (all_leaving (step state entry.event).state entries) (step state entry.event).state.queue (after (step state entry.event).state entries).queue
    (step_passes state entry.event) (history_passes (step state entry.event).state entries)

-- The units that enter and leave are those of the answers.

numbers_are : (clock next : ℕ) (units : List TimedUnit) → map (λ (unit : Queued). unit_of unit) (numbered clock next units) ≡ numbers_from next (length units)
numbers_are clock next [] = refl
numbers_are clock next (unit ∷ units) = ap (λ (l : List ℕ). next ∷ l) (numbers_are clock (next + 1) units)

-- the numbers of units
abbrev numbers_of : List Queued → List ℕ
numbers_of units = map (λ (unit : Queued). unit_of unit) units

-- the numbers that are given are those of the units that enter and of those that are dropped
kept_or_not : (state : State) (units : List TimedUnit)
    → IsPermutation (numbers_from state.next_unit (length units))
    (numbers_of (kept_numbered state.caps.late state.clock state.next_unit units)
    ++ numbers_of (filter (λ (item : Queued). not (is_kept state.caps.late state.clock item.2)) (numbered state.clock state.next_unit units)))
kept_or_not state units =
    let all : List Queued = numbered state.clock state.next_unit units in
    let keeps : List Queued = kept_numbered state.caps.late state.clock state.next_unit units in
    let drops : List Queued = filter (λ (item : Queued). not (is_kept state.caps.late state.clock item.2)) all in
    let both : IsPermutation all (keeps ++ drops) =
    IsPermutation-filter_both (λ (item : Queued). is_kept state.caps.late state.clock item.2)
    (λ (item : Queued). not (is_kept state.caps.late state.clock item.2)) (λ item. refl) all in
    subst (λ (l : List ℕ). IsPermutation l (numbers_of keeps ++ numbers_of drops)) (numbers_are state.clock state.next_unit units)
    (subst (λ (l : List ℕ). IsPermutation (numbers_of all) l) (map-append (λ (unit : Queued). unit_of unit) keeps drops)
    (IsPermutation-map (λ (unit : Queued). unit_of unit) all (keeps ++ drops) both))

-- the units that enter, those that are dropped and those that leave are those that the answer tells
record Tells (state : State) (event : Event) (stepped : Stepped) : Type 0 where
  pub told_in : IsPermutation (queued_in stepped.answer)
      (numbers_of (queued_by stepped.answer state event) ++ numbers_of (dropped_by stepped.answer state event))
  pub told_out : map (λ (unit : Queued). unit_of unit) (released_by stepped.answer state.queue) ≡ released_in stepped.answer

none_told : (numbers : List ℕ) (units others : List Queued) → numbers ≡ [] → units ≡ [] → others ≡ []
    → IsPermutation numbers (numbers_of units ++ numbers_of others)
none_told numbers units others none none_in none_dropped =
    subst (λ (l : List ℕ). IsPermutation l (numbers_of units ++ numbers_of others)) (sym none)
    (subst (λ (l : List Queued). IsPermutation [] (numbers_of l ++ numbers_of others)) (sym none_in)
    (subst (λ (l : List Queued). IsPermutation [] (numbers_of l)) (sym none_dropped) (IsPermutation-refl [])))

no_numbers : (units : List Queued) (numbers : List ℕ) → units ≡ [] → numbers ≡ [] → map (λ (unit : Queued). unit_of unit) units ≡ numbers
no_numbers units numbers none none_told = ap (map (λ (unit : Queued). unit_of unit)) none ∙ sym none_told

refusal_tells : (state : State) (event : Event) (answer : Answer) → IsRefusal answer → Tells state event (leaves state answer)
refusal_tells state event answer is =
    let none = refusal_moves answer state event is in
    record {
      told_in = none_told (queued_in answer) (queued_by answer state event) (dropped_by answer state event) none.none_queued_in none.none_queued
          none.none_dropped;
      told_out = no_numbers (released_by answer state.queue) (released_in answer) none.none_released none.none_released_in;
    }

decided_tells : (state : State) (event : Event) → Tells state event (decided state event)
decided_tells state event =
    decided_so (Tells state) state event
    (record {
      refused = λ event answer is. refusal_tells state event answer is;
      enrolled = record { told_in = IsPermutation-refl []; told_out = refl };
      queued = λ packet. record { told_in = kept_or_not state (units_read packet); told_out = refl };
      added = λ address. record { told_in = IsPermutation-refl []; told_out = refl };
      removed = λ address id. record { told_in = IsPermutation-refl []; told_out = refl };
      ticked = λ now later. record { told_in = IsPermutation-refl []; told_out = refl };
      released = λ unit units first.
          record { told_in = IsPermutation-refl []; told_out = ap (λ (l : List Queued). map (λ (unit : Queued). unit_of unit) (take 1 l)) first };
    })

step_tells : (state : State) (event : Event) → Tells state event (step state event)
step_tells state event =
    step_so (Tells state event) state event
    (record {
      silent = λ none. decided_tells state event;
      full = λ some full. record { told_in = IsPermutation-refl []; told_out = refl };
      room = λ some fits. let tells = decided_tells state event in record { told_in = tells.told_in; told_out = tells.told_out };
    })

pub enters_told : (state : State) (event : Event)
    → IsPermutation (queued_in (step state event).answer)
    (map (λ (unit : Queued). unit_of unit) (entering state event) ++ map (λ (unit : Queued). unit_of unit) (dropping state event))
enters_told state event = (step_tells state event).told_in

pub leaves_told : (state : State) (event : Event) → map (λ (unit : Queued). unit_of unit) (leaving state event) ≡ released_in (step state event).answer
leaves_told state event = (step_tells state event).told_out
