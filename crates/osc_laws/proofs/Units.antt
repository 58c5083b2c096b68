-- Each unit in the queue came in by a packet that was queued, and waits for its tag.
use Rattle.std.proofs.Common.{◌≡◌, ℕ, suc, ◌+◌, ◌≤◌, max, List, [], ◌∷◌, ◌++◌, Some, length, slice_get, refl, sym, ap, subst, ◌∙◌, append_assoc, arith}
use Rattle.std.specs.List.{AllByRecursion}
use Rattle.std.proofs.lemmas.List.{append-nil}
use Rattle.osc_packet.specs.Units.{TimedUnit}
use Rattle.osc_packet.specs.Reading.{units_read}
use Rattle.osc_queue.specs.Timed.{unit_of, due_of, enter}
use Rattle.osc_queue.proofs.Orders.{all_entered, all_mapped}
use Rattle.osc_model.specs.Limits.{Limits}
use Rattle.osc_model.specs.State.{State, Queued, opening}
use Rattle.osc_model.specs.Events.{Event, submit, Answer, queued, Entry}
use Rattle.osc_model.specs.Step.{step, waiting, numbered, is_kept, kept_numbered, late_count, enter_all}
use Rattle.osc_model.specs.declared.late.Late.{Late}
use Rattle.osc_tree.proofs.Lists.{all_filter}
use Rattle.osc_model.specs.History.{LegalFrom, Legal, after}
use Rattle.osc_model.proofs.Stepping.{step_so, decided_so}
use Rattle.osc_laws.specs.Facts.{IsUnitOf}

-- a queued unit is the one that the history gave its number, and isn't due before its tag
abbrev pub IsWaiting : List Entry → Queued → Type 0
IsWaiting history item = IsUnitOf history (unit_of item) item.2 × (item.2.tag ≤ due_of item)

-- a history that goes on has the same units
pub unit_later : (history more : List Entry) (number : ℕ) (unit : TimedUnit) → IsUnitOf history number unit → IsUnitOf (history ++ more) number unit
unit_later history more number unit is =
    let entry : Entry = record { caller = is.caller; event = submit is.packet; answer = queued is.first is.count is.dropped } in
    record {
      before = is.before;
      caller = is.caller;
      packet = is.packet;
      first = is.first;
      count = is.count;
      dropped = is.dropped;
      later = is.later ++ more;
      place = ap (λ (l : List Entry). l ++ more) is.place ∙ append_assoc is.before (entry ∷ is.later) more;
      index = is.index;
      number_is = is.number_is;
      unit_is = is.unit_is;
    }

waiting_later : (history more : List Entry) (queue : List Queued) → AllByRecursion (IsWaiting history) queue
    → AllByRecursion (IsWaiting (history ++ more)) queue
waiting_later history more queue all =
    all_mapped queue (λ (item : Queued) (is : IsWaiting history item). (unit_later history more (unit_of item) item.2 is.0, is.1)) all

-- what holds of each unit under its number holds of all that are numbered
pub each_numbered : (P : Queued → Type 0) (clock next : ℕ) (units : List TimedUnit)
    → ((index : ℕ) (unit : TimedUnit) → slice_get units index ≡ Some unit → P (waiting clock (next + index) unit))
    → AllByRecursion P (numbered clock next units)
each_numbered P clock next [] holds = tt
each_numbered P clock next (unit ∷ units) holds = (
  subst (λ (n : ℕ). P (waiting clock n unit)) (first next) (holds 0 unit refl),
  each_numbered P clock (next + 1) units
      (λ (index : ℕ) (other : TimedUnit) (at : slice_get units index ≡ Some other). subst (λ (n : ℕ). P (waiting clock n other)) (further next index)
      (holds (suc index) other at)),
)
  where
    first : (n : ℕ) → n + 0 ≡ n
    first n = omega arith

    further : (n i : ℕ) → n + suc i ≡ n + 1 + i
    further n i = omega arith

-- what holds of those that enter and of those that waited holds of all
all_in : (P : Queued → Type 0) (units queue : List Queued) → AllByRecursion P units → AllByRecursion P queue → AllByRecursion P (enter_all units queue)
all_in P [] queue new old = old
all_in P (unit ∷ units) queue new old = all_in P units (enter unit queue) new.1 (all_entered P unit queue new.0 old)

-- the units of a packet that is queued wait
packet_waits : (policy : Late) (history : List Entry) (caller clock first dropped : ℕ) (packet : List ℕ)
    → AllByRecursion (IsWaiting (history ++ record { caller = caller; event = submit packet; answer = queued first (length (units_read packet)) dropped } ∷ []))
    (kept_numbered policy clock first (units_read packet))
packet_waits policy history caller clock first dropped packet =
    all_filter _ (λ (item : Queued). is_kept policy clock item.2) (numbered clock first (units_read packet)) (each_numbered _ clock first (units_read packet)
    (λ (index : ℕ) (unit : TimedUnit) (at : slice_get (units_read packet) index ≡ Some unit). (
      record {
        before = history;
        caller = caller;
        packet = packet;
        first = first;
        count = length (units_read packet);
        dropped = dropped;
        later = [];
        place = refl;
        index = index;
        number_is = refl;
        unit_is = at;
      },
      tag_first unit.tag clock,
    )))
  where
    tag_first : (tag moment : ℕ) → tag ≤ max tag moment
    tag_first tag moment = omega arith

-- the entry of an event that is answered so
abbrev entry_of : ℕ → Event → Answer → Entry
entry_of caller event answer = record { caller = caller; event = event; answer = answer }

step_waits : (history : List Entry) (state : State) (caller : ℕ) (event : Event) → AllByRecursion (IsWaiting history) state.queue
    → AllByRecursion (IsWaiting (history ++ entry_of caller event (step state event).answer ∷ [])) (step state event).state.queue
step_waits history state caller event wait =
    let here =
    decided_so (λ event stepped. AllByRecursion (IsWaiting (history ++ entry_of caller event stepped.answer ∷ [])) stepped.state.queue) state event
    (record {
      refused = λ event answer is. waiting_later history _ state.queue wait;
      enrolled = waiting_later history _ state.queue wait;
      queued = λ packet. all_in _ (kept_numbered state.caps.late state.clock state.next_unit (units_read packet)) state.queue
          (packet_waits state.caps.late history caller state.clock state.next_unit (late_count state (units_read packet)) packet)
          (waiting_later history _ state.queue wait);
      added = λ address. waiting_later history _ state.queue wait;
      removed = λ address id. waiting_later history _ state.queue wait;
      ticked = λ now later. waiting_later history _ state.queue wait;
      released = λ unit units first. waiting_later history _ units (subst (AllByRecursion (IsWaiting history)) first wait).1;
    }) in
    step_so (λ stepped. AllByRecursion (IsWaiting (history ++ entry_of caller event stepped.answer ∷ [])) stepped.state.queue) state event
    (record { silent = λ none. here; full = λ some full. waiting_later history _ state.queue wait; room = λ some fits. here })

units_from : (state : State) (history more : List Entry) → LegalFrom state more → AllByRecursion (IsWaiting history) state.queue
    → AllByRecursion (IsWaiting (history ++ more)) (after state more).queue
units_from state history [] legal wait = subst (λ (h : List Entry). AllByRecursion (IsWaiting h) state.queue) (sym (append-nil history)) wait
units_from state history (entry ∷ entries) legal wait =
    let next = (step state entry.event).state in
    let here = subst (λ (a : Answer). AllByRecursion (IsWaiting (history ++ entry_of entry.caller entry.event a ∷ [])) next.queue) (sym legal.3)
    (step_waits history state entry.caller entry.event wait) in
    subst (λ (h : List Entry). AllByRecursion (IsWaiting h) (after next entries).queue) (append_assoc history (entry ∷ []) entries)
    (units_from next (history ++ entry ∷ []) entries legal.4 here)

pub units_are : (caps : Limits) (history : List Entry) → Legal caps history
    → AllByRecursion (λ item. IsUnitOf history (unit_of item) item.2 × (item.2.tag ≤ due_of item)) (after (opening caps) history).queue
units_are caps history legal = units_from (opening caps) [] history legal.1 tt
