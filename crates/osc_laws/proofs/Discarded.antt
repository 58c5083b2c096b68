-- The units that a history drops are those that were late where late units are discarded.
use Rattle.std.proofs.Common.{◌≡◌, ◌⊎◌, ◌↔◌, inl, inr, ℕ, zero, suc, ◌+◌, ◌==◌, Bool, true, false, not, nat_lt, List, [], ◌∷◌, ◌++◌, map}
use Rattle.std.proofs.Common.{filter}
use Rattle.std.proofs.Common.{slice_get, Some, refl, sym, ap, subst, ◌∙◌, arith, eq-eqb, eqb-true, ltb-true, lt-ltb}
use Rattle.std.specs.List.{Contains}
use Rattle.std.proofs.lemmas.Bool.{and_parts}
use Rattle.std.proofs.lemmas.List.Elements.{All-contains, All-from_recursion, Contains-append_left, Contains-append_right, Contains-append_cases}
use Rattle.osc_tree.proofs.Lists.{contains_later}
use Rattle.osc_packet.specs.Units.{TimedUnit}
use Rattle.osc_packet.specs.Reading.{units_read}
use Rattle.osc_queue.specs.Timed.{unit_of}
use Rattle.osc_model.specs.declared.late.Late.{Late}
use Rattle.osc_model.specs.declared.late.Late.TheVariants.{Deliver, Discard}
use Rattle.osc_model.specs.Limits.{Limits}
use Rattle.osc_model.specs.State.{State, Queued, opening}
use Rattle.osc_model.specs.Events.{Event, enrol, submit, add, remove, tick, release, Answer, number, callers_full, queued, units_full, pool_full, added}
use Rattle.osc_model.specs.Events.{refused, removed, not_there, ticked, clock_back, released, nothing_due, record_full, Entry}
use Rattle.osc_model.specs.Refusals.{IsRefusal}
use Rattle.osc_model.specs.Step.{step, waiting, numbered, is_late, is_kept}
use Rattle.osc_model.specs.Passing.{dropped_by, dropping, all_dropping}
use Rattle.osc_model.specs.History.{LegalFrom, Legal, after}
use Rattle.osc_model.proofs.Stepping.{step_so, decided_so}
use Rattle.osc_model.proofs.Onward.{legal_split}
use Rattle.osc_model.proofs.Recordable.{after_caps}
use Rattle.osc_laws.specs.Facts.{IsLate, IsDiscarded}
use Rattle.osc_laws.proofs.Members.{head_in, none_in, passed, passes, sent, sent_from}
use Rattle.osc_laws.proofs.ReadOff.{clock_is}
use Rattle.osc_laws.proofs.Units.{each_numbered}

-- The place of a unit that is dropped.

record DroppedAt (state : State) (history : List Entry) (item : Queued) : Type 0 where
  pub before : List Entry
  pub entry : Entry
  pub later : List Entry
  pub place : history ≡ before ++ entry ∷ later
  pub held : Contains (dropping (after state before) entry.event) item

dropped_at : (state : State) (history : List Entry) (item : Queued) → Contains (all_dropping state history) item → DroppedAt state history item
dropped_at state [] item held = absurd (none_in item held)
dropped_at state (entry ∷ entries) item held =
    go (Contains-append_cases (dropping state entry.event) (all_dropping (step state entry.event).state entries) item held)
    (dropped_at (step state entry.event).state entries item)
  where
    go : Contains (dropping state entry.event) item ⊎ Contains (all_dropping (step state entry.event).state entries) item
        → (Contains (all_dropping (step state entry.event).state entries) item → DroppedAt (step state entry.event).state entries item)
        → DroppedAt state (entry ∷ entries) item
    go (inl here) rest = record { before = []; entry = entry; later = entries; place = refl; held = here }
    go (inr there) rest =
        let is = rest there in
        record {
          before = entry ∷ is.before;
          entry = is.entry;
          later = is.later;
          place = ap (λ (l : List Entry). entry ∷ l) is.place;
          held = is.held;
        }

dropping_more : (state : State) (before : List Entry) (entry : Entry) (later : List Entry) (item : Queued)
    → Contains (dropping (after state before) entry.event) item → Contains (all_dropping state (before ++ entry ∷ later)) item
dropping_more state [] entry later item held =
    Contains-append_left (dropping state entry.event) (all_dropping (step state entry.event).state later) item held
dropping_more state (first ∷ before) entry later item held =
    Contains-append_right (dropping state first.event) (all_dropping (step state first.event).state (before ++ entry ∷ later)) item
    (dropping_more (step state first.event).state before entry later item held)

-- The units of a packet that is queued.

-- those that are dropped there
abbrev drops : State → List TimedUnit → List Queued
drops state units = filter (λ (item : Queued). not (is_kept state.caps.late state.clock item.2)) (numbered state.clock state.next_unit units)

record DropOf (state : State) (event : Event) (answer : Answer) (item : Queued) : Type 0 where
  pub packet : List ℕ
  pub first : ℕ
  pub count : ℕ
  pub dropped : ℕ
  pub event_is : event ≡ submit packet
  pub answer_is : answer ≡ queued first count dropped
  pub held : Contains (drops state (units_read packet)) item

drop_of : (state : State) (event : Event) (answer : Answer) (item : Queued) → Contains (dropped_by answer state event) item → DropOf state event answer item
drop_of state (submit packet) (queued first count dropped) item held =
    record { packet = packet; first = first; count = count; dropped = dropped; event_is = refl; answer_is = refl; held = held }
drop_of state enrol (queued first count dropped) item held = absurd (none_in item held)
drop_of state (add address) (queued first count dropped) item held = absurd (none_in item held)
drop_of state (remove address) (queued first count dropped) item held = absurd (none_in item held)
drop_of state (tick now) (queued first count dropped) item held = absurd (none_in item held)
drop_of state release (queued first count dropped) item held = absurd (none_in item held)
drop_of state event (number n) item held = absurd (none_in item held)
drop_of state event callers_full item held = absurd (none_in item held)
drop_of state event (units_full room) item held = absurd (none_in item held)
drop_of state event (pool_full room) item held = absurd (none_in item held)
drop_of state event (added id) item held = absurd (none_in item held)
drop_of state event (refused why) item held = absurd (none_in item held)
drop_of state event (removed id) item held = absurd (none_in item held)
drop_of state event not_there item held = absurd (none_in item held)
drop_of state event ticked item held = absurd (none_in item held)
drop_of state event (clock_back kept) item held = absurd (none_in item held)
drop_of state event (released unit hits) item held = absurd (none_in item held)
drop_of state event (nothing_due next) item held = absurd (none_in item held)
drop_of state event (record_full room) item held = absurd (none_in item held)

-- an answer that queues gives the next number first
abbrev GivesFirst : State → Answer → Type 0
GivesFirst state answer = (first count dropped : ℕ) → answer ≡ queued first count dropped → first ≡ state.next_unit

never_queues : (state : State) (answer : Answer) → IsRefusal answer → GivesFirst state answer
never_queues state callers_full is first count dropped same = absurd (cc)
never_queues state (units_full room) is first count dropped same = absurd (cc)
never_queues state (pool_full room) is first count dropped same = absurd (cc)
never_queues state (refused why) is first count dropped same = absurd (cc)
never_queues state not_there is first count dropped same = absurd (cc)
never_queues state (clock_back kept) is first count dropped same = absurd (cc)
never_queues state (nothing_due next) is first count dropped same = absurd (cc)
never_queues state (record_full room) is first count dropped same = absurd (cc)
never_queues state (number n) is first count dropped same = absurd is
never_queues state (queued a b c) is first count dropped same = absurd is
never_queues state (added id) is first count dropped same = absurd is
never_queues state (removed id) is first count dropped same = absurd is
never_queues state ticked is first count dropped same = absurd is
never_queues state (released unit hits) is first count dropped same = absurd is

gives_first : (state : State) (event : Event) → GivesFirst state (step state event).answer
gives_first state event =
    let here =
    decided_so (λ event stepped. GivesFirst state stepped.answer) state event
    (record {
      refused = λ event answer is. never_queues state answer is;
      enrolled = λ first count dropped same. absurd (cc);
      queued = λ packet first count dropped same. first_is state.next_unit _ _ first count dropped same;
      added = λ address first count dropped same. absurd (cc);
      removed = λ address id first count dropped same. absurd (cc);
      ticked = λ now later first count dropped same. absurd (cc);
      released = λ unit units first_unit first count dropped same. absurd (cc);
    }) in
    step_so (λ stepped. GivesFirst state stepped.answer) state event
    (record { silent = λ none. here; full = λ some full first count dropped same. absurd (cc); room = λ some fits. here })
  where
    first_is : (a b c first count dropped : ℕ) → queued a b c ≡ queued first count dropped → first ≡ a
    first_is a b c first count dropped same = cc

-- a unit under its number
record IsNumbered (clock next : ℕ) (units : List TimedUnit) (item : Queued) : Type 0 where
  pub index : ℕ
  pub unit : TimedUnit
  pub at : slice_get units index ≡ Some unit
  pub item_is : item ≡ waiting clock (next + index) unit

numbered_is : (clock next : ℕ) (units : List TimedUnit) (item : Queued) → Contains (numbered clock next units) item → IsNumbered clock next units item
numbered_is clock next units item held =
    All-contains (IsNumbered clock next units) (numbered clock next units) item (All-from_recursion (IsNumbered clock next units) (numbered clock next units)
    (each_numbered (IsNumbered clock next units) clock next units (λ (index : ℕ) (unit : TimedUnit) (at : slice_get units index ≡ Some unit). record {
      index = index;
      unit = unit;
      at = at;
      item_is = refl;
    }))) held

numbered_holds : (clock next : ℕ) (units : List TimedUnit) (index : ℕ) (unit : TimedUnit) → slice_get units index ≡ Some unit
    → Contains (numbered clock next units) (waiting clock (next + index) unit)
numbered_holds clock next [] index unit at = absurd (cc)
numbered_holds clock next (first ∷ units) zero unit at =
    let same : first ≡ unit = cc in
    let place : next ≡ next + 0 = omega arith in
    subst (λ (item : Queued). Contains (numbered clock next (first ∷ units)) item) (λ i. waiting clock (place i) (same i))
    (head_in (waiting clock next first) (numbered clock (next + 1) units))
numbered_holds clock next (first ∷ units) (suc index) unit at =
    let place : next + 1 + index ≡ next + suc index = omega arith in
    subst (λ (n : ℕ). Contains (numbered clock next (first ∷ units)) (waiting clock n unit)) place
    (contains_later (waiting clock (next + 1 + index) unit) (waiting clock next first) (numbered clock (next + 1) units)
    (numbered_holds clock (next + 1) units index unit at))

-- a unit that isn't kept is late, and late units are discarded
record Drops (policy : Late) (clock : ℕ) (unit : TimedUnit) : Type 0 where
  pub discards : policy ≡ Discard
  pub late : IsLate clock unit

late_is : (clock : ℕ) (unit : TimedUnit) → is_late clock unit ≡ true → IsLate clock unit
late_is clock unit is =
    let parts = and_parts (not (unit.tag == 1)) (nat_lt unit.tag clock) is in
    record { timed = λ same. not_one (unit.tag == 1) parts.0 (eq-eqb unit.tag 1 same); below = ltb-true unit.tag clock parts.1 }
  where
    not_one : (t : Bool) → not t ≡ true → t ≡ true → ⊥
    not_one true e f = absurd (cc)
    not_one false e f = absurd (cc)

is_of_late : (clock : ℕ) (unit : TimedUnit) → IsLate clock unit → is_late clock unit ≡ true
is_of_late clock unit is = rw (other (unit.tag == 1) refl, lt-ltb unit.tag clock is.below) refl where
  other : (t : Bool) → (unit.tag == 1) ≡ t → (unit.tag == 1) ≡ false
  other false e = e
  other true e = absurd (is.timed (eqb-true unit.tag 1 e))

drops_is : (policy : Late) (clock : ℕ) (unit : TimedUnit) → not (is_kept policy clock unit) ≡ true → Drops policy clock unit
drops_is Deliver clock unit is = absurd (cc)
drops_is Discard clock unit is = record { discards = refl; late = late_is clock unit (twice (is_late clock unit) is) } where
  twice : (t : Bool) → not (not t) ≡ true → t ≡ true
  twice true e = refl
  twice false e = absurd (cc)

is_of_drops : (policy : Late) (clock : ℕ) (unit : TimedUnit) → Drops policy clock unit → not (is_kept policy clock unit) ≡ true
is_of_drops Deliver clock unit is = absurd (let same = is.discards in cc)
is_of_drops Discard clock unit is = ap (λ (t : Bool). not (not t)) (is_of_late clock unit is.late)

-- the entry of a packet that is queued
abbrev entry_of : ℕ → List ℕ → ℕ → ℕ → ℕ → Entry
entry_of caller packet first count dropped = record { caller = caller; event = submit packet; answer = queued first count dropped }

-- A number is one of those that are dropped exactly where its unit is discarded.

discarded_from : (caps : Limits) (history : List Entry) (item : Queued) → Legal caps history → Contains (all_dropping (opening caps) history) item
    → IsDiscarded caps.late history (unit_of item)
discarded_from caps history item legal held =
    let at = dropped_at (opening caps) history item held in
    by_place at.before at.entry at.later at.place at.held
  where
    by_place : (before : List Entry) (entry : Entry) (later : List Entry) → history ≡ before ++ entry ∷ later
        → Contains (dropping (after (opening caps) before) entry.event) item → IsDiscarded caps.late history (unit_of item)
    by_place before entry later place here =
        let state = after (opening caps) before in
        let split = legal_split (opening caps) before (entry ∷ later) (subst (LegalFrom (opening caps)) place legal.1) in
        let told : Contains (dropped_by entry.answer state entry.event) item =
        subst (λ (a : Answer). Contains (dropped_by a state entry.event) item) (sym split.1.3) here in
        let drop = drop_of state entry.event entry.answer item told in
        let first : drop.first ≡ state.next_unit = gives_first state entry.event drop.first drop.count drop.dropped (sym split.1.3 ∙ drop.answer_is) in
        let parts = passed (λ (other : Queued). not (is_kept state.caps.late state.clock other.2))
        (numbered state.clock state.next_unit (units_read drop.packet)) item
        drop.held in
        let of = numbered_is state.clock state.next_unit (units_read drop.packet) item parts.0 in
        let dropped = drops_is state.caps.late state.clock of.unit
        (subst (λ (other : Queued). not (is_kept state.caps.late state.clock other.2) ≡ true) of.item_is parts.1) in
        record {
          discards = ap (λ (c : Limits). c.late) (sym (after_caps (opening caps) before)) ∙ dropped.discards;
          unit = of.unit;
          of = record {
            before = before;
            caller = entry.caller;
            packet = drop.packet;
            first = drop.first;
            count = drop.count;
            dropped = drop.dropped;
            later = later;
            place = place ∙ (λ i. before ++ record { caller = entry.caller; event = drop.event_is i; answer = drop.answer_is i } ∷ later);
            index = of.index;
            number_is = ap (λ (other : Queued). unit_of other) of.item_is ∙ ap (λ (n : ℕ). n + of.index) (sym first);
            unit_is = of.at;
          };
          late = subst (λ (c : ℕ). IsLate c of.unit) (clock_is caps before (legal.0, split.0)) dropped.late;
        }

dropped_to : (caps : Limits) (history : List Entry) (n : ℕ) → Legal caps history → IsDiscarded caps.late history n
    → Contains (map (λ (item : Queued). unit_of item) (all_dropping (opening caps) history)) n
dropped_to caps history n legal is =
    let of = is.of in
    let entry = entry_of of.caller of.packet of.first of.count of.dropped in
    let state = after (opening caps) of.before in
    let units = units_read of.packet in
    let split = legal_split (opening caps) of.before (entry ∷ of.later) (subst (LegalFrom (opening caps)) of.place legal.1) in
    let first : of.first ≡ state.next_unit = gives_first state (submit of.packet) of.first of.count of.dropped (sym split.1.3) in
    let item : Queued = waiting state.clock (state.next_unit + of.index) is.unit in
    let late : IsLate state.clock is.unit = subst (λ (c : ℕ). IsLate c is.unit) (sym (clock_is caps of.before (legal.0, split.0))) is.late in
    let policy : state.caps.late ≡ Discard = ap (λ (c : Limits). c.late) (after_caps (opening caps) of.before) ∙ is.discards in
    let drop : not (is_kept state.caps.late state.clock is.unit) ≡ true =
    is_of_drops state.caps.late state.clock is.unit (record { discards = policy; late = late }) in
    let here : Contains (drops state units) item =
    passes (λ (other : Queued). not (is_kept state.caps.late state.clock other.2)) (numbered state.clock state.next_unit units) item
    (numbered_holds state.clock state.next_unit units of.index is.unit of.unit_is) drop in
    let told : Contains (dropping state (submit of.packet)) item =
    subst (λ (a : Answer). Contains (dropped_by a state (submit of.packet)) item) split.1.3 here in
    let all : Contains (all_dropping (opening caps) history) item =
    subst (λ (h : List Entry). Contains (all_dropping (opening caps) h) item) (sym of.place)
    (dropping_more (opening caps) of.before entry of.later item told) in
    let number_is : state.next_unit + of.index ≡ n = ap (λ (n : ℕ). n + of.index) (sym first) ∙ sym of.number_is in
    subst (Contains (map (λ (other : Queued). unit_of other) (all_dropping (opening caps) history))) number_is
    (sent (λ (other : Queued). unit_of other) (all_dropping (opening caps) history) item all)

pub discarded_is : (caps : Limits) (history : List Entry) (n : ℕ) → Legal caps history
    → (Contains (map (λ (item : Queued). unit_of item) (all_dropping (opening caps) history)) n ↔ IsDiscarded caps.late history n)
discarded_is caps history n legal = (
  λ held. let from = sent_from (λ (item : Queued). unit_of item) (all_dropping (opening caps) history) n held in
      subst (IsDiscarded caps.late history) from.2 (discarded_from caps history from.0 legal from.1),
  dropped_to caps history n legal,
)
