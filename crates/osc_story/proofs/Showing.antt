-- What is seen by the entries is what there is.
use Rattle.std.proofs.Common.{◌≡◌, ℕ, ◌+◌, Bool, true, false, cond, List, [], ◌∷◌, ◌++◌, map, drop, refl, sym, ap, subst, ◌∙◌}
use Rattle.std.specs.Prelude.{filter, insert}
use Rattle.std.specs.List.{position_or_len}
use Rattle.osc_tree.proofs.Lists.{insert-map, position-map}
use Rattle.osc_packet.specs.Units.{TimedUnit}
use Rattle.osc_packet.specs.Reading.{units_read}
use Rattle.osc_pattern.specs.Methods.{Method}
use Rattle.osc_tree.specs.Registry.{without}
use Rattle.osc_queue.specs.Timed.{Item, is_before, enter}
use Rattle.osc_model.specs.declared.late.Late.{Late}
use Rattle.osc_model.specs.State.{Queued, State}
use Rattle.osc_model.specs.Events.{Event, enrol, submit, add, remove, tick, release, Answer, Entry, record_full, number, callers_full, queued, units_full}
use Rattle.osc_model.specs.Events.{pool_full, added, refused, removed, not_there, ticked, clock_back, released, nothing_due}
use Rattle.osc_model.specs.Refusals.{IsRefusal}
use Rattle.osc_model.specs.History.{after, LegalFrom}
use Rattle.osc_model.specs.Step.{Stepped, step, decided, is_kept, numbered, kept_numbered, enter_all}
use Rattle.osc_model.proofs.Stepping.{step_so, decided_so}
use Rattle.osc_story.specs.Standings.{Handed, Standing, Shows, queue_of, handed, all_handed, kept_handed, all_enter, submitted, with_method, without_method}
use Rattle.osc_story.specs.Standings.{at_moment, without_first, seen_by, seen, seen_all}

-- an answer by which nothing is seen
record ShowsNothing (answer : Answer) : Type 0 where
  submits : (standing : Standing) (caller : ℕ) (units : List TimedUnit) → submitted standing caller units answer ≡ standing
  adds : (standing : Standing) (address : List ℕ) → with_method standing address answer ≡ standing
  removes : (standing : Standing) (address : List ℕ) → without_method standing address answer ≡ standing
  ticks : (standing : Standing) (now : ℕ) → at_moment standing now answer ≡ standing
  releases : (standing : Standing) → without_first standing answer ≡ standing

nothing_seen : (standing : Standing) (caller : ℕ) (event : Event) (answer : Answer) → ShowsNothing answer → seen_by standing caller event answer ≡ standing
nothing_seen standing caller enrol answer nothing = refl
nothing_seen standing caller (submit packet) answer nothing = nothing.submits standing caller (units_read packet)
nothing_seen standing caller (add address) answer nothing = nothing.adds standing address
nothing_seen standing caller (remove address) answer nothing = nothing.removes standing address
nothing_seen standing caller (tick now) answer nothing = nothing.ticks standing now
nothing_seen standing caller release answer nothing = nothing.releases standing

refusal_shows : (answer : Answer) → IsRefusal answer → ShowsNothing answer
refusal_shows (number n) un = absurd un
refusal_shows callers_full un = record { submits = λ s c u. refl; adds = λ s a. refl; removes = λ s a. refl; ticks = λ s n. refl; releases = λ s. refl }
refusal_shows (queued first count late) un = absurd un
refusal_shows (units_full room) un = record { submits = λ s c u. refl; adds = λ s a. refl; removes = λ s a. refl; ticks = λ s n. refl; releases = λ s. refl }
refusal_shows (pool_full room) un = record { submits = λ s c u. refl; adds = λ s a. refl; removes = λ s a. refl; ticks = λ s n. refl; releases = λ s. refl }
refusal_shows (added id) un = absurd un
refusal_shows (refused why) un = record { submits = λ s c u. refl; adds = λ s a. refl; removes = λ s a. refl; ticks = λ s n. refl; releases = λ s. refl }
refusal_shows (removed id) un = absurd un
refusal_shows not_there un = record { submits = λ s c u. refl; adds = λ s a. refl; removes = λ s a. refl; ticks = λ s n. refl; releases = λ s. refl }
refusal_shows ticked un = absurd un
refusal_shows (clock_back kept) un = record { submits = λ s c u. refl; adds = λ s a. refl; removes = λ s a. refl; ticks = λ s n. refl; releases = λ s. refl }
refusal_shows (released unit hits) un = absurd un
refusal_shows (nothing_due next) un = record { submits = λ s c u. refl; adds = λ s a. refl; removes = λ s a. refl; ticks = λ s n. refl; releases = λ s. refl }
refusal_shows (record_full room) un = record { submits = λ s c u. refl; adds = λ s a. refl; removes = λ s a. refl; ticks = λ s n. refl; releases = λ s. refl }

-- The queue.

abbrev queued_of : Item Handed → Queued
queued_of item = (item.0, item.1, item.2.unit)

entered : (new : Item Handed) (items : List (Item Handed)) → queue_of (enter new items) ≡ enter (queued_of new) (queue_of items)
entered new items =
    insert-map queued_of (position_or_len (is_before new) items) new items
    ∙ ap (λ (n : ℕ). insert (queue_of items) n (queued_of new)) (sym (position-map queued_of (is_before (queued_of new)) items))

all_entered : (news items : List (Item Handed)) → queue_of (all_enter news items) ≡ enter_all (queue_of news) (queue_of items)
all_entered [] items = refl
all_entered (new ∷ news) items = all_entered news (enter new items) ∙ ap (enter_all (queue_of news)) (entered new items)

all_numbered : (caller clock next : ℕ) (units : List TimedUnit) → queue_of (all_handed caller clock next units) ≡ numbered clock next units
all_numbered caller clock next [] = refl
all_numbered caller clock next (unit ∷ units) = ap (λ (l : List Queued). queued_of (handed caller clock next unit) ∷ l) (all_numbered caller clock (next + 1) units)

map_filter : {X Y : Type 0} (view : X → Y) (test : Y → Bool) (xs : List X) → map view (filter (λ x. test (view x)) xs) ≡ filter test (map view xs)
map_filter view test [] = refl
map_filter view test (x ∷ xs) = go (test (view x)) (map_filter view test xs) where
  go : (t : Bool) → map view (filter (λ x. test (view x)) xs) ≡ filter test (map view xs)
      → map view (cond t (x ∷ filter (λ x. test (view x)) xs) (filter (λ x. test (view x)) xs)) ≡ cond t (view x ∷ filter test (map view xs)) (filter test (map view xs))
  go true same = ap (λ ys. view x ∷ ys) same
  go false same = same

all_kept : (standing : Standing) (caller first : ℕ) (units : List TimedUnit)
    → queue_of (kept_handed standing caller first units) ≡ kept_numbered standing.late standing.clock first units
all_kept standing caller first units =
    map_filter queued_of (λ (item : Queued). is_kept standing.late standing.clock item.2) (all_handed caller standing.clock first units)
    ∙ ap (filter (λ (item : Queued). is_kept standing.late standing.clock item.2)) (all_numbered caller standing.clock first units)

dropped : (items : List (Item Handed)) → queue_of (drop 1 items) ≡ drop 1 (queue_of items)
dropped [] = refl
dropped (item ∷ items) = refl

-- One event.

abbrev IsShown : State → Event → Stepped → Type 0
IsShown state event stepped = (caller : ℕ) (standing : Standing) → Shows standing state → Shows (seen_by standing caller event stepped.answer) stepped.state

unchanged : (state : State) (event : Event) (answer : Answer) → ShowsNothing answer → IsShown state event (record { answer = answer; state = state; invocations = [] })
unchanged state event answer nothing caller standing shows =
    subst (λ (s : Standing). Shows s state) (sym (nothing_seen standing caller event answer nothing)) shows

decided_shown : (state : State) (event : Event) → IsShown state event (decided state event)
decided_shown state event =
    decided_so (IsShown state) state event (record {
      refused = λ asked answer un. unchanged state asked answer (refusal_shows answer un);
      enrolled = λ caller standing shows. record { late = shows.late; clock = shows.clock; methods = shows.methods; queue = shows.queue };
      queued = λ packet caller standing shows. record {
        late = shows.late;
        clock = shows.clock;
        methods = shows.methods;
        queue = all_entered (kept_handed standing caller state.next_unit (units_read packet)) standing.waiting
            ∙ ap (λ (l : List Queued). enter_all l (queue_of standing.waiting)) (all_kept standing caller state.next_unit (units_read packet))
            ∙ ap (λ (late : Late). enter_all (kept_numbered late standing.clock state.next_unit (units_read packet)) (queue_of standing.waiting)) shows.late
            ∙ ap (λ (clock : ℕ). enter_all (kept_numbered state.caps.late clock state.next_unit (units_read packet)) (queue_of standing.waiting)) shows.clock
            ∙ ap (enter_all (kept_numbered state.caps.late state.clock state.next_unit (units_read packet))) shows.queue;
      };
      added = λ address caller standing shows. record {
        late = shows.late;
        clock = shows.clock;
        methods = ap (λ (l : List Method). l ++ record { id = state.next_id; address = address } ∷ []) shows.methods;
        queue = shows.queue;
      };
      removed = λ address id caller standing shows. record {
        late = shows.late;
        clock = shows.clock;
        methods = ap (λ (l : List Method). without l address) shows.methods;
        queue = shows.queue;
      };
      ticked = λ now later caller standing shows. record { late = shows.late; clock = refl; methods = shows.methods; queue = shows.queue };
      released = λ unit units is caller standing shows. record {
        late = shows.late;
        clock = shows.clock;
        methods = shows.methods;
        queue = dropped standing.waiting ∙ ap (drop 1) (shows.queue ∙ is);
      };
    })

-- what is seen after a step is what there is to see
pub step_shown : (state : State) (event : Event) → IsShown state event (step state event)
step_shown state event =
    step_so (IsShown state event) state event (record {
      silent = λ none. decided_shown state event;
      full = λ some few. unchanged state event _
          (record { submits = λ s c u. refl; adds = λ s a. refl; removes = λ s a. refl; ticks = λ s n. refl; releases = λ s. refl });
      room = λ some fits caller standing shows.
          let shown = decided_shown state event caller standing shows in
          record { late = shown.late; clock = shown.clock; methods = shown.methods; queue = shown.queue };
    })

-- what is seen of an entry of a legal history
pub entry_shown : (state : State) (standing : Standing) (entry : Entry) → entry.answer ≡ (step state entry.event).answer → Shows standing state
    → Shows (seen standing entry) (step state entry.event).state
entry_shown state standing entry is shows =
    let shown = subst (λ (answer : Answer). Shows (seen_by standing entry.caller entry.event answer) (step state entry.event).state) (sym is)
    (step_shown state entry.event entry.caller standing shows)
    in
    record { late = shown.late; clock = shown.clock; methods = shown.methods; queue = shown.queue }

-- and after a history
pub history_shown : (state : State) (standing : Standing) (entries : List Entry) → LegalFrom state entries → Shows standing state
    → Shows (seen_all standing entries) (after state entries)
history_shown state standing [] legal shows = shows
history_shown state standing (entry ∷ entries) legal shows =
    history_shown (step state entry.event).state (seen standing entry) entries legal.4 (entry_shown state standing entry legal.3 shows)
