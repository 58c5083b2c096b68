-- A recording that has as many bytes as events take has room for each of them.
use Rattle.std.proofs.Common.{◌≡◌, ℕ, ◌+◌, ◌-◌, ◌≤◌, ◌==◌, Bool, true, false, cond, nat_le, nat_lt, List, [], ◌∷◌, length, Option, Some, None, refl, sym, ap, subst, arith}
use Rattle.osc_packet.specs.Units.{TimedUnit, blocks_of}
use Rattle.osc_packet.specs.Reading.{units_read}
use Rattle.osc_queue.specs.Timed.{due_of}
use Rattle.osc_tree.specs.Registry.{id_at}
use Rattle.osc_tree.specs.Adding.{Refusal, add_refusal}
use Rattle.osc_model.specs.State.{Queued, State, registry}
use Rattle.osc_model.specs.Counts.{free_places, free_blocks}
use Rattle.osc_model.specs.Recordings.{entry_size}
use Rattle.osc_model.specs.Events.{Event, enrol, submit, add, remove, tick, release, Answer, number, callers_full, queued, units_full, pool_full, ticked}
use Rattle.osc_model.specs.Events.{clock_back, nothing_due, adds_entry, room_in}
use Rattle.osc_model.specs.Step.{Stepped, decided, leaves, kept_units, after_submit, add_at, remove_at, releases, release_first}
use Rattle.osc_model.proofs.Stepping.{step_so}
use Rattle.osc_alike.specs.Alike.{HaveRoom}
use Rattle.osc_chain_laws.specs.Reels.{taken_by}

-- the same state on a server whose recording may have so many bytes, and has so many
abbrev pub placed : ℕ → ℕ → State → State
placed room used state = record state { caps = record state.caps { recording = room }; recorded = used }

abbrev placed_step : ℕ → ℕ → Stepped → Stepped
placed_step room used stepped = record stepped { state = placed room used stepped.state }

-- there an event is decided as it is here, and never that there is no room
record IsDecided (room used : ℕ) (one other : Stepped) : Type 0 where
  same : other ≡ placed_step room used one
  fits : room_in one.answer ≡ None

decided_there : (room used : ℕ) (state : State) (event : Event) → IsDecided room used (decided state event) (decided (placed room used state) event)
decided_there room used state enrol = go (state.callers == state.caps.callers) where
  there : State
  there = placed room used state

  go : (t : Bool)
      → IsDecided room used (cond t (leaves state callers_full) (leaves (record state { callers = state.callers + 1 }) (number state.callers)))
      (cond t (leaves there callers_full) (leaves (record there { callers = there.callers + 1 }) (number there.callers)))
  go true = record { same = refl; fits = refl }
  go false = record { same = refl; fits = refl }
decided_there room used state (submit packet) =
    go (units_read packet) (kept_units state (units_read packet)) (nat_lt (free_places state) (length (kept_units state (units_read packet))))
    (nat_lt (free_blocks state) (blocks_of (kept_units state (units_read packet))))
  where
    there : State
    there = placed room used state

    by : State → List TimedUnit → List TimedUnit → Bool → Bool → Stepped
    by s units keeps t u =
        cond t (leaves s (units_full (record { need = length keeps; free = free_places s })))
        (cond u (leaves s (pool_full (record { need = blocks_of keeps; free = free_blocks s })))
        (leaves (after_submit s units) (queued s.next_unit (length units) (length units - length keeps))))

    go : (units keeps : List TimedUnit) (t u : Bool) → IsDecided room used (by state units keeps t u) (by there units keeps t u)
    go units keeps true u = record { same = refl; fits = refl }
    go units keeps false true = record { same = refl; fits = refl }
    go units keeps false false = record { same = refl; fits = refl }
decided_there room used state (add address) = go (add_refusal (registry state) address) where
  go : (refusal : Option Refusal) → IsDecided room used (add_at state address refusal) (add_at (placed room used state) address refusal)
  go None = record { same = refl; fits = refl }
  go (Some refusal) = record { same = refl; fits = refl }
decided_there room used state (remove address) = go (id_at state.methods address) where
  go : (found : Option ℕ) → IsDecided room used (remove_at state address found) (remove_at (placed room used state) address found)
  go None = record { same = refl; fits = refl }
  go (Some id) = record { same = refl; fits = refl }
decided_there room used state (tick now) = go (nat_lt now state.clock) where
  there : State
  there = placed room used state

  go : (t : Bool)
      → IsDecided room used (cond t (leaves state (clock_back state.clock)) (leaves (record state { clock = now }) ticked))
      (cond t (leaves there (clock_back there.clock)) (leaves (record there { clock = now }) ticked))
  go true = record { same = refl; fits = refl }
  go false = record { same = refl; fits = refl }
decided_there room used state release = go state.queue where
  there : State
  there = placed room used state

  go : (queue : List Queued) → IsDecided room used (release_first state queue) (release_first there queue)
  go [] = record { same = refl; fits = refl }
  go (unit ∷ units) = cases (nat_le (due_of unit) state.clock) where
    cases : (t : Bool)
        → IsDecided room used (cond t (releases state unit units) (leaves state (nothing_due (Some (due_of unit)))))
        (cond t (releases there unit units) (leaves there (nothing_due (Some (due_of unit)))))
    cases true = record { same = refl; fits = refl }
    cases false = record { same = refl; fits = refl }

-- how many bytes the entry of an answer takes
abbrev size_if : Event → Answer → ℕ
size_if event answer = cond (adds_entry answer) (entry_size event answer) 0

size_added : (event : Event) (answer : Answer) → adds_entry answer ≡ true → size_if event answer ≡ entry_size event answer
size_added event answer adds = ap (λ (t : Bool). cond t (entry_size event answer) 0) adds

pub have_room_for : (room used : ℕ) (state : State) (events : List Event) → used + taken_by state events ≤ room → HaveRoom (placed room used state) events
have_room_for room used state [] fits = tt
have_room_for room used state (event ∷ events) fits =
    step_so (λ (s : Stepped). (room_in s.answer ≡ None) × HaveRoom s.state events) there event
    (record {
      silent = λ none. (
        here.1,
        subst (λ (s : Stepped). HaveRoom s.state events) (sym is.same)
            (have_room_for room used (decided state event).state events (omega (arith, fits))),
      );
      full = λ adds full. absurd (omega (arith, fits, full, sized adds));
      room = λ adds small. (
        here.1,
        subst (λ (s : Stepped). HaveRoom (record s.state { recorded = used + entry_size event s.answer }) events) (sym is.same)
            (have_room_for room (used + entry_size event (decided state event).answer) (decided state event).state events
            (omega (arith, fits, sized_here (here.0 adds)))),
      );
    })
  where
    there : State
    there = placed room used state

    is : IsDecided room used (decided state event) (decided there event)
    is = decided_there room used state event

    answers : (decided there event).answer ≡ (decided state event).answer
    answers = ap (λ (s : Stepped). s.answer) is.same

    here : (adds_entry (decided there event).answer ≡ true → adds_entry (decided state event).answer ≡ true) × (room_in (decided there event).answer ≡ None)
    here = (
      subst (λ (a : Answer). adds_entry (decided there event).answer ≡ true → adds_entry a ≡ true) answers (λ adds. adds),
      subst (λ (a : Answer). room_in a ≡ None) (sym answers) is.fits,
    )

    sized_here : adds_entry (decided state event).answer ≡ true
        → size_if event (decided state event).answer ≡ entry_size event (decided state event).answer
    sized_here = size_added event (decided state event).answer

    sized : adds_entry (decided there event).answer ≡ true
        → size_if event (decided state event).answer ≡ entry_size event (decided there event).answer
    sized adds = subst (λ (a : Answer). size_if event (decided state event).answer ≡ entry_size event a) (sym answers) (sized_here (here.0 adds))
