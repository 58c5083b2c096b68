-- Releases, one after another.
use Rattle.std.proofs.Common.{◌≡◌, ℕ, zero, suc, ◌<◌, Bool, true, false, cond, nat_le, List, [], ◌∷◌, length, Option, Some, refl, sym, ap, ◌∙◌, arith}
use Rattle.osc_queue.specs.Timed.{due_of}
use Rattle.osc_model.specs.State.{State, Queued}
use Rattle.osc_model.specs.Events.{release, Answer, released, nothing_due, record_full, adds_entry, Entry, Hit, Room}
use Rattle.osc_model.specs.Heard.{Told, all_hear}
use Rattle.osc_model.specs.Releases.{InvokesRegistered}
use Rattle.osc_model.specs.Step.{Stepped, step, decided, leaves, releases, release_first}
use Rattle.osc_model.specs.History.{Performance, after, state_of, stepped_in, onward, HaveHeard}
use Rattle.osc_model.proofs.Stepping.{step_so}
use Rattle.osc_model.proofs.Onward.{onward_state}
use Rattle.osc_player.specs.Plain.{entry_of, is_released, pumped, pump}
use Rattle.osc_player.specs.Bank.{Meaning}
use Rattle.osc_player.specs.Tally.{played_on, IsAt}
use Rattle.osc_player.proofs.Hearing.{HearsCalls}
use Rattle.osc_player.proofs.Places.{at_released}
use Rattle.osc_player.proofs.Onward.{on_none, on_more, on_state, onward_none, onward_one}

-- what a release comes to: a unit leaves, or none
pub record ReleaseWay (state : State) (stepped : Stepped) : Type 0 where
  pub same_ids : stepped.state.next_id ≡ state.next_id
  pub stays : is_released stepped.answer ≡ false → adds_entry stepped.answer ≡ false
  pub shorter : is_released stepped.answer ≡ true → length state.queue ≡ suc (length stepped.state.queue)

decides : (state : State) (recorded : ℕ) → ReleaseWay state (decided state release)
    × ReleaseWay state (record (decided state release) { state = record (decided state release).state { recorded = recorded } })
decides state recorded = go state.queue refl where
  noted : Stepped → Stepped
  noted stepped = record stepped { state = record stepped.state { recorded = recorded } }

  go : (queue : List Queued) → state.queue ≡ queue → ReleaseWay state (release_first state queue) × ReleaseWay state (noted (release_first state queue))
  go [] is = (
    record { same_ids = refl; stays = λ none. refl; shorter = λ some. absurd (cc) },
    record {
      same_ids = refl;
      stays = λ none. refl;
      shorter = λ some. absurd (cc);
    },
  )
  go (unit ∷ units) is = due (nat_le (due_of unit) state.clock) where
    due : (t : Bool) → ReleaseWay state (cond t (releases state unit units) (leaves state (nothing_due (Some (due_of unit)))))
        × ReleaseWay state (noted (cond t (releases state unit units) (leaves state (nothing_due (Some (due_of unit))))))
    due true = (
      record { same_ids = refl; stays = λ none. absurd (cc); shorter = λ some. ap (λ (q : List Queued). length q) is },
      record {
        same_ids = refl;
        stays = λ none. absurd (cc);
        shorter = λ some. ap (λ (q : List Queued). length q) is;
      },
    )
    due false = (
      record { same_ids = refl; stays = λ none. refl; shorter = λ some. absurd (cc) },
      record {
        same_ids = refl;
        stays = λ none. refl;
        shorter = λ some. absurd (cc);
      },
    )

pub release_way : (state : State) → ReleaseWay state (step state release)
release_way state =
    step_so (ReleaseWay state) state release
    (record {
      silent = λ none. (decides state 0).0;
      full = λ adds full. record { same_ids = refl; stays = λ none. refl; shorter = λ some. absurd (cc) };
      room = λ adds fits. (decides state _).1;
    })

released_adds : (answer : Answer) → is_released answer ≡ true → adds_entry answer ≡ true
released_adds (released unit hits) is = refl
released_adds _ is = absurd (cc)

-- a release that takes a unit: the pump goes on with a shorter queue
pub record PumpsOn (performance performance' : Performance) : Type 0 where
  pub same_end : played_on performance' (pump (state_of performance')) ≡ played_on performance (pump (state_of performance))
  pub shorter : length (state_of performance').queue < length (state_of performance).queue

pub pump_on : (performance performance' : Performance) → performance' ≡ onward performance 0 release
    → is_released (stepped_in performance release).answer ≡ true → PumpsOn performance performance'
pump_on performance performance' next is =
    let state = state_of performance in
    let entry = entry_of state release in
    let after_it = (step state release).state in
    let one : performance' ≡ played_on performance (entry ∷ []) = next ∙ onward_one performance release (released_adds (step state release).answer is) in
    let then : state_of performance' ≡ after_it = ap (λ (p : Performance). state_of p) next ∙ onward_state performance 0 release in
    let fewer : length state.queue ≡ suc (length after_it.queue) = (release_way state).shorter is in
    let goes_on : pump state ≡ entry ∷ pump after_it =
    ap (λ (n : ℕ). pumped n state) fewer ∙ ap (λ (t : Bool). cond {A = List Entry} t (entry ∷ pumped (length after_it.queue) after_it) []) is in
    record {
      same_end =
          ap (λ (s : State). played_on performance' (pump s)) then
          ∙ ap (λ (p : Performance). played_on p (pump after_it)) one
          ∙ on_more performance (entry ∷ []) (pump after_it)
          ∙ ap (λ (entries : List Entry). played_on performance entries) (sym goes_on);
      shorter = omega (arith, fewer, ap (λ (s : State). length s.queue) then);
    }

pump_ends : (state : State) (n : ℕ) → is_released (step state release).answer ≡ false → pumped n state ≡ []
pump_ends state zero is = refl
pump_ends state (suc n) is = ap (λ (t : Bool). cond {A = List Entry} t (entry_of state release ∷ pumped n (step state release).state) []) is

not_released : (t : Bool) → (t ≡ true → ⊥) → t ≡ false
not_released true never = absurd (never refl)
not_released false never = refl

-- after as many releases as units are queued none is released
pub drained : (n : ℕ) (state : State) → length state.queue ≡ n → is_released (step (after state (pumped n state)) release).answer ≡ false
drained zero state is = not_released (is_released (step state release).answer) (λ taken. omega (arith, (release_way state).shorter taken, is))
drained (suc n) state is = go (is_released (step state release).answer) refl (drained n after_it) where
  after_it : State
  after_it = (step state release).state

  go : (t : Bool) → is_released (step state release).answer ≡ t
      → (length after_it.queue ≡ n → is_released (step (after after_it (pumped n after_it)) release).answer ≡ false)
      → is_released (step (after state (cond {A = List Entry} t (entry_of state release ∷ pumped n after_it) [])) release).answer ≡ false
  go true taken more = more (omega (arith, (release_way state).shorter taken, is))
  go false none more = none

-- a release that takes none: the pump is over
pub pump_over : (performance performance' : Performance) → performance' ≡ onward performance 0 release
    → is_released (stepped_in performance release).answer ≡ false → performance' ≡ played_on performance (pump (state_of performance))
pump_over performance performance' next is =
    next ∙ onward_none performance release ((release_way (state_of performance)).stays is)
    ∙ sym (on_none performance)
    ∙ sym (ap (λ (entries : List Entry). played_on performance entries) (pump_ends (state_of performance) (length (state_of performance).queue) is))

-- where it is over, it is in the state after its entries
pub state_over : (performance whole : Performance) (entries : List Entry) → is_released (stepped_in performance release).answer ≡ false
    → played_on performance (pump (state_of performance)) ≡ played_on whole entries → state_of performance ≡ after (state_of whole) entries
state_over performance whole entries is same =
    sym (ap (λ (p : Performance). state_of p)
    (ap (λ (l : List Entry). played_on performance l) (pump_ends (state_of performance) (length (state_of performance).queue) is) ∙ on_none performance))
    ∙ ap (λ (p : Performance). state_of p) same ∙ on_state whole entries

pub not_due : (performance : Performance) (next : Option ℕ) → (stepped_in performance release).answer ≡ nothing_due next
    → is_released (stepped_in performance release).answer ≡ false
not_due performance next is = ap is_released is

pub no_room : (performance : Performance) (room : Room) → (stepped_in performance release).answer ≡ record_full room
    → is_released (stepped_in performance release).answer ≡ false
no_room performance room is = ap is_released is

pub is_taken : (performance : Performance) (unit calls : ℕ)
    → (hits : List Hit) × ((stepped_in performance release).answer ≡ released unit hits) × (calls ≡ length hits)
    → is_released (stepped_in performance release).answer ≡ true
is_taken performance unit calls told = ap is_released told.1

-- a release, one turn on
pub turn_at : {X : Type 0} (meaning : X → Meaning) (bank : List X) (performance performance' : Performance) → HearsCalls
    → InvokesRegistered (state_of performance) (stepped_in performance release) → performance' ≡ onward performance 0 release
    → (boxes boxes' removed : List Told) (left rest : List X) → boxes' ≡ all_hear (stepped_in performance release).invocations boxes
    → HaveHeard performance boxes
    → IsAt meaning bank performance boxes removed left rest → IsAt meaning bank performance' boxes' removed left rest
turn_at meaning bank performance performance' law registered next boxes boxes' removed left rest heard have at =
    at_released meaning bank performance performance' release next law registered (λ answer. refl)
    (release_way (state_of performance)).same_ids boxes boxes' removed left rest heard have at
