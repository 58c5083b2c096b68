-- What is read off a legal history is so in the state after it.
use Rattle.std.proofs.Common.{◌≡◌, ℕ, zero, suc, ◌+◌, List, [], ◌∷◌, ◌++◌, length, refl, sym, ap, ◌∙◌, arith}
use Rattle.osc_packet.specs.Reading.{units_read}
use Rattle.osc_model.specs.Limits.{Limits}
use Rattle.osc_model.specs.State.{State, opening}
use Rattle.osc_model.specs.Events.{Event, enrol, submit, add, remove, tick, release, Answer, callers_full, units_full, pool_full, refused, not_there}
use Rattle.osc_model.specs.Events.{clock_back, nothing_due, record_full, Entry}
use Rattle.osc_model.specs.Refusals.{IsRefusal}
use Rattle.osc_laws.specs.Once.{given_in}
use Rattle.osc_laws.specs.Facts.{ticked_to, clock_by, clock_from, clock_in}
use Rattle.osc_model.specs.Passing.{queued_in, numbers_from}
use Rattle.osc_model.specs.Step.{step}
use Rattle.osc_model.specs.History.{LegalFrom, Legal, after}
use Rattle.osc_model.proofs.Stepping.{step_so, decided_so}

refused_tick : (now clock : ℕ) (answer : Answer) → IsRefusal answer → clock ≡ ticked_to now answer clock
refused_tick now clock callers_full is = refl
refused_tick now clock (units_full room) is = refl
refused_tick now clock (pool_full room) is = refl
refused_tick now clock (refused why) is = refl
refused_tick now clock not_there is = refl
refused_tick now clock (clock_back kept) is = refl
refused_tick now clock (nothing_due next) is = refl
refused_tick now clock (record_full room) is = refl
refused_tick now clock _ is = absurd is

refused_clock : (event : Event) (answer : Answer) (clock : ℕ) → IsRefusal answer → clock ≡ clock_by event answer clock
refused_clock enrol answer clock is = refl
refused_clock (submit packet) answer clock is = refl
refused_clock (add address) answer clock is = refl
refused_clock (remove address) answer clock is = refl
refused_clock (tick now) answer clock is = refused_tick now clock answer is
refused_clock release answer clock is = refl

step_clock : (state : State) (event : Event) → (step state event).state.clock ≡ clock_by event (step state event).answer state.clock
step_clock state event =
    let here =
    decided_so (λ event stepped. stepped.state.clock ≡ clock_by event stepped.answer state.clock) state event
    (record {
      refused = λ event answer is. refused_clock event answer state.clock is;
      enrolled = refl;
      queued = λ packet. refl;
      added = λ address. refl;
      removed = λ address id. refl;
      ticked = λ now later. refl;
      released = λ unit units first. refl;
    }) in
    step_so (λ stepped. stepped.state.clock ≡ clock_by event stepped.answer state.clock) state event
    (record { silent = λ none. here; full = λ some full. refused_clock event _ state.clock tt; room = λ some fits. here })

pub clock_read : (state : State) (history : List Entry) → LegalFrom state history → (after state history).clock ≡ clock_from state.clock history
clock_read state [] legal = refl
clock_read state (entry ∷ entries) legal =
    clock_read (step state entry.event).state entries legal.4
    ∙ ap (λ (c : ℕ). clock_from c entries) (step_clock state entry.event ∙ ap (λ (a : Answer). clock_by entry.event a state.clock) (sym legal.3))

pub clock_is : (caps : Limits) (history : List Entry) → Legal caps history → (after (opening caps) history).clock ≡ clock_in history
clock_is caps history legal = clock_read (opening caps) history legal.1

-- The numbers of accepted units have no gap.

refused_numbers : (answer : Answer) → IsRefusal answer → queued_in answer ≡ []
refused_numbers callers_full is = refl
refused_numbers (units_full room) is = refl
refused_numbers (pool_full room) is = refl
refused_numbers (refused why) is = refl
refused_numbers not_there is = refl
refused_numbers (clock_back kept) is = refl
refused_numbers (nothing_due next) is = refl
refused_numbers (record_full room) is = refl
refused_numbers _ is = absurd is

-- an answer gives the next numbers
record GivesNext (state : State) (next : ℕ) (answer : Answer) : Type 0 where
  count : ℕ
  numbers : queued_in answer ≡ numbers_from state.next_unit count
  grows : next ≡ state.next_unit + count

none_given : (state : State) (answer : Answer) → queued_in answer ≡ [] → GivesNext state state.next_unit answer
none_given state answer none = record { count = 0; numbers = none; grows = omega arith }

step_numbers : (state : State) (event : Event) → GivesNext state (step state event).state.next_unit (step state event).answer
step_numbers state event =
    let here =
    decided_so (λ event stepped. GivesNext state stepped.state.next_unit stepped.answer) state event
    (record {
      refused = λ event answer is. none_given state answer (refused_numbers answer is);
      enrolled = none_given state _ refl;
      queued = λ packet. record { count = length (units_read packet); numbers = refl; grows = refl };
      added = λ address. none_given state _ refl;
      removed = λ address id. none_given state _ refl;
      ticked = λ now later. none_given state _ refl;
      released = λ unit units first. none_given state _ refl;
    }) in
    step_so (λ stepped. GivesNext state stepped.state.next_unit stepped.answer) state event
    (record { silent = λ none. here; full = λ some full. none_given state _ refl; room = λ some fits. here })

numbers_more : (first a b : ℕ) → numbers_from first (a + b) ≡ numbers_from first a ++ numbers_from (first + a) b
numbers_more first zero b = (λ i. numbers_from (sym (zero_right first) i) (zero_left b i)) where
  zero_right : (n : ℕ) → n + 0 ≡ n
  zero_right n = omega arith

  zero_left : (n : ℕ) → 0 + n ≡ n
  zero_left n = omega arith
numbers_more first (suc a) b =
    let moved : suc a + b ≡ suc (a + b) = omega arith in
    let place : first + 1 + a ≡ first + suc a = omega arith in
    ap (numbers_from first) moved ∙ ap (λ (l : List ℕ). first ∷ l)
    (numbers_more (first + 1) a b ∙ ap (λ (n : ℕ). numbers_from (first + 1) a ++ numbers_from n b) place)

pub record AreGiven (state : State) (history : List Entry) : Type 0 where
  pub count : ℕ
  pub numbers : given_in history ≡ numbers_from state.next_unit count
  pub grows : (after state history).next_unit ≡ state.next_unit + count

pub numbers_given : (state : State) (history : List Entry) → LegalFrom state history → AreGiven state history
numbers_given state [] legal = record { count = 0; numbers = refl; grows = omega arith }
numbers_given state (entry ∷ entries) legal =
    let next = (step state entry.event).state in
    let one = step_numbers state entry.event in
    let rest = numbers_given next entries legal.4 in
    let here : queued_in entry.answer ≡ numbers_from state.next_unit one.count = ap queued_in legal.3 ∙ one.numbers in
    record {
      count = one.count + rest.count;
      numbers = (λ i. here i ++ rest.numbers i) ∙ ap (λ (n : ℕ). numbers_from state.next_unit one.count ++ numbers_from n rest.count) one.grows
          ∙ sym (numbers_more state.next_unit one.count rest.count);
      grows = omega (arith, rest.grows, one.grows);
    }
