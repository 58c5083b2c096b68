-- Releases, one after another, and where they end.
use Rattle.std.proofs.Common.{◌≡◌, ℕ, zero, suc, ◌≤◌, Bool, true, false, cond, List, [], ◌∷◌, ◌++◌, length, refl, ap, ◌∙◌, arith}
use Rattle.osc_model.specs.State.{State, Queued}
use Rattle.osc_model.specs.Events.{Event, release, Answer, released, Entry}
use Rattle.osc_model.specs.History.{after}
use Rattle.osc_model.specs.Refusals.{IsRefusal}
use Rattle.osc_model.specs.Step.{Stepped, step, decided}
use Rattle.osc_model.proofs.Stepping.{step_so, decided_so}
use Rattle.osc_player.specs.Plain.{entry_of, is_released, pumped}

not_refused : (answer : Answer) → IsRefusal answer → is_released answer ≡ true → ⊥
not_refused (released unit hits) is some = is
not_refused _ is some = absurd (cc)

-- a release that takes a unit leaves a shorter queue
shorter : (state : State) → is_released (step state release).answer ≡ true → length state.queue ≡ suc (length (step state release).state.queue)
shorter state =
    step_so Goes state release (record { silent = λ none. here; full = λ some full is. absurd (cc); room = λ some fits. here })
  where
    Goes : Stepped → Type 0
    Goes stepped = is_released stepped.answer ≡ true → length state.queue ≡ suc (length stepped.state.queue)

    here : Goes (decided state release)
    here =
        decided_so (λ (e : Event) (s : Stepped). is_released s.answer ≡ true → length state.queue ≡ suc (length s.state.queue)) state release
        (record {
          refused = λ event answer is some. absurd (not_refused answer is some);
          enrolled = λ some. absurd (cc);
          queued = λ packet some. absurd (cc);
          added = λ address some. absurd (cc);
          removed = λ address id some. absurd (cc);
          ticked = λ now on some. absurd (cc);
          released = λ unit units is some. ap (λ (q : List Queued). length q) is;
        })

-- so many releases
abbrev pub released_for : ℕ → State → List Entry
released_for zero state = []
released_for (suc count) state = entry_of state release ∷ released_for count (step state release).state

abbrev pub AreReleased : ℕ → State → Type 0
AreReleased zero state = Unit {0}
AreReleased (suc count) state = (is_released (step state release).answer ≡ true) × AreReleased count (step state release).state

pub one_more : (count : ℕ) (state : State)
    → released_for count state ++ entry_of (after state (released_for count state)) release ∷ [] ≡ released_for (suc count) state
one_more zero state = refl
one_more (suc count) state = ap (λ (l : List Entry). entry_of state release ∷ l) (one_more count (step state release).state)

pub all_more : (count : ℕ) (state : State) → AreReleased count state → is_released (step (after state (released_for count state)) release).answer ≡ true
    → AreReleased (suc count) state
all_more zero state all one = (one, tt)
all_more (suc count) state all one = (all.0, all_more count (step state release).state all.1 one)

-- they are those of a pump, where the next one takes none
pub pumped_is : (most count : ℕ) (state : State) → AreReleased count state
    → is_released (step (after state (released_for count state)) release).answer ≡ false → length state.queue ≤ most
    → pumped most state ≡ released_for count state
pumped_is zero zero state all ends few = refl
pumped_is zero (suc count) state all ends few = absurd (omega (arith, shorter state all.0, few))
pumped_is (suc most) zero state all ends few =
    ap (λ (t : Bool). cond {A = List Entry} t (entry_of state release ∷ pumped most (step state release).state) []) ends
pumped_is (suc most) (suc count) state all ends few =
    ap (λ (t : Bool). cond {A = List Entry} t (entry_of state release ∷ pumped most (step state release).state) []) all.0
    ∙ ap (λ (l : List Entry). entry_of state release ∷ l)
    (pumped_is most count (step state release).state all.1 ends (omega (arith, shorter state all.0, few)))
