-- Inside the crate: what a server that plays a script has come to, some entries on.
use Rattle.std.specs.Prelude.{◌≡◌, ℕ, ◌<◌, List, [], ◌∷◌, ◌++◌, length, map, drop}
use Rattle.std.specs.Prelude.{Option, Some, None}
use Rattle.std.specs.List.{AllByRecursion}
use Rattle.std.specs.List.Sorted.{IsPermutation}
use Rattle.osc_atoms.specs.declared.room.Room.{Room}
use Rattle.osc_model.specs.Events.{Answer, Entry, Invocation}
use Rattle.osc_model.specs.Heard.{Told}
use Rattle.osc_model.specs.History.{Performance, state_of, invoked_in}
use Rattle.osc_player.specs.Bank.{Meaning, add_answers, box_left, boxes_left, boxes_heard}

-- a performance, some entries on
abbrev pub played_on : Performance → List Entry → Performance
played_on performance entries = record performance { history = performance.history ++ entries }

-- the boxes of the adds that were refused
abbrev pub refused_boxes : {X : Type 0} → List Answer → List X → List X
refused_boxes [] bank = []
refused_boxes (answer ∷ answers) [] = []
refused_boxes (answer ∷ answers) (box ∷ bank) = box_left answer box ++ refused_boxes answers bank

-- each id is below those after it
abbrev pub IsRising : List Told → Type 0
IsRising [] = Unit {0}
IsRising (box ∷ boxes) = AllByRecursion (λ other. box.id < other.id) boxes × IsRising boxes

-- After calls, and answers to adds that were given a bank: the boxes that were refused, and those
-- that no add has taken; and the boxes that the server has and those that were removed, which have
-- heard the calls. Ids rise, and each that was given or called is below the next one.
pub record Tally {X : Type 0} (meaning : X → Meaning) (calls : List Invocation)
    (answers : List Answer) (bank : List X) (next : ℕ) (boxes removed : List Told)
    (left rest : List X) : Type 0 where
  pub refused : left ≡ refused_boxes answers bank
  pub waiting : rest ≡ drop (length answers) bank
  pub told : IsPermutation (boxes_heard calls answers (map meaning bank)) (boxes ++ removed)
  pub rising : IsRising (boxes_heard calls answers (map meaning bank))
  pub below : AllByRecursion (λ box. box.id < next) (boxes_heard calls answers (map meaning bank))
  pub given : AllByRecursion (λ call. call.call.id < next) calls

-- the tally after a performance
abbrev pub IsAt : {X : Type 0} → (X → Meaning) → List X → Performance → List Told → List Told
    → List X → List X → Type 0
IsAt meaning bank performance boxes removed left rest =
    Tally meaning (invoked_in performance) (add_answers performance.history) bank
    (state_of performance).next_id boxes removed left rest

-- The same where the last add may have no entry: the box that it was given is among the others.
pub record IsOver {X : Type 0} (meaning : X → Meaning) (bank : List X) (performance : Performance)
    (boxes removed : List Told) (left rest : List X) : Type 0 where
  pub others : left ++ rest ≡ boxes_left (add_answers performance.history) bank
  pub told : IsPermutation
      (boxes_heard (invoked_in performance) (add_answers performance.history) (map meaning bank))
      (boxes ++ removed)
  pub rising : IsRising
      (boxes_heard (invoked_in performance) (add_answers performance.history) (map meaning bank))

-- where a line stops the script, it is over
abbrev pub IsAtUnless : Option Room → {X : Type 0} → (X → Meaning) → List X → Performance
    → List Told → List Told → List X → List X → Type 0
IsAtUnless None meaning bank performance boxes removed left rest =
    IsAt meaning bank performance boxes removed left rest
IsAtUnless (Some room) meaning bank performance boxes removed left rest =
    IsOver meaning bank performance boxes removed left rest
