-- What becomes of the boxes that a program is handed: which were added and what they heard, and
-- which are left.
use Rattle.std.specs.Prelude.{◌≡◌, ℕ, ◌≤◌, List, [], ◌∷◌, ◌++◌, map, length, Option}
use Rattle.std.specs.Option.{option_map}
use Rattle.osc_method.specs.Heard.{Fixed}
use Rattle.osc_model.specs.Limits.{Limits}
use Rattle.osc_model.specs.State.{opening}
use Rattle.osc_model.specs.Events.{Event, add, Answer, added, Entry, Invocation}
use Rattle.osc_model.specs.Heard.{Told, heard_of}
use Rattle.osc_model.specs.History.{Legal, invocations}
use Rattle.osc_core.specs.Telling.{told}
use Rattle.osc_laws.specs.Laws.{KeepsTheLaws}
use Rattle.osc_script.specs.declared.line.Line.{Line}
use Rattle.osc_script.specs.Adds.{count_adds}
use Rattle.osc_player.specs.Plain.{plain}

-- what no call of a box changes, and the bytes that it tells, where it tells
pub record Meaning : Type 0 where
  pub keep : Fixed
  pub heard : Option (List ℕ)

-- what no call of a box changes, and what it tells
abbrev pub meaning : {M : Type 0} → (M → Fixed) → (M → Option (List ℕ)) → M → Meaning
meaning keep tells box = record { keep = keep box; heard = tells box }

abbrev pub answer_to_add : Event → Answer → List Answer
answer_to_add (add address) answer = answer ∷ []
answer_to_add event answer = []

-- what the adds of a history are answered, in order; the first add gets the first box, the second
-- the second
abbrev pub add_answers : List Entry → List Answer
add_answers [] = []
add_answers (entry ∷ entries) = answer_to_add entry.event entry.answer ++ add_answers entries

-- a box that is added, with what a method of its id has heard of these invocations, where it tells
abbrev pub box_heard : List Invocation → Answer → Meaning → List Told
box_heard calls (added id) box =
    record {
      id = id;
      keep = box.keep;
      heard = option_map (λ _. heard_of calls id box.keep.most) box.heard;
    } ∷ []
box_heard calls _ box = []

-- the boxes that are added, in the order of their ids
abbrev pub boxes_heard : List Invocation → List Answer → List Meaning → List Told
boxes_heard calls [] bank = []
boxes_heard calls (answer ∷ answers) [] = []
boxes_heard calls (answer ∷ answers) (box ∷ bank) =
    box_heard calls answer box ++ boxes_heard calls answers bank

module _ {X : Type 0} where
  -- a box that isn't added
  abbrev pub box_left : Answer → X → List X
  box_left (added id) box = []
  box_left _ box = box ∷ []

  -- the boxes that aren't added, and those after the last add
  abbrev pub boxes_left : List Answer → List X → List X
  boxes_left [] bank = bank
  boxes_left (answer ∷ answers) [] = []
  boxes_left (answer ∷ answers) (box ∷ bank) = box_left answer box ++ boxes_left answers bank

-- what the boxes of a bank have heard after a history of a server with these limits
abbrev pub heard_after : Limits → List Entry → List Meaning → List Told
heard_after caps history bank =
    boxes_heard (invocations (opening caps) history) (add_answers history) bank

-- The result of a bank: there was a box for each add of the lines; their history is a legal one, and
-- keeps the four laws; the boxes that were added have heard what it says; and the others are left,
-- as they were.
pub record IsAccounted {M : Type 0} (keep : M → Fixed) (tells : M → Option (List ℕ)) (caps : Limits)
    (lines : List Line) (bank : List M) (heard : List (ℕ × M)) (left : List M) : Type 0 where
  pub enough : count_adds lines ≤ length bank
  pub legal : Legal caps (plain caps lines).history
  pub laws : KeepsTheLaws caps (plain caps lines).history
  pub boxes : told keep tells heard
      ≡ heard_after caps (plain caps lines).history (map (meaning keep tells) bank)
  pub others : left ≡ boxes_left (add_answers (plain caps lines).history) bank
