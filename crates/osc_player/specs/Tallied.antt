-- Inside the crate: what a player has made of the bank that it was handed.
use Rattle.std.specs.Prelude.{◌≡◌, ℕ, ◌+◌, ◌≤◌, IsTrue, List, ◌++◌, map, length, Option}
use Rattle.std.specs.Option.{option_map}
use Rattle.std.specs.Vec.Iter.{into_iter_items}
use Rattle.osc_atoms.specs.declared.room.Room.{Room}
use Rattle.osc_method.specs.Heard.{Fixed}
use Rattle.osc_method.specs.declared.method.Method.{Ghosts}
use Rattle.osc_model.specs.History.{Performance, state_of, invoked_in}
use Rattle.osc_record.specs.Shown.{room_of}
use Rattle.osc_core.specs.Ids.{is_ascending}
use Rattle.osc_core.specs.Telling.{told}
use Rattle.osc_script.specs.declared.act.Act.{Act}
use Rattle.osc_script.specs.declared.line.Line.{Line}
use Rattle.osc_player.specs.declared.player.Player.{Player}
use Rattle.osc_player.specs.Bank.{meaning, add_answers, boxes_heard, boxes_left}
use Rattle.osc_script.specs.Adds.{adds_of}
use Rattle.osc_player.specs.Plain.{LineFault, entries_of, stop_of, plain_from, printed_faults}
use Rattle.osc_player.specs.Tally.{IsAt, IsOver, IsAtUnless, played_on}

module _ {M : Type 0} {G : Ghosts M} (keep : M → Fixed) (heard : M → Option (List ℕ)) where
  -- each box of the bank is where the history says, with what it says
  abbrev pub HasTallied : List M → Player M G → Type 0
  HasTallied bank player =
      IsAt (meaning keep heard) bank player.core.performance
      (told keep heard player.core.boxes.items) (told keep heard player.removed.items)
      player.left.items (into_iter_items player.bank)

  -- the same where the last add may have no entry
  abbrev pub IsDone : List M → Player M G → Type 0
  IsDone bank player =
      IsOver (meaning keep heard) bank player.core.performance
      (told keep heard player.core.boxes.items) (told keep heard player.removed.items)
      player.left.items (into_iter_items player.bank)

  -- A line was played: its entries, the lines of its faults, and where it was stopped. It took at
  -- most one box, and only an add takes one. Where it stops the script, the boxes are done.
  pub record TalliesAct (act : Act) (said : List LineFault) (room : Option Room)
      (before after : Player M G) : Type 0 where
    pub performance : after.core.performance
        ≡ played_on before.core.performance (entries_of (state_of before.core.performance) act)
    pub faults : after.faults ≡ before.faults ++ printed_faults said
    pub stop : option_map room_of room ≡ stop_of (state_of before.core.performance) act
    pub waiting : length (into_iter_items before.bank)
        ≤ adds_of act + length (into_iter_items after.bank)
    pub boxes : (bank : List M) → HasTallied bank before
        → IsAtUnless room (meaning keep heard) bank after.core.performance
        (told keep heard after.core.boxes.items) (told keep heard after.removed.items)
        after.left.items (into_iter_items after.bank)

  -- lines were played, up to the first that stops the script
  pub record TalliesLines (lines : List Line) (room : Option Room) (before after : Player M G)
      : Type 0 where
    pub performance : after.core.performance
        ≡ played_on before.core.performance
        (plain_from (state_of before.core.performance) lines).history
    pub faults : after.faults
        ≡ before.faults
        ++ printed_faults (plain_from (state_of before.core.performance) lines).faults
    pub stop : option_map room_of room
        ≡ (plain_from (state_of before.core.performance) lines).stop
    pub boxes : (bank : List M) → HasTallied bank before → IsDone bank after

-- The boxes of a bank after a performance: those that were added by ascending ids, with what they
-- heard, and the others.
pub record AreParted {M : Type 0} (keep : M → Fixed) (tells : M → Option (List ℕ))
    (performance : Performance) (bank : List M) (heard : List (ℕ × M))
    (left : List M) : Type 0 where
  pub boxes : told keep tells heard
      ≡ boxes_heard (invoked_in performance) (add_answers performance.history)
      (map (meaning keep tells) bank)
  pub ascending : IsTrue (is_ascending (map (λ one. one.0) heard))
  pub others : left ≡ boxes_left (add_answers performance.history) bank
