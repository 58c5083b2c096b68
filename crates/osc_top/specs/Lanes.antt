-- The result of a run of lanes.
use Rattle.std.specs.Prelude.{◌≡◌, ℕ, Bool, zero, suc, ◌+◌, ◌==◌, max, List, [], ◌∷◌, ◌++◌}
use Rattle.std.specs.Prelude.{map, filter, drop, Option, None, if◌then◌else◌}
use Rattle.std.specs.List.{AllByRecursion, flat_map}
use Rattle.std.specs.Option.{option_or}
use Rattle.osc_method.specs.Heard.{Fixed}
use Rattle.osc_model.specs.Limits.{Limits}
use Rattle.osc_model.specs.Events.{Room}
use Rattle.osc_model.specs.History.{HasHeard, invoked_in}
use Rattle.osc_core.specs.Standing.{history_in, AreMarked}
use Rattle.osc_core.specs.Telling.{told}
use Rattle.osc_turn.specs.declared.view.Entry.{Entry as Seen}
use Rattle.osc_turn.specs.History.{texts}
use Rattle.osc_live.specs.Seen.{performance_in}
use Rattle.osc_lanes.specs.Shares.{Account, known_of}
use Rattle.osc_life.specs.Lives.{added_ids}
use Rattle.osc_lanes.specs.Performs.{Part}
use Rattle.osc_lanes.specs.Later.{Performs}
use Rattle.osc_print.specs.Lines.{fault_text}
use Rattle.osc_replay.specs.Printed.{printed}
use Rattle.osc_script.specs.declared.line.Line.{Line}
use Rattle.osc_ends.specs.declared.outcome.Outcome.{Outcome}
use Rattle.osc_ends.specs.Outcomes.{stopped}
use Rattle.osc_script.specs.Adds.{is_add, count_adds}
use Rattle.osc_ends.specs.Printing.{last_text}
use Rattle.osc_top.specs.Watched.{watched_text}

-- as many lanes as the greatest number of one plus one
abbrev pub lane_count : List Line → ℕ
lane_count [] = 0
lane_count (line ∷ lines) = max (line.lane + 1) (lane_count lines)

-- the lines of a lane, in order
abbrev pub lines_in : ℕ → List Line → List Line
lines_in lane lines = filter (λ line. line.lane == lane) lines

module _ {M : Type 0} where
  -- of lines that have a box each, the boxes of those in a lane
  abbrev pub boxes_at : ℕ → List Line → List M → List M
  boxes_at lane [] bank = []
  boxes_at lane (line ∷ lines) [] = []
  boxes_at lane (line ∷ lines) (box ∷ bank) =
      (if line.lane == lane then box ∷ [] else []) ++ boxes_at lane lines bank

  -- the boxes of a lane: the k-th line that adds a method has the k-th box of the bank
  abbrev pub boxes_in : ℕ → List Line → List M → List M
  boxes_in lane lines bank = boxes_at lane (filter (λ line. is_add line.act) lines) bank

  -- the parts of so many lanes, from this one on
  abbrev pub parts_from : ℕ → ℕ → List Line → List M → List (Part M)
  parts_from lane zero lines bank = []
  parts_from lane (suc count) lines bank =
      record { lines = lines_in lane lines; boxes = boxes_in lane lines bank }
      ∷ parts_from (lane + 1) count lines bank

  -- a script's lines and a bank, lane by lane
  abbrev pub parts_of : List Line → List M → List (Part M)
  parts_of lines bank = parts_from 0 (lane_count lines) lines bank

  -- where the least lane of those that stopped did so
  abbrev pub first_stop : List (Account M) → Option Room
  first_stop [] = None
  first_stop (account ∷ accounts) = option_or account.stop (first_stop accounts)

  -- the lines of the faults, in line order, lane by lane
  abbrev pub lane_faults : List (Account M) → List ℕ
  lane_faults accounts =
      flat_map (λ account. flat_map (λ one. fault_text one.0 one.1) account.faults) accounts

  -- These boxes are those of the methods that a history adds, by their ids, ascending. They have
  -- heard the history, each with the mark of its id's entry.
  pub record HaveHeardAll (keep : M → Fixed) (heard : M → Option (List ℕ)) (caps : Limits)
      (history : List Seen) (boxes : List (ℕ × M)) : Type 0 where
    pub ids : map (λ one. one.0) boxes ≡ added_ids (history_in (texts history))
    pub have_heard : AllByRecursion
        (λ one. HasHeard (invoked_in (performance_in caps (texts history)))
        (known_of keep heard one.0 one.1)) boxes
    pub marked : AreMarked (texts history) (told keep heard boxes)

  -- The script's lanes were played on one new server. The boxes that were added have heard its one
  -- history; the others come back, lane by lane, and after them those that no line took. The text
  -- is that of the history, then the faults of the lanes, where they are watched the methods that
  -- stand after the history, and last the line on the stop, where there is one: of the enrolment
  -- for which there was no room, or of the least lane.
  pub record PlaysLanes (keep : M → Fixed) (heard : M → Option (List ℕ)) (caps : Limits)
      (watched : Bool) (bank : List M) (boxes_heard : List (ℕ × M)) (boxes_left : List M)
      (lines : List Line) (recording text : List ℕ) (outcome : Outcome) : Type 0 where
    pub kept : List (ℕ × M)
    pub accounts : List (Account M)
    pub unenrolled : Option Room
    pub performs : Performs keep heard caps (parts_of lines bank) recording kept accounts
        unenrolled
    pub boxes : HaveHeardAll keep heard caps performs.history boxes_heard
    pub left_is : boxes_left
        ≡ flat_map (λ account. account.back) accounts ++ drop (count_adds lines) bank
    pub outcome_is : outcome ≡ stopped (option_or unenrolled (first_stop accounts))
    pub text_is : text ≡ printed caps (history_in (texts performs.history))
        ++ (lane_faults accounts
        ++ (watched_text watched (history_in (texts performs.history)) ++ last_text outcome))
