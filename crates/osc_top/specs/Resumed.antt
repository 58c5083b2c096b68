-- The result of a run of lanes after a past.
use Rattle.std.specs.Prelude.{◌≡◌, ℕ, ◌+◌, List, ◌++◌, map, drop, slice_get, Option, Some}
use Rattle.std.specs.List.{AllByRecursion, Contains, flat_map}
use Rattle.std.specs.Option.{option_or}
use Rattle.osc_method.specs.Heard.{Fixed}
use Rattle.osc_model.specs.Limits.{Limits}
use Rattle.osc_model.specs.State.{opening}
use Rattle.osc_model.specs.Events.{Entry, Room}
use Rattle.osc_model.specs.Enrolled.{callers_in}
use Rattle.osc_model.specs.Recordings.{record_text}
use Rattle.osc_model.specs.History.{HasHeard, after, invoked_in}
use Rattle.osc_core.specs.Standing.{history_in, CarriesMark, mark_of}
use Rattle.osc_turn.specs.declared.view.Entry.{Entry as Seen}
use Rattle.osc_turn.specs.History.{texts}
use Rattle.osc_live.specs.Resuming.{HasMarkOf, added_in, removed_in, roomier}
use Rattle.osc_live.specs.Seen.{performance_in}
use Rattle.osc_lanes.specs.Shares.{Account, known_of}
use Rattle.osc_life.specs.Lives.{added_ids}
use Rattle.osc_lanes.specs.Later.{PerformsLater}
use Rattle.osc_replay.specs.Disagreeing.{IsRecordingOf}
use Rattle.osc_replay.specs.Printed.{printed}
use Rattle.osc_script.specs.declared.line.Line.{Line}
use Rattle.osc_script.specs.Adds.{count_adds}
use Rattle.osc_ends.specs.declared.outcome.Outcome.{Outcome}
use Rattle.osc_ends.specs.Outcomes.{stopped}
use Rattle.osc_ends.specs.Printing.{last_text}
use Rattle.osc_ends.specs.Sinks.{SinkChange, Gains}
use Rattle.osc_top.specs.History.{IsOneHistory}
use Rattle.osc_top.specs.Lanes.{first_stop, lane_count, lane_faults, parts_of}

-- how many boxes a past and lines after it take: one for each method that one of them adds
abbrev pub boxes_for : List Entry → List Line → ℕ
boxes_for before lines = added_in before + count_adds lines

-- how many callers they have: those of the past, and one for each lane
abbrev pub callers_for : List Entry → List Line → ℕ
callers_for before lines = callers_in before + lane_count lines

module _ {M : Type 0} (keep : M → Fixed) (heard : M → Option (List ℕ)) where
  -- These boxes are those of the methods that a history adds, by their ids, ascending, and they
  -- have heard it. Where the past had removed the id, its box has the mark of the bank's box in
  -- that place; where not, that of its id's entry.
  pub record HaveHeardSince (caps : Limits) (before : List Entry) (bank : List M)
      (history : List Seen) (boxes : List (ℕ × M)) : Type 0 where
    pub ids : map (λ one. one.0) boxes ≡ added_ids (history_in (texts history))
    pub have_heard : AllByRecursion
        (λ one. HasHeard (invoked_in (performance_in caps (texts history)))
        (known_of keep heard one.0 one.1)) boxes
    pub old_marks : AllByRecursion (λ one. Contains (removed_in before) one.0
        → HasMarkOf keep heard bank one) boxes
    pub marked : AllByRecursion (λ one. ¬ Contains (removed_in before) one.0
        → CarriesMark (texts history) one.0 (mark_of (known_of keep heard one.0 one.1))) boxes

  -- where a past leaves a method registered, its entry has the mark of the bank's box in the place
  -- of its id
  abbrev pub AreMarkedByBank : Limits → List Entry → List M → List Seen → Type 0
  AreMarkedByBank caps before bank history = (id : ℕ) (method : M)
      → slice_get bank id ≡ Some method
      → Contains (map (λ one. one.id) (after (opening caps) before).methods) id
      → CarriesMark (texts history) id (mark_of (known_of keep heard id method))

  -- The script's lanes were played on the server of these limits that goes on from a past. The
  -- k-th method that the past adds has the k-th box of the bank, and the lines have the boxes
  -- after these. The boxes that were added have heard the one history, which begins with the past;
  -- the others come back, lane by lane, and after them those that no line took. The text is that
  -- of the history, then the faults of the lanes, and last the line on the stop, where there is
  -- one: of the enrolment for which there was no room, or of the least lane.
  pub record PlaysResumed (caps : Limits) (before : List Entry) (bank : List M)
      (boxes_heard : List (ℕ × M)) (boxes_left : List M) (lines : List Line)
      (recording text : List ℕ) (outcome : Outcome) : Type 0 where
    pub past : List (List ℕ)
    pub past_is : history_in past ≡ before
    pub kept : List (ℕ × M)
    pub accounts : List (Account M)
    pub unenrolled : Option Room
    pub performs : PerformsLater keep heard caps past (parts_of lines (drop (added_in before) bank))
        recording kept accounts unenrolled
    pub boxes : HaveHeardSince caps before bank performs.history boxes_heard
    pub bank_marks : AreMarkedByBank caps before bank performs.history
    pub left_is : boxes_left ≡ flat_map (λ account. account.back) accounts
        ++ drop (boxes_for before lines) bank
    pub outcome_is : outcome ≡ stopped (option_or unenrolled (first_stop accounts))
    pub text_is : text ≡ printed caps (history_in (texts performs.history))
        ++ (lane_faults accounts ++ last_text outcome)

  -- The bytes are the recording of a past, and what was recorded, with room for so many bytes at
  -- least, is that of a history which begins with it, keeps the four laws and was heard by these
  -- boxes. Its printed text begins what was printed.
  pub record RecordsOneHistory (room : ℕ) (bytes : List ℕ) (boxes : List (ℕ × M))
      (rec out : SinkChange) : Type 0 where
    pub caps : Limits
    pub before : List Entry
    pub since : List Entry
    pub rest : List ℕ
    pub recording_of : IsRecordingOf bytes caps before
    pub one : IsOneHistory keep heard (roomier caps room) (before ++ since) boxes
    pub recorded : Gains rec (record_text (roomier caps room) (before ++ since))
    pub text : Gains out (printed (roomier caps room) (before ++ since) ++ rest)
