-- The result of a performance of lanes on a server that goes on from a past.
use Rattle.std.specs.Prelude.{◌≡◌, ℕ, ◌<◌, IsTrue, List, [], ◌++◌, length}
use Rattle.std.specs.Prelude.{map, All, Option, None, MatchOption}
use Rattle.std.specs.List.{AllByRecursion}
use Rattle.std.specs.List.Sorted.{IsPermutation}
use Rattle.osc_method.specs.Heard.{Fixed}
use Rattle.osc_model.specs.Limits.{Limits}
use Rattle.osc_model.specs.Enrolled.{callers_in}
use Rattle.osc_model.specs.Events.{Room}
use Rattle.osc_model.specs.Recordings.{record_text}
use Rattle.osc_model.specs.History.{HaveHeard}
use Rattle.osc_core.specs.Ids.{is_ascending}
use Rattle.osc_core.specs.Telling.{told}
use Rattle.osc_core.specs.Standing.{history_in, AreMarked}
use Rattle.osc_turn.specs.declared.view.Entry.{Entry as Seen}
use Rattle.osc_turn.specs.declared.view.View.{View}
use Rattle.osc_turn.specs.History.{texts, own}
use Rattle.osc_live.specs.Resuming.{removed_in}
use Rattle.osc_live.specs.Seen.{performance_in}
use Rattle.osc_lanes.specs.Shares.{Account, IsRemovedAt, LaneAfter, ended}
use Rattle.osc_life.specs.Lives.{IsLife, Numbered, HasNoRoomToEnrol, added_ids}
use Rattle.osc_lanes.specs.Performs.{Part}
use Rattle.osc_life.specs.Holders.{Holder, holder_at}
use Rattle.osc_lanes.specs.Performs.{removed_ids}

-- how many callers there were at the end of a past
abbrev pub old_callers : List (List ℕ) → ℕ
old_callers past = callers_in (history_in past)

-- The history of a server with these limits that goes on from the entries of a past, on which
-- caller 0 has then enrolled so many callers, and did nothing else. It is legal, keeps the four
-- laws, and begins with the entries of the past and these enrolments, which are all entries of
-- caller 0's token. The new callers are numbered after the old ones, of whom none but caller 0 has
-- an entry since then; and each entry since then is of the caller whose number its token has.
abbrev pub IsLaterStage : Limits → List (List ℕ) → ℕ → List Seen → Type 0
IsLaterStage caps past callers history =
    IsLife caps past (history_in past) (old_callers past) callers history

module _ {M : Type 0} where
  -- The history is recorded. The ids that it adds are those of the boxes that are kept, those that
  -- were removed in the past, and those that lanes removed, each once; and the boxes that are kept
  -- or that lanes removed have heard the history, each with the mark of its id's entry.
  pub record IsClosedLater (keep : M → Fixed) (heard : M → Option (List ℕ)) (caps : Limits)
      (past : List (List ℕ)) (history : List Seen) (recording : List ℕ) (kept : List (ℕ × M))
      (accounts : List (Account M)) : Type 0 where
    pub recorded : recording ≡ record_text caps (history_in (texts history))
    pub ids : IsPermutation (added_ids (history_in (texts history)))
        (map (λ one. one.0) kept ++ (removed_in (history_in past) ++ removed_ids accounts))
    pub ascending : IsTrue (is_ascending (added_ids (history_in (texts history))))
    pub kept_heard : HaveHeard (performance_in caps (texts history)) (told keep heard kept)
    pub kept_marked : AreMarked (texts history) (told keep heard kept)
    pub removed : All (λ account. AllByRecursion (IsRemovedAt keep heard caps history)
        account.removed) accounts

  -- The parts were played on a server that goes on from a past, each as a lane next to the others,
  -- the first by the caller after the old ones, unless the recording had no room for an enrolment:
  -- then no lane was started, so that all entries are those of caller 0's token, and all boxes come
  -- back. There is one history, with which the server was closed, and each lane has its share of
  -- it.
  pub record PerformsLater (keep : M → Fixed) (heard : M → Option (List ℕ)) (caps : Limits)
      (past : List (List ℕ)) (parts : List (Part M)) (recording : List ℕ) (kept : List (ℕ × M))
      (accounts : List (Account M)) (unenrolled : Option Room) : Type 0 where
    pub history : List Seen
    pub callers : ℕ
    pub stage : IsLaterStage caps past callers history
    pub closed : IsClosedLater keep heard caps past history recording kept accounts
    pub shares : MatchOption unenrolled
        ((callers ≡ length parts)
        × Numbered
        (λ number part account. LaneAfter keep heard (holder_at caps number) part.lines part.boxes
        account (own 0 history) history) (old_callers past) parts accounts)
        (λ room. (callers < length parts) × HasNoRoomToEnrol caps history room
        × (accounts ≡ map (λ part. ended part.boxes None) parts))

  -- the same on a new server
  abbrev pub Performs : (M → Fixed) → (M → Option (List ℕ)) → Limits → List (Part M) → List ℕ
      → List (ℕ × M) → List (Account M) → Option Room → Type 0
  Performs keep heard caps parts recording kept accounts unenrolled =
      PerformsLater keep heard caps [] parts recording kept accounts unenrolled

  -- The parts were performed so, and something else meanwhile, by caller 0, which ended after all
  -- of the one history.
  pub record PerformsBeside {X F : Type 0}
      (ends : X → X → F → Holder → List (List Seen) → View → View → Type 0)
      (keep : M → Fixed) (heard : M → Option (List ℕ)) (caps : Limits) (past : List (List ℕ))
      (parts : List (Part M)) (recording : List ℕ) (kept : List (ℕ × M))
      (accounts : List (Account M)) (unenrolled : Option Room) (before after : X)
      (end : F) : Type 0 where
    pub performs : PerformsLater keep heard caps past parts recording kept accounts unenrolled
    pub start : View
    pub last : View
    pub tokens : List (List Seen)
    pub ended : ends before after end (holder_at caps 0) tokens start last
    pub whole : last.seen ≡ performs.history
