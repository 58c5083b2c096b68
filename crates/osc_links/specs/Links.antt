-- A link's share of a history.
use Rattle.std.specs.Prelude.{◌≡◌, ℕ, ◌+◌, ◌<◌, List, [], ◌∷◌, ◌++◌, Option, Some, None, option_map}
use Rattle.std.specs.Prelude.{IfSome, MatchOption}
use Rattle.osc_atoms.specs.declared.fault.Fault.{Fault}
use Rattle.osc_edge.specs.Faults.{Rose}
use Rattle.osc_method.specs.Heard.{Fixed}
use Rattle.osc_model.specs.Events.{Room}
use Rattle.osc_record.specs.Shown.{room_of}
use Rattle.osc_script.specs.declared.act.Act.TheVariants.{Send}
use Rattle.osc_turn.specs.declared.view.Entry.{Entry as Seen}
use Rattle.osc_turn.specs.History.{own}
use Rattle.osc_links.specs.declared.link_work.LinkEnd.{LinkEnd}
use Rattle.osc_links.specs.declared.link_work.Over.{Over}
use Rattle.osc_links.specs.declared.link_work.Over.TheVariants.{Count, Idle, End, Failed, Full}
use Rattle.osc_links.specs.declared.served.Bounds.{Bounds}
use Rattle.osc_life.specs.Holders.{Holder, Onward}
use Rattle.osc_lanes.specs.Shares.{Account, then_told, ended, PlaysAct}

-- a turn of a link: the bytes of a datagram, or none where it wasn't ready
abbrev pub LinkTurn : Type 0
LinkTurn = Option (List ℕ)

-- after so many datagrams, and so many quiets in a row, neither bound is reached
abbrev pub IsOpen : Bounds → ℕ → ℕ → Type 0
IsOpen bounds taken quiets = (taken < bounds.count) × (quiets < bounds.idle)

-- a link ends so after its last turn, where that turn left room in the recording
abbrev pub EndsAfter : Bounds → ℕ → ℕ → Over → Type 0
EndsAfter bounds taken quiets Count = taken ≡ bounds.count
EndsAfter bounds taken quiets Idle = quiets ≡ bounds.idle
EndsAfter bounds taken quiets End = IsOpen bounds taken quiets
EndsAfter bounds taken quiets Failed = IsOpen bounds taken quiets
EndsAfter bounds taken quiets (Full room) = ⊥

-- where the recording was full, the room that was needed and the room that is free
abbrev pub stop_by : Over → Option Room
stop_by (Full room) = Some (room_of room)
stop_by _ = None

-- A link that says that it has ended has nothing left, where it tells. One failed only where its
-- count of faults rose, and otherwise the count stays.
abbrev pub HasEndCause : Over → Option (List LinkTurn) → ℕ → ℕ → Type 0
HasEndCause End left before now = IfSome left (λ turns. turns ≡ []) × (now ≡ before)
HasEndCause Failed left before now = Rose before now
HasEndCause _ left before now = now ≡ before

module _ {M : Type 0} where
  -- what a link tells besides the history, which has no boxes
  abbrev pub link_account : List (ℕ × Fault) → Option Room → Account M
  link_account faults stop = record { faults = faults; removed = []; back = []; stop = stop }

  module _ (keep : M → Fixed) (heard : M → Option (List ℕ)) where
    -- The turns that a link takes are played between two places, one after another, after so many
    -- datagrams and so many quiets in a row. A datagram is played as a line that sends it, under
    -- the datagram's number. The last turn is the one that reaches a bound, or whose submit finds
    -- no room; or the link ends or fails after it.
    abbrev pub PlaysTurns : Holder → Bounds → ℕ → ℕ → List LinkTurn → Over → Account M → List Seen
        → List Seen → Type 0
    PlaysTurns holder bounds taken quiets [] over account here there =
        EndsAfter bounds taken quiets over × (account ≡ ended [] None) × (there ≡ here)
    PlaysTurns holder bounds taken quiets (None ∷ turns) over account here there =
        IsOpen bounds taken quiets
        × PlaysTurns holder bounds taken (quiets + 1) turns over account here there
    PlaysTurns holder bounds taken quiets (Some bytes ∷ turns) over account here there =
        IsOpen bounds taken quiets × (first : Account M) × (place : List Seen)
        × PlaysAct keep heard holder (taken + 1) (Send bytes) [] [] first here place
        × MatchOption first.stop
        ((rest : Account M) × (account ≡ then_told first rest)
        × PlaysTurns holder bounds (taken + 1) 0 turns over rest place there)
        (λ room. (turns ≡ []) × (stop_by over ≡ Some room) × (account ≡ first) × (there ≡ place))

    -- A link's share of a history: its turns were played from where its token came in, and the
    -- history has no other entry of it.
    abbrev pub LinkOf : Holder → Bounds → List LinkTurn → Over → Account M → List Seen → Type 0
    LinkOf holder bounds turns over account history =
        (here : List Seen) × (there : List Seen) × (own holder.token here ≡ [])
        × PlaysTurns holder bounds 0 0 turns over account here there
        × Onward holder.token there history

    -- A link was served between two places as this says, and ended so: the turns that it took were
    -- played there. Where the link tells, what it had left are these turns and what it has left
    -- after them.
    pub record ServesLink {L : Type 0} (left : L → Option (List LinkTurn)) (faults : L → ℕ)
        (holder : Holder) (bounds : Bounds) (from : L) (end : LinkEnd L)
        (here there : List Seen) : Type 0 where
      pub turns : List LinkTurn
      pub plays : PlaysTurns holder bounds 0 0 turns end.over
          (link_account end.faults.items (stop_by end.over)) here there
      pub taken : left from ≡ option_map (λ after. turns ++ after) (left end.from)
      pub cause : HasEndCause end.over (left end.from) (faults from) (faults end.from)
