-- A lane's share of a history.
use Rattle.std.specs.Prelude.{◌≡◌, ℕ, zero, suc, List, [], ◌∷◌, ◌++◌, map, Option, Some, None}
use Rattle.std.specs.Prelude.{MatchOption, MatchBool}
use Rattle.std.specs.List.{AllByRecursion}
use Rattle.osc_atoms.specs.declared.fault.Fault.{Fault}
use Rattle.osc_atoms.specs.declared.limits.TheConstants.{MAX_PACKET}
use Rattle.osc_packet.specs.Reading.{packet_fault}
use Rattle.osc_method.specs.Heard.{Fixed}
use Rattle.osc_model.specs.Limits.{Limits}
use Rattle.osc_model.specs.Events.{Event, Answer, Entry, Hit, Room, adds_entry, add, remove, submit}
use Rattle.osc_model.specs.Events.{tick, release, added, released, nothing_due}
use Rattle.osc_model.specs.Events.{record_full, room_in}
use Rattle.osc_model.specs.Heard.{Told}
use Rattle.osc_model.specs.History.{Legal, stepped_in, invoked_in, HasHeard}
use Rattle.osc_record.specs.Reading.{entry_in}
use Rattle.osc_core.specs.Standing.{text_with, history_in, CarriesMark, mark_of}
use Rattle.osc_script.specs.declared.act.Act.{Act}
use Rattle.osc_script.specs.declared.act.Act.TheVariants.{Add, Remove, Send, Tick, Pump}
use Rattle.osc_script.specs.declared.line.Line.{Line}
use Rattle.osc_turn.specs.declared.view.Entry.{Entry as Seen}
use Rattle.osc_turn.specs.History.{StartsWith, texts, entry, own}
use Rattle.osc_life.specs.Holders.{Holder, Onward}
use Rattle.osc_life.specs.Lives.{id_in}
use Rattle.osc_live.specs.Seen.{performance_in}

-- the token's entry stands after what was found
pub record EntersOne (token : ℕ) (one : Entry) (found there : List Seen) : Type 0 where
  pub text : List ℕ
  pub mark : List ℕ
  pub last : there ≡ found ++ entry token text ∷ []
  pub text_is : text ≡ text_with mark one
  pub read : entry_in text ≡ Some one

-- The holder's event is decided by the rules at one place, which goes on from what was seen; its
-- entry, if the answer adds one, stands there, and then all of this is seen. It is a legal history.
pub record Answered (holder : Holder) (event : Event) (answer : Answer)
    (here there : List Seen) : Type 0 where
  pub legal : Legal holder.caps (history_in (texts there))
  pub found : List Seen
  pub onward : Onward holder.token here found
  pub decided : answer ≡ (stepped_in (performance_in holder.caps (texts found)) event).answer
  pub then_seen : MatchBool (adds_entry answer)
      (EntersOne holder.token
      (record { caller = holder.caller; event = event; answer = answer }) found there)
      (there ≡ found)

-- a pump ends where nothing is due, or where there is no room for the entry
abbrev pub EndsPump : Answer → Type 0
EndsPump (nothing_due next) = Unit {0}
EndsPump (record_full room) = Unit {0}
EndsPump _ = ⊥

-- so many releases, one after another, each of a unit that is due
abbrev pub Releases : Holder → ℕ → List Seen → List Seen → Type 0
Releases holder zero here there = there ≡ here
Releases holder (suc count) here there =
    (place : List Seen) × (unit : ℕ) × (hits : List Hit) × Releases holder count here place
    × Answered holder release (released unit hits) place there

-- what a lane tells besides the history: the faults of its packets under their lines' numbers, the
-- boxes that it removed under their ids, the boxes that weren't added, and where it stopped
pub record Account (M : Type 0) : Type 0 where
  pub faults : List (ℕ × Fault)
  pub removed : List (ℕ × M)
  pub back : List M
  pub stop : Option Room

module _ {M : Type 0} where
  -- what is told first, and then the rest
  abbrev pub then_told : Account M → Account M → Account M
  then_told first rest =
      record {
        faults = first.faults ++ rest.faults;
        removed = first.removed ++ rest.removed;
        back = first.back ++ rest.back;
        stop = rest.stop;
      }

  -- what is told where a lane ends and these boxes are left
  abbrev pub ended : List M → Option Room → Account M
  ended boxes stop = record { faults = []; removed = []; back = boxes; stop = stop }

  -- the box comes back, unless it was added
  abbrev pub back_by : M → Answer → List M
  back_by box (added id) = []
  back_by box _ = box ∷ []

  module _ (keep : M → Fixed) (heard : M → Option (List ℕ)) where
    -- what is known of a box under an id
    abbrev pub known_of : ℕ → M → Told
    known_of id box = record { id = id; keep = keep box; heard = heard box }

    -- where a method was added, its entry carries the mark of this box
    abbrev pub IsMarkedBy : M → Answer → List Seen → Type 0
    IsMarkedBy box (added id) there = CarriesMark (texts there) id (mark_of (known_of id box))
    IsMarkedBy box _ there = Unit {0}

    -- a box that was removed has the mark of its id's entry, and has heard what the history says
    abbrev pub IsRemovedAt : Limits → List Seen → ℕ × M → Type 0
    IsRemovedAt caps there one = CarriesMark (texts there) one.0 (mark_of (known_of one.0 one.1))
        × HasHeard (invoked_in (performance_in caps (texts there))) (known_of one.0 one.1)

    -- One line is played between two places of the history. Of the boxes before, these are left;
    -- and this is told. A packet with a fault has no entry. A pump has its releases, and then a
    -- place where it ends.
    abbrev pub PlaysAct : Holder → ℕ → Act → List M → List M → Account M → List Seen → List Seen
        → Type 0
    PlaysAct holder number (Add address) boxes left account here there =
        (box : M) × (answer : Answer) × (boxes ≡ box ∷ left)
        × Answered holder (add address) answer here there × IsMarkedBy box answer there
        × (account
        ≡ record { faults = []; removed = []; back = back_by box answer; stop = room_in answer })
    PlaysAct holder number (Remove address) boxes left account here there =
        (out : List (ℕ × M)) × (answer : Answer) × (left ≡ boxes)
        × Answered holder (remove address) answer here there
        × (map (λ one. one.0) out ≡ id_in answer)
        × AllByRecursion (IsRemovedAt holder.caps there) out
        × (account ≡ record { faults = []; removed = out; back = []; stop = room_in answer })
    PlaysAct holder number (Send bytes) boxes left account here there =
        (left ≡ boxes) × MatchOption (packet_fault MAX_PACKET bytes)
        ((answer : Answer) × Answered holder (submit bytes) answer here there
        × (account ≡ ended [] (room_in answer)))
        (λ fault. (there ≡ here)
        × (account
        ≡ record { faults = (number, fault) ∷ []; removed = []; back = []; stop = None }))
    PlaysAct holder number (Tick moment) boxes left account here there =
        (left ≡ boxes) × (answer : Answer) × Answered holder (tick moment) answer here there
        × (account ≡ ended [] (room_in answer))
    PlaysAct holder number Pump boxes left account here there =
        (left ≡ boxes) × (count : ℕ) × (place : List Seen) × (answer : Answer)
        × Releases holder count here place × Answered holder release answer place there
        × EndsPump answer × (account ≡ ended [] (room_in answer))

    -- The lines are played between two places, one after another, up to the first event that finds
    -- no room. The k-th line that adds a method has the k-th box.
    abbrev pub Plays : Holder → List Line → List M → Account M → List Seen → List Seen → Type 0
    Plays holder [] boxes account here there = (account ≡ ended boxes None) × (there ≡ here)
    Plays holder (line ∷ lines) boxes account here there =
        (left : List M) × (first : Account M) × (place : List Seen)
        × PlaysAct holder line.number line.act boxes left first here place
        × MatchOption first.stop
        ((rest : Account M) × (account ≡ then_told first rest)
        × Plays holder lines left rest place there)
        (λ room. (account ≡ then_told first (ended left (Some room))) × (there ≡ place))

    -- A lane's share of a history: its lines were played from where its token came in, and the
    -- history has no other entry of it.
    abbrev pub LaneOf : Holder → List Line → List M → Account M → List Seen → Type 0
    LaneOf holder lines boxes account history =
        (here : List Seen) × (there : List Seen) × (own holder.token here ≡ [])
        × Plays holder lines boxes account here there × Onward holder.token there history

    -- the same of a token that came in after these entries
    abbrev pub LaneAfter : Holder → List Line → List M → Account M → List Seen → List Seen → Type 0
    LaneAfter holder lines boxes account first history =
        (here : List Seen) × (there : List Seen) × StartsWith here first
        × (own holder.token here ≡ [])
        × Plays holder lines boxes account here there × Onward holder.token there history
