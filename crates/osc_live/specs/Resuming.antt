-- What a server is that goes on from a recording.
use Rattle.std.specs.Prelude.{◌≡◌, ℕ, zero, suc, ◌+◌, ◌≤◌, max, List, [], ◌∷◌, map, drop}
use Rattle.std.specs.Prelude.{slice_get, count_by, if◌then◌else◌, Bool, false, Option, Some, None}
use Rattle.std.specs.Prelude.{All}
use Rattle.std.specs.List.{filter_map, Contains}
use Rattle.osc_method.specs.Heard.{Fixed}
use Rattle.osc_turn.specs.declared.view.View.{View}
use Rattle.osc_turn.specs.Rule.{reopening}
use Rattle.osc_turn.specs.Passes.{guest_of}
use Rattle.osc_model.specs.Limits.{Limits}
use Rattle.osc_model.specs.State.{opening}
use Rattle.osc_model.specs.Events.{Event, Answer, add, remove, removed, Entry, is_added, is_removed}
use Rattle.osc_model.specs.Enrolled.{callers_in}
use Rattle.osc_model.specs.Recordings.{header_text, record_text}
use Rattle.osc_model.specs.History.{Legal, HasHeard, after, invocations}
use Rattle.osc_core.specs.Redoing.{told_as}
use Rattle.osc_core.specs.Standing.{mark_of, AreTexts, history_in, CarriesMark}

-- the bytes are the recording of a legal history
pub record Records (bytes : List ℕ) (caps : Limits) (history : List Entry) : Type 0 where
  pub legal : Legal caps history
  pub text : bytes ≡ record_text caps history

-- how many methods a history adds
abbrev pub added_in : List Entry → ℕ
added_in history = count_by (λ entry. is_added entry.answer) history

-- the id of a method that was removed
abbrev pub removed_id : Answer → Option ℕ
removed_id (removed id) = Some id
removed_id _ = None

-- those that a history removes, in order
abbrev pub removed_in : List Entry → List ℕ
removed_in history = filter_map (λ entry. removed_id entry.answer) history

-- the address that is handed in again with an entry
abbrev pub needed_by : Event → Answer → Option (List ℕ)
needed_by (add bytes) answer = if is_added answer then Some bytes else None
needed_by (remove bytes) answer = if is_removed answer then Some bytes else None
needed_by event answer = None

-- whether a box is handed in with it
abbrev pub takes_box : Event → Answer → Bool
takes_box (add bytes) answer = is_added answer
takes_box event answer = false

-- the bytes are a recording of a history that adds no more methods than there are boxes
abbrev pub CanResume : List ℕ → ℕ → Type 0
CanResume bytes boxes =
    (caps : Limits) × (history : List Entry) × Records bytes caps history
    × (added_in history ≤ boxes)

-- the limits, with room for a recording of so many bytes at least
abbrev pub roomier : Limits → ℕ → Limits
roomier caps room = record caps { recording = max caps.recording room }

-- what caller 0's token knows: it has the entries that were there, and knows how many tokens were
-- made
abbrev pub first_resumed : Limits → List (List ℕ) → ℕ → View
first_resumed caps opened made =
    record (reopening (header_text caps) opened) { made = made }

-- what another caller's token knows: it has seen the entries that were there
abbrev pub other_resumed : Limits → List (List ℕ) → ℕ → View
other_resumed caps opened number =
    record (guest_of (reopening (header_text caps) opened)) { numbers = number ∷ [] }

-- the tokens of so many callers, from a number on
abbrev pub others_resumed : Limits → List (List ℕ) → ℕ → ℕ → List (ℕ × View)
others_resumed caps opened number zero = []
others_resumed caps opened number (suc count) =
    (number, other_resumed caps opened number) ∷ others_resumed caps opened (number + 1) count

-- the tokens of all callers, ascending
abbrev pub all_resumed : Limits → List (List ℕ) → ℕ → List (ℕ × View)
all_resumed caps opened zero = []
all_resumed caps opened (suc count) =
    (0, first_resumed caps opened (suc count)) ∷ others_resumed caps opened 1 count

module _ {M : Type 0} (keep : M → Fixed) (heard : M → Option (List ℕ)) where
  -- a box has the mark of the one that stood in the place of its id
  abbrev pub HasMarkOf : List M → ℕ × M → Type 0
  HasMarkOf bank one = (method : M) × (slice_get bank one.0 ≡ Some method)
      × (mark_of (told_as keep heard one.0 one.1) ≡ mark_of (told_as keep heard one.0 method))

  -- the marks of boxes
  abbrev pub marks : List M → List (List ℕ)
  marks boxes = map (λ method. mark_of (told_as keep heard 0 method)) boxes

  -- the boxes of removed methods have heard what the history says
  abbrev pub HaveHeardAll : Limits → List Entry → List (ℕ × M) → Type 0
  HaveHeardAll limits history out =
      All (λ one. HasHeard (invocations (opening limits) history)
      (told_as keep heard one.0 one.1)) out

  -- A server that goes on from the recording of a history: the limits are the old ones, with the
  -- greater of the old room and the new one; the entries that were there when its turn was opened
  -- are the history's; each caller of the history has a token, ascending, which has seen them, and
  -- knows nothing else; where a method is still registered, its entry carries the mark of the box
  -- that stood in the place of its id; the removed methods' boxes come out in the order of their
  -- removal, each with the mark that it had; and the boxes that no added method got come out as
  -- they were.
  pub record Resumes (caps : Limits) (history : List Entry) (room : ℕ) (bank : List M)
      (limits : Limits) (opened : List (List ℕ)) (callers : List (ℕ × View)) (out : List (ℕ × M))
      (left : List M) : Type 0 where
    pub limits_are : limits ≡ roomier caps room
    pub legal : Legal limits history
    pub read : history_in opened ≡ history
    pub written : AreTexts history opened
    pub tokens : callers ≡ all_resumed limits opened (callers_in history)
    pub marked : (id : ℕ) (method : M) → slice_get bank id ≡ Some method
        → Contains (map (λ one. one.id) (after (opening limits) history).methods) id
        → CarriesMark opened id (mark_of (told_as keep heard id method))
    pub out_ids : map (λ one. one.0) out ≡ removed_in history
    pub out_marks : All (HasMarkOf bank) out
    pub rest : left ≡ drop (added_in history) bank
