-- The lines of a unit's messages, when it is called, and when it waits at the end.
use Rattle.std.specs.Prelude.{◌≡◌, ℕ, ◌+◌, ◌==◌, Bool, true, false, if◌then◌else◌, List, []}
use Rattle.std.specs.Prelude.{◌∷◌, length, Option}
use Rattle.std.specs.List.{flat_map}
use Rattle.osc_message.specs.Arguments.{unknown_of}
use Rattle.osc_message.specs.Reading.{pattern_of}
use Rattle.osc_model.specs.Events.{Call}
use Rattle.osc_shown.specs.declared.head.Head.{Head}
use Rattle.osc_shown.specs.Called.{called_by, late_part, IsQueuedTail}
use Rattle.osc_shown.specs.Lines.{join_of}
use Rattle.osc_shown.specs.Tails.{called_mark, joined}
use Rattle.osc_shown.specs.Told.{AddsTold}
use Rattle.osc_report.specs.declared.front.Front.{Front}
use Rattle.osc_report.specs.declared.options.Options.{Options}
use Rattle.osc_report.specs.Choices.{is_named, is_call_named}
use Rattle.osc_report.specs.Moments.{shown_moment}
use Rattle.osc_report.specs.Notes.{head}

-- What is told of a unit's messages: that they make calls, and for which time tag they came late, if
-- they did; or that they aren't called yet, and are due from a moment on, which has come or hasn't.
pub data Tell : Type 0 where
  calls : List Call → Option ℕ → Tell
  waits : ℕ → Bool → Tell

-- the address of a call of the message at an index
abbrev pub place_in : ℕ → Call → List (List ℕ)
place_in index call = if call.index == index then call.address ∷ [] else []

-- the addresses of all its calls
abbrev pub places_in : ℕ → List Call → List (List ℕ)
places_in index made = flat_map (place_in index) made

-- its mark
abbrev pub mark_of_called : List Call → ℕ → List ℕ → ℕ
mark_of_called made index message =
    called_mark (unknown_of message) (length (places_in index made))

-- its tail
abbrev pub tail_of_called : Front → Option ℕ → List Call → ℕ → List ℕ → List ℕ
tail_of_called front late made index message =
    joined (called_by front.look.whole (unknown_of message) message (places_in index made))
    (late_part (shown_moment front.moment) late)

-- the mark and the tail of the message at an index
abbrev pub IsTell : Front → Tell → ℕ → List ℕ → ℕ → List ℕ → Type 0
IsTell front (calls made late) index message mark tail =
    (mark ≡ mark_of_called made index message)
    × (tail ≡ tail_of_called front late made index message)
IsTell front (waits due is_due) index message mark tail =
    (mark ≡ 126) × IsQueuedTail front.look.clock (shown_moment front.moment) due is_due tail

-- the line of a message was added, if it is shown
abbrev pub AddsChosen : Bool → Head → List ℕ → List ℕ → List ℕ → List ℕ → Type 0
AddsChosen false head message tail before after = after ≡ before
AddsChosen true head message tail before after = AddsTold head message tail before after

-- the line of a message is shown: by the addresses that it called, else by its pattern
abbrev pub is_told : Option (List ℕ) → Tell → ℕ → List ℕ → Bool
is_told only (calls made late) index message = is_call_named only message (places_in index made)
is_told only (waits due is_due) index message = is_named only (pattern_of message)

-- it was added, with a join, if it is shown
pub record AddsToldLine (options : Options) (front : Front) (tell : Tell) (index join : ℕ)
    (message before after : List ℕ) : Type 0 where
  pub mark : ℕ
  pub tail : List ℕ
  pub told : IsTell front tell index message mark tail
  pub text : AddsChosen (is_told options.only tell index message)
      (head front mark join) message tail before after

-- the lines of the messages from an index on were added
abbrev pub AddsToldLines : Options → Front → Tell → ℕ → List (List ℕ) → List ℕ → List ℕ → Type 0
AddsToldLines options front tell index [] before after = after ≡ before
AddsToldLines options front tell index (message ∷ messages) before after =
    (mid : List ℕ)
    × AddsToldLine options front tell index (join_of (index == 0) (length messages == 0)) message
    before mid
    × AddsToldLines options front tell (index + 1) messages mid after
