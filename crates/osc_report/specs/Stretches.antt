-- The entries that are read and shown together: those up to and with the next tick or release, or all
-- that are left.
use Rattle.std.specs.Prelude.{◌≡◌, ℕ, ◌+◌, ◌<◌, true, false, Bool, List, [], ◌∷◌, ◌++◌, length, map}
use Rattle.std.specs.Prelude.{Option, Some, None}
use Rattle.std.specs.List.{AllByRecursion}
use Rattle.osc_model.specs.Limits.{Limits}
use Rattle.osc_model.specs.Events.{Event, tick}
use Rattle.osc_model.specs.Events.{Answer, ticked, Entry}
use Rattle.osc_record.specs.declared.event.Entry.{Entry as Read}
use Rattle.osc_record.specs.Left.{placed_of}
use Rattle.osc_record.specs.Reading.{Placed}
use Rattle.osc_record.specs.Unread.{Remaining, Reads}
use Rattle.osc_story.specs.Seen.{CanBe, text_of, HasNoEntry}
use Rattle.osc_report.specs.declared.stretch.Shown.{Shown}
use Rattle.osc_report.specs.declared.stretch.Shown.TheVariants.{Stretch, All, NotWhole}
use Rattle.osc_report.specs.Moments.{ends_stretch}

-- entries at their places
abbrev pub placed : List Read → List Placed
placed entries = map placed_of entries

-- what they tell
abbrev pub told : List Placed → List Entry
told entries = map (λ placed. placed.entry) entries

-- none of them is a tick or a release
abbrev pub GoesOn : List Entry → Type 0
GoesOn entries = AllByRecursion (λ entry. ends_stretch entry.event ≡ false) entries

-- so are all but the last, which is one
abbrev pub IsStretch : List Entry → Type 0
IsStretch entries =
    (front : List Entry) × (last : Entry) × GoesOn front × (ends_stretch last.event ≡ true)
    × (entries ≡ front ++ last ∷ [])

-- how they end, at a place from which this is left
abbrev pub EndsSo : Shown → Limits → ℕ → List Entry → List ℕ → Type 0
EndsSo Stretch caps at entries rest = IsStretch entries
EndsSo All caps at entries rest = GoesOn entries × (rest ≡ [])
EndsSo (NotWhole place) caps at entries rest =
    GoesOn entries × (place ≡ at) × (0 < length rest) × HasNoEntry caps at rest

-- they were read of what was left
pub record HasRead (old : Remaining) (entries : List Entry) (shown : Shown) (new : Remaining)
    : Type 0 where
  pub text : old.rest ≡ text_of entries ++ new.rest
  pub can_be : AllByRecursion CanBe entries
  pub place : new.at ≡ old.at + length (text_of entries)
  pub caps : new.caps ≡ old.caps
  pub ends : EndsSo shown new.caps new.at entries new.rest

-- where the clock stands after an event
abbrev pub clock_at : ℕ → Event → Answer → ℕ
clock_at clock (tick now) ticked = now
clock_at clock _ _ = clock

abbrev pub clock_after : ℕ → List Entry → ℕ
clock_after clock [] = clock
clock_after clock (entry ∷ entries) =
    clock_after (clock_at clock entry.event entry.answer) entries

-- one more entry was read, which ends a stretch or doesn't
pub record ReadsOne (last : Bool) (left now : Remaining) (before after : List Placed)
    (clock next : ℕ) : Type 0 where
  pub placed : Placed
  pub reads : Reads left placed now
  pub ends : ends_stretch placed.entry.event ≡ last
  pub entries : after ≡ before ++ placed ∷ []
  pub clock_is : next ≡ clock_at clock placed.entry.event placed.entry.answer

-- nothing was read
pub record ReadsNone (left now : Remaining) (before after : List Placed) (clock next : ℕ)
    : Type 0 where
  pub left_is : now ≡ left
  pub entries : after ≡ before
  pub clock_is : next ≡ clock

-- one more was read, after these entries and at a clock, or a stretch ends, or nothing more is whole
abbrev pub ReadsNext : Option Shown → Remaining → Remaining → List Placed → List Placed → ℕ → ℕ
    → Type 0
ReadsNext None left now before after clock next = ReadsOne false left now before after clock next
ReadsNext (Some Stretch) left now before after clock next =
    ReadsOne true left now before after clock next
ReadsNext (Some All) left now before after clock next =
    ReadsNone left now before after clock next × (left.rest ≡ [])
ReadsNext (Some (NotWhole place)) left now before after clock next =
    ReadsNone left now before after clock next × (place ≡ left.at)
    × (0 < length left.rest) × HasNoEntry left.caps left.at left.rest
