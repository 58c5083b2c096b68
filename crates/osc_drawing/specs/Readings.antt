-- The entries that are read of what is left of a recording.
use Rattle.std.specs.Prelude.{◌≡◌, ℕ, ◌+◌, ◌<◌, List, [], ◌++◌, length, Option, Some, None}
use Rattle.std.specs.List.{AllByRecursion}
use Rattle.osc_record.specs.declared.event.Entry.{Entry as Read}
use Rattle.osc_record.specs.Unread.{Remaining}
use Rattle.osc_story.specs.Seen.{CanBe, text_of, HasNoEntry}
use Rattle.osc_drawing.specs.Sketches.{told}

-- nothing is left, or something, and no whole entry begins it at a place
abbrev pub EndsSo : Option ℕ → Remaining → Type 0
EndsSo None left = left.rest ≡ []
EndsSo (Some place) left =
    (place ≡ left.at) × (0 < length left.rest) × HasNoEntry left.caps left.at left.rest

-- these were read of what was left
pub record HasReadAll (old : Remaining) (entries : List Read) (cut : Option ℕ) (new : Remaining)
    : Type 0 where
  pub text : old.rest ≡ text_of (told entries) ++ new.rest
  pub can_be : AllByRecursion CanBe (told entries)
  pub place : new.at ≡ old.at + length (text_of (told entries))
  pub caps : new.caps ≡ old.caps
  pub ends : EndsSo cut new
