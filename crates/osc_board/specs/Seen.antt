-- Of what is left of a recording, what is seen of it.
use Rattle.std.specs.Prelude.{◌≡◌, ℕ, ◌+◌, List, ◌++◌, length, Option, Some, None}
use Rattle.std.specs.List.{AllByRecursion}
use Rattle.osc_model.specs.Limits.{Limits}
use Rattle.osc_model.specs.Events.{Entry}
use Rattle.osc_record.specs.Reading.{Placed}
use Rattle.osc_record.specs.Unread.{Remaining, Reads}
use Rattle.osc_story.specs.declared.reader.Stop.{Stop}
use Rattle.osc_story.specs.Seen.{CanBe, text_of}
use Rattle.osc_story.specs.Seen as story
use Rattle.osc_board.specs.Sights.{Sight, AgreesAll, Follows, seen_all}

-- why no more is seen of the bytes from a place on
abbrev pub StopsFor : Stop → Limits → Sight → ℕ → List ℕ → Type 0
StopsFor cause caps sight at rest = story.StopsFor cause caps sight.standing at rest

-- Of what was left of a recording entries were seen, all of which agree, and there is a cause why
-- it stopped.
pub record HasSeen (old : Sight) (left : Remaining) (cause : Stop) (new : Sight) : Type 0 where
  pub entries : List Entry
  pub rest : List ℕ
  pub text : left.rest ≡ text_of entries ++ rest
  pub can_be : AllByRecursion CanBe entries
  pub agree : AgreesAll old entries
  pub becomes : new ≡ seen_all old entries
  pub stops : StopsFor cause left.caps new (left.at + length (text_of entries)) rest

-- one more entry was read and seen, or nothing was seen, for a cause
abbrev pub SeesNext : Sight → Remaining → Option Stop → Sight → Remaining → Type 0
SeesNext old left None new after = (placed : Placed) × Reads left placed after
    × Follows old placed.entry new
SeesNext old left (Some cause) new after =
    (new ≡ old) × StopsFor cause left.caps old left.at left.rest
