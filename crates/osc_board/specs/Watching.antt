-- A recording that comes in pieces: what is kept of it, what is seen, and how far it was followed.
use Rattle.std.specs.Prelude.{◌≡◌, ℕ, ◌+◌, ◌≤◌, ◌<◌, List, [], ◌++◌, length, Option, Some, None}
use Rattle.std.specs.List.{AllByRecursion}
use Rattle.osc_model.specs.Limits.{Limits, AreInRange, header_size}
use Rattle.osc_model.specs.Events.{Entry}
use Rattle.osc_model.specs.Recordings.{header_text, record_text}
use Rattle.osc_record.specs.Reading.{HasNoHeader}
use Rattle.osc_story.specs.declared.follower.Progress.{Progress}
use Rattle.osc_story.specs.declared.follower.Progress.TheVariants as progress
use Rattle.osc_board.specs.Boards.{past_after}
use Rattle.osc_board.specs.Pasts.{Past, no_past}
use Rattle.osc_board.specs.Sights.{Sight, opened, sight_after, AgreesAll}
use Rattle.osc_story.specs.Following.{IsTooLong}
use Rattle.osc_story.specs.Seen.{CanBe, text_of, HasNoEntry, BeginsUnlike}

-- The bytes that are kept: the header, and those that came after the last entry that was seen; how
-- many bytes the entries have that were seen; what is seen, once the header is whole; and what the
-- recordings before have shown.
pub record Watching : Type 0 where
  pub bytes : List ℕ
  pub passed : ℕ
  pub sight : Option Sight
  pub past : Past

-- nothing has come
abbrev pub unbegun : Watching
unbegun = record { bytes = []; passed = 0; sight = None; past = no_past }

-- what has been shown, with what is seen
abbrev pub past_with : Past → Option Sight → Past
past_with past None = past
past_with past (Some sight) = past_after past sight

-- nothing has come of the recording after this one
abbrev pub gone_on : Watching → Watching
gone_on watcher = record {
  bytes = [];
  passed = 0;
  sight = None;
  past = past_with watcher.past watcher.sight;
}

-- The bytes that came are a header, these entries, and a rest. The entries agree and were seen, and
-- the header and the rest are kept.
pub record HasFollowed (came : List ℕ) (watcher : Watching) (caps : Limits)
    (entries : List Entry) (rest : List ℕ) (sight : Sight) : Type 0 where
  pub lawful : AreInRange caps
  pub text : came ≡ record_text caps entries ++ rest
  pub kept : watcher.bytes ≡ header_text caps ++ rest
  pub passed : watcher.passed ≡ length (text_of entries)
  pub can_be : AllByRecursion CanBe entries
  pub agree : AgreesAll (opened caps.late) entries
  pub becomes : sight ≡ sight_after caps.late entries

-- so for some entries; before the header is whole all bytes are kept
abbrev pub HasComeTo : List ℕ → Watching → Option Sight → Type 0
HasComeTo came watcher None = (watcher.bytes ≡ came) × (watcher.passed ≡ 0)
HasComeTo came watcher (Some sight) =
    (caps : Limits) × (entries : List Entry) × (rest : List ℕ)
    × HasFollowed came watcher caps entries rest sight

-- these bytes have come, whatever the pieces were
abbrev pub HasCome : List ℕ → Watching → Type 0
HasCome came watcher = HasComeTo came watcher watcher.sight

-- It was followed as far as it goes: the entries end within the limit, and what is left of the rest
-- after them begins so.
pub record HasGone (Begins : Limits → ℕ → List ℕ → Sight → Type 0) (came : List ℕ)
    (watcher : Watching) : Type 0 where
  pub caps : Limits
  pub entries : List Entry
  pub rest : List ℕ
  pub sight : Sight
  pub stands : watcher.sight ≡ Some sight
  pub followed : HasFollowed came watcher caps entries rest sight
  pub within : length came ≤ caps.recording
  pub begins : Begins caps (length (record_text caps entries)) rest sight

-- no whole entry begins the rest: all whole entries of what came are seen
abbrev pub HasCaughtUp : List ℕ → Watching → Type 0
HasCaughtUp came watcher = HasGone (λ caps at rest sight. HasNoEntry caps at rest) came watcher

-- what was done by a progress
abbrev pub Progresses : Progress → List ℕ → Watching → Watching → Type 0
Progresses progress.NoHeader came old new = (length came < header_size) × (new ≡ old)
Progresses progress.Malformed came old new =
    (header_size ≤ length came) × HasNoHeader came 0 × (new ≡ old)
Progresses progress.TooLong came old new = IsTooLong came × (new ≡ old)
Progresses progress.CaughtUp came old new = HasCaughtUp came new
Progresses (progress.Disagrees place why) came old new =
    HasGone (λ caps at rest sight. (place ≡ at) × BeginsUnlike sight.standing rest why) came new
Progresses progress.NoMemory came old new = HasCome came new
