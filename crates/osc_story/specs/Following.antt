-- A recording that comes in pieces: what is kept of it, what stands, and how far it was followed.
use Rattle.std.specs.Prelude.{◌≡◌, ℕ, ◌≤◌, ◌<◌, List, [], ◌++◌, length, Option, Some, None}
use Rattle.std.specs.List.{AllByRecursion}
use Rattle.osc_model.specs.Limits.{Limits, AreInRange, header_size}
use Rattle.osc_model.specs.Events.{Entry}
use Rattle.osc_model.specs.Recordings.{header_text, record_text}
use Rattle.osc_record.specs.Reading.{HasNoHeader}
use Rattle.osc_story.specs.declared.follower.Progress.{Progress}
use Rattle.osc_story.specs.declared.follower.Progress.TheVariants as progress
use Rattle.osc_story.specs.Standings.{Standing, opened, standing_after, AgreesAll}
use Rattle.osc_story.specs.Seen.{CanBe, text_of, HasNoEntry, BeginsUnlike}

-- The bytes that are kept: the header, and those that came after the last entry that was seen; how
-- many bytes the entries have that were seen; and what stands, once the header is whole.
pub record Following : Type 0 where
  pub bytes : List ℕ
  pub passed : ℕ
  pub standing : Option Standing

-- nothing has come
abbrev pub unbegun : Following
unbegun = record { bytes = []; passed = 0; standing = None }

-- The bytes that came are a header, these entries, and a rest. The entries agree and were seen, and
-- the header and the rest are kept.
pub record HasFollowed (came : List ℕ) (follower : Following) (caps : Limits)
    (entries : List Entry) (rest : List ℕ) (standing : Standing) : Type 0 where
  pub lawful : AreInRange caps
  pub text : came ≡ record_text caps entries ++ rest
  pub kept : follower.bytes ≡ header_text caps ++ rest
  pub passed : follower.passed ≡ length (text_of entries)
  pub can_be : AllByRecursion CanBe entries
  pub agree : AgreesAll (opened caps.late) entries
  pub becomes : standing ≡ standing_after caps.late entries

-- so for some entries; before the header is whole all bytes are kept
abbrev pub HasComeTo : List ℕ → Following → Option Standing → Type 0
HasComeTo came follower None = (follower.bytes ≡ came) × (follower.passed ≡ 0)
HasComeTo came follower (Some standing) =
    (caps : Limits) × (entries : List Entry) × (rest : List ℕ)
    × HasFollowed came follower caps entries rest standing

-- these bytes have come, whatever the pieces were
abbrev pub HasCome : List ℕ → Following → Type 0
HasCome came follower = HasComeTo came follower follower.standing

-- It was followed as far as it goes: the entries end within the limit, and what is left of the rest
-- after them begins so.
pub record HasGone (Begins : Limits → ℕ → List ℕ → Standing → Type 0) (came : List ℕ)
    (follower : Following) : Type 0 where
  pub caps : Limits
  pub entries : List Entry
  pub rest : List ℕ
  pub standing : Standing
  pub stands : follower.standing ≡ Some standing
  pub followed : HasFollowed came follower caps entries rest standing
  pub within : length came ≤ caps.recording
  pub begins : Begins caps (length (record_text caps entries)) rest standing

-- no whole entry begins the rest: all whole entries of what came are seen
abbrev pub HasCaughtUp : List ℕ → Following → Type 0
HasCaughtUp came follower = HasGone (λ caps at rest standing. HasNoEntry caps at rest) came follower

-- more bytes came than the header allows
pub record IsTooLong (came : List ℕ) : Type 0 where
  pub caps : Limits
  pub rest : List ℕ
  pub lawful : AreInRange caps
  pub text : came ≡ header_text caps ++ rest
  pub long : caps.recording < length came

-- what was done by a progress
abbrev pub Progresses : Progress → List ℕ → Following → Following → Type 0
Progresses progress.NoHeader came old new = (length came < header_size) × (new ≡ old)
Progresses progress.Malformed came old new =
    (header_size ≤ length came) × HasNoHeader came 0 × (new ≡ old)
Progresses progress.TooLong came old new = IsTooLong came × (new ≡ old)
Progresses progress.CaughtUp came old new = HasCaughtUp came new
Progresses (progress.Disagrees place why) came old new =
    HasGone (λ caps at rest standing. (place ≡ at) × BeginsUnlike standing rest why) came new
Progresses progress.NoMemory came old new = HasCome came new
