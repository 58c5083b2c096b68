-- Inside the crate: what is seen of bytes that begin with a header.
use Rattle.std.specs.Prelude.{◌≡◌, ℕ, ◌<◌, ◌≤◌, List, Option, Some, None}
use Rattle.osc_model.specs.declared.late.Late.{Late}
use Rattle.osc_record.specs.Reading.{HasNoHeader}
use Rattle.osc_record.specs.Unread.{Remaining, HasHeader}
use Rattle.osc_story.specs.declared.reader.Stop.{Stop}
use Rattle.osc_story.specs.declared.look.Look.{Look}
use Rattle.osc_story.specs.declared.look.Look.TheVariants as look
use Rattle.osc_story.specs.Standings.{Standing, opened}
use Rattle.osc_story.specs.Seen.{HasSeen}

-- what stands, also before the first entry
abbrev pub begun : Option Standing → Late → Standing
begun None late = opened late
begun (Some standing) late = standing

-- the header was read, and entries after it were seen
pub record SawAfter (bytes : List ℕ) (came : ℕ) (old : Option Standing) (cause : Stop)
    (new : Option Standing) : Type 0 where
  pub left : Remaining
  pub standing : Standing
  pub header : HasHeader bytes left
  pub within : came ≤ left.caps.recording
  pub becomes : new ≡ Some standing
  pub seen : HasSeen (begun old left.caps.late) left cause standing

-- more bytes came than the header allows
pub record IsPast (bytes : List ℕ) (came : ℕ) : Type 0 where
  pub left : Remaining
  pub header : HasHeader bytes left
  pub long : left.caps.recording < came

-- a look at bytes, of so many that came
abbrev pub LooksAt : Look → List ℕ → ℕ → Option Standing → Option Standing → Type 0
LooksAt look.Malformed bytes came old new = HasNoHeader bytes 0 × (new ≡ old)
LooksAt look.TooLong bytes came old new = IsPast bytes came × (new ≡ old)
LooksAt (look.Saw cause) bytes came old new = SawAfter bytes came old cause new
