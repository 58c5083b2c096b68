-- The bytes that are kept of a recording that comes in pieces.
use Rattle.std.specs.Prelude.{ℕ, ◌+◌, ◌-◌, ◌<◌, List, [], ◌++◌, length, take, drop}
use Rattle.osc_model.specs.Limits.{header_size, max_recording}
use Rattle.osc_story.specs.declared.reader.Stop.{Stop}
use Rattle.osc_story.specs.declared.reader.Stop.TheVariants as stop
use Rattle.osc_story.specs.declared.follower.Progress.{Progress}
use Rattle.osc_story.specs.declared.follower.Progress.TheVariants as progress
use Rattle.osc_story.specs.declared.follower.TakeFault.{TakeFault}
use Rattle.osc_story.specs.declared.follower.TakeFault.TheVariants as take

-- the header, and the bytes that came after the last entry that was seen; and how many bytes the
-- entries have that were seen
pub record Kept : Type 0 where
  pub bytes : List ℕ
  pub passed : ℕ

-- nothing has come
abbrev pub none_kept : Kept
none_kept = record { bytes = []; passed = 0 }

-- out of memory; or, after so many bytes, more would have come than the largest recording has
abbrev pub IsTakeFault : TakeFault → ℕ → List ℕ → Type 0
IsTakeFault take.NoMemory came piece = Unit {0}
IsTakeFault take.TooLong came piece = max_recording < came + length piece

-- the header and the bytes from a place on are kept
abbrev pub kept_from : Kept → ℕ → Kept
kept_from kept place =
    record kept {
      bytes = take header_size kept.bytes ++ drop place kept.bytes;
      passed = kept.passed + (place - header_size);
    }

-- the place up to which was seen, of so many bytes
abbrev pub place_of : ℕ → Stop → ℕ
place_of all stop.End = all
place_of all (stop.NotWhole at) = at
place_of all (stop.Disagrees at why) = at
place_of all (stop.NoMemory at) = at

-- what is said of a stop at a place
abbrev pub progress_of : ℕ → Stop → Progress
progress_of place stop.End = progress.CaughtUp
progress_of place (stop.NotWhole at) = progress.CaughtUp
progress_of place (stop.Disagrees at why) = progress.Disagrees place why
progress_of place (stop.NoMemory at) = progress.NoMemory
