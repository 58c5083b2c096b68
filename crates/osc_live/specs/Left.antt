-- Inside the crate: the entries of a recording that aren't read yet.
use Rattle.std.specs.Prelude.{◌≤◌, List, IsTrue, is_ok}
use Rattle.osc_atoms.specs.Atoms.{AreBytes}
use Rattle.osc_model.specs.Limits.{max_recording}
use Rattle.osc_record.specs.declared.version.Version.TheVariants.{Second}
use Rattle.osc_record.specs.Reading.{Placed, placed_in, entries_at}
use Rattle.osc_record.specs.Unread.{Remaining}

-- those that are left, each at its place
abbrev pub rows_in : Remaining → List Placed
rows_in left = placed_in (entries_at Second left.caps.recording left.at left.rest)

-- all that is left can be read
pub record AreRows (left : Remaining) : Type 0 where
  pub small : left.caps.recording ≤ max_recording
  pub bytes : AreBytes left.rest
  pub readable : IsTrue (is_ok (entries_at Second left.caps.recording left.at left.rest))
