-- The rows of both versions are lawful, and are read as the entries that they stand for.
use Rattle.std.proofs.Common.{◌≡◌, ℕ, ◌≤◌, List, [], ◌∷◌, length, Option, Some, None, refl, sym, ap, ◌∙◌, lt-ltb, le-leb, arith}
use Rattle.std.specs.Prelude.{option_map}
use Rattle.std.specs.Option.{option_map_or}
use Rattle.osc_model.specs.Events.{Event, enrol, submit, add, remove, tick, release, Hit, Answer, number, callers_full, queued, units_full, pool_full, added}
use Rattle.osc_model.specs.Events.{refused, removed, not_there, ticked, clock_back, released, nothing_due, record_full}
use Rattle.osc_model.specs.Events.{Entry as Recorded}
use Rattle.osc_model.specs.Limits.{Limits}
use Rattle.osc_model.specs.Recordings.{Row, row_text, sized, FitsRow, IsSound, enrolled, submitted, adding, removing, ticking, releasing, hits_text}
use Rattle.osc_model.specs.Recordings.{enrol_row, add_row, remove_row, tick_row, release_row}
use Rattle.osc_record.specs.declared.version.Version.{Version}
use Rattle.osc_record.specs.declared.version.Version.TheVariants.{First, Second}
use Rattle.osc_record.specs.Versions.{header_size_of, header_text_in, old_submit_row, old_row_of, row_in, text_in, DropsNone, IsRecordableIn}
use Rattle.osc_record.specs.Versions.{AreInRangeIn}
use Rattle.osc_record.specs.Reading.{row_read}
use Rattle.osc_record.proofs.Lawful.{LawfulRow, ReadAs, row_lawful, entry_again, submit_address, balanced}

-- the parts of what an entry has to be
pub fits_in : (version : Version) (caller : ℕ) (event : Event) (answer : Answer) → IsRecordableIn version caller event answer
    → FitsRow (row_in version caller event answer)
fits_in First caller event answer is = is.fits
fits_in Second caller event answer is = is.fits

old_lawful : (caller : ℕ) (event : Event) (answer : Answer) → FitsRow (old_row_of caller event answer) → LawfulRow (old_row_of caller event answer)
old_lawful caller (submit packet) answer fit = go (submitted answer) fit where
  go : (o : Option (ℕ × ℕ × ℕ × ℕ)) → FitsRow (option_map (old_submit_row caller packet) o) → LawfulRow (option_map (old_submit_row caller packet) o)
  go None f = tt
  go (Some told) f = (submit_address, f, balanced (105 ∷ 98 ∷ 105 ∷ 104 ∷ 105 ∷ []) refl)
old_lawful caller enrol answer fit = row_lawful caller enrol answer fit
old_lawful caller (add address) answer fit = row_lawful caller (add address) answer fit
old_lawful caller (remove address) answer fit = row_lawful caller (remove address) answer fit
old_lawful caller (tick moment) answer fit = row_lawful caller (tick moment) answer fit
old_lawful caller release answer fit = row_lawful caller release answer fit

-- the message of an entry is lawful
pub lawful_in : (version : Version) (caller : ℕ) (event : Event) (answer : Answer) → IsRecordableIn version caller event answer
    → LawfulRow (row_in version caller event answer)
lawful_in First caller event answer is = old_lawful caller event answer is.fits
lawful_in Second caller event answer is = row_lawful caller event answer is.fits

-- a message that isn't a submit is read alike
as_before : {X : Type 0} (entry : Recorded) (make : X → Row)
    → ((x : X) → row_read First (make x).address (make x).arguments ≡ row_read Second (make x).address (make x).arguments) → (o : Option X)
    → ReadAs Second entry (option_map make o) → ReadAs First entry (option_map make o)
as_before entry make same None read = tt
as_before entry make same (Some x) read = same x ∙ read

abbrev entry_with : ℕ → Event → Answer → Recorded
entry_with caller event answer = record { caller = caller; event = event; answer = answer }

old_again : (caller : ℕ) (event : Event) (answer : Answer) → IsSound answer → DropsNone answer
    → ReadAs First (entry_with caller event answer) (old_row_of caller event answer)
old_again caller enrol answer sound none =
    as_before (entry_with caller enrol answer) (enrol_row caller) (λ z. refl) (enrolled answer) (entry_again caller enrol answer sound)
old_again caller (add address) answer sound none =
    as_before (entry_with caller (add address) answer) (add_row caller address) (λ t. refl) (adding answer) (entry_again caller (add address) answer sound)
old_again caller (remove address) answer sound none =
    as_before (entry_with caller (remove address) answer) (remove_row caller address) (λ t. refl) (removing answer)
    (entry_again caller (remove address) answer sound)
old_again caller (tick moment) answer sound none =
    as_before (entry_with caller (tick moment) answer) (tick_row caller moment) (λ t. refl) (ticking moment answer)
    (entry_again caller (tick moment) answer sound)
old_again caller release answer sound none =
    as_before {X = ℕ × List Hit} (entry_with caller release answer) (λ r. release_row caller r.0 (hits_text r.1)) (λ r. refl) (releasing answer)
    (entry_again caller release answer sound)
old_again caller (submit packet) (queued first count late) sound none =
    rw (le-leb 0 count (omega arith)) (ap (λ (n : ℕ). Some (entry_with caller (submit packet) (queued first count n))) (sym none))
old_again caller (submit packet) (units_full room) sound none = rw (lt-ltb room.free room.need sound) refl
old_again caller (submit packet) (pool_full room) sound none = rw (lt-ltb room.free room.need sound) refl
old_again caller (submit packet) (number n) sound none = tt
old_again caller (submit packet) callers_full sound none = tt
old_again caller (submit packet) (added id) sound none = tt
old_again caller (submit packet) (refused why) sound none = tt
old_again caller (submit packet) (removed id) sound none = tt
old_again caller (submit packet) not_there sound none = tt
old_again caller (submit packet) ticked sound none = tt
old_again caller (submit packet) (clock_back kept) sound none = tt
old_again caller (submit packet) (released unit hits) sound none = tt
old_again caller (submit packet) (nothing_due next) sound none = tt
old_again caller (submit packet) (record_full room) sound none = tt

-- and is read as the entry
pub again_in : (version : Version) (caller : ℕ) (event : Event) (answer : Answer) → IsRecordableIn version caller event answer
    → ReadAs version (entry_with caller event answer) (row_in version caller event answer)
again_in First caller event answer is = old_again caller event answer is.sound is.drops
again_in Second caller event answer is = entry_again caller event answer is.sound

-- an entry has some bytes
pub some_in : (version : Version) (caller : ℕ) (event : Event) (answer : Answer) → IsRecordableIn version caller event answer
    → 1 ≤ length (text_in version caller event answer)
some_in version caller event answer is = go (row_in version caller event answer) (fits_in version caller event answer is) where
  go : (o : Option Row) → FitsRow o → 1 ≤ length (option_map_or (λ row. sized (row_text row)) o [])
  go None f = absurd f
  go (Some row) f = omega arith

-- how many bytes a header has
pub header_length : (version : Version) (limits : Limits) → length (header_text_in version limits) ≡ header_size_of version
header_length First limits = refl
header_length Second limits = refl

-- the limit of a recording is in its range
pub range_above : (version : Version) (limits : Limits) → AreInRangeIn version limits → header_size_of version ≤ limits.recording
range_above First limits is = is.recording.above
range_above Second limits is = is.recording.above

pub range_below : (version : Version) (limits : Limits) → AreInRangeIn version limits → limits.recording ≤ 1073741824
range_below First limits is = is.recording.below
range_below Second limits is = is.recording.below

-- a header has at least four bytes
pub header_some : (version : Version) → 4 ≤ header_size_of version
header_some First = omega arith
header_some Second = omega arith
